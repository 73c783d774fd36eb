use Rattle.std.proofs.Common.{take}
use Rattle.std.specs.List.{All}
use Rattle.viz_sheet.specs.Sheet.{IsFit}
use Rattle.viz_piece_plain.proofs.fit.are_fit.Given as goal

abbrev pub invariant-loop-part : goal.invariant-loop-part
invariant-loop-part l = All (λ p. IsFit p.sheet) (take l.part-index l.parts)
