use Rattle.std.proofs.Common.{◌≡◌, take}
use Rattle.std.specs.List.{flat_map}
use Rattle.viz_sheet.specs.Arrays.{names_in}
use Rattle.viz_piece_stitch.proofs.names.end_to_end.Given as goal

abbrev pub invariant-loop-part : goal.invariant-loop-part
invariant-loop-part l = names_in l.names ≡ flat_map (λ p. p.sheet.names) (take l.part-index l.parts)
