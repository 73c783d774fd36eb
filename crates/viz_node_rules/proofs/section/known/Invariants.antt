use Rattle.std.proofs.Common.{take}
use Rattle.std.specs.List.{All}
use Rattle.viz_sheet.specs.Sheet.{IsSheet}
use Rattle.viz_node_rules.proofs.section.known.Given as goal

abbrev pub invariant-loop-sheet : goal.invariant-loop-sheet
invariant-loop-sheet l = All IsSheet (take l.sheet-index l.sheets)
