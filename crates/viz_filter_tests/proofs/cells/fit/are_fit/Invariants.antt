use Rattle.std.proofs.Common.{take}
use Rattle.std.specs.List.{All}
use Rattle.viz_sheet.specs.Sheet.{IsFit}
use Rattle.viz_filter_tests.proofs.cells.fit.are_fit.Given as goal

abbrev pub invariant-loop-sheet : goal.invariant-loop-sheet
invariant-loop-sheet l = All IsFit (take l.sheet-index l.sheets)
