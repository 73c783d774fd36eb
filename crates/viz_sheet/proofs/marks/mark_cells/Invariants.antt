use Rattle.std.proofs.Common.{take}
use Rattle.std.specs.List.{flat_map}
use Rattle.viz_sheet.specs.Steps.Marking.{IsMarkedBy}
use Rattle.viz_sheet.proofs.marks.mark_cells.Given as goal

abbrev pub invariant-loop-cell : goal.invariant-loop-cell
invariant-loop-cell g l = IsMarkedBy l.initial.marks (flat_map g.C.CellRanks.list (take l.cell-index l.cells)) l.marks
