use Rattle.std.proofs.Common.{take}
use Rattle.viz_sheet.specs.Steps.Marking.{IsMarkedBy}
use Rattle.viz_piece_restrict.proofs.marking.mark_cell.Given as goal

abbrev pub invariant-loop-rank : goal.invariant-loop-rank
invariant-loop-rank l = IsMarkedBy l.initial.marks (take l.rank-index l.cell) l.marks
