use Rattle.std.proofs.Common.{List, ℕ, take, subst}
use Rattle.std.specs.List.{flat_map}
use Rattle.viz_sheet.specs.Steps.Marking.{IsMarkedBy}
use Rattle.viz_sheet.proofs.MarkingLemmas.{cell_marked, flat-more}
use Rattle.viz_sheet.proofs.marks.mark_cells.Goals as goal

pub loop-cell-preserved : goal.loop-cell-preserved
loop-cell-preserved g c =
    let list = g.C.CellRanks.list in
    let cells = c.args.cells.now in
    let i = c.loop-cell.cell-index in
    let item = c.cell-item.result in
    let new = c.mark_cell.new.marks in
    let marked : IsMarkedBy c.loop-cell.marks (list item) new = subst (λ (cell : List ℕ). IsMarkedBy c.loop-cell.marks cell new) c.list.ensures c.mark_cell.ensures in
    let here = subst (λ x. IsMarkedBy c.loop-cell.marks (list x) new) c.cell-item.is marked in
    rw (flat-more list cells i item c.loop-cell-test.true)
    (cell_marked c.args.marks.now (flat_map list (take i cells)) c.loop-cell.marks (list _) new c.loop-cell.invariant here)
