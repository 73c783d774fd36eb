use Rattle.std.proofs.Common.{◌≡◌, ◌+◌, length, take, arith}
use Rattle.viz_mesh_write.specs.Cells.{cells_of}
use Rattle.viz_scratch.proofs.CountLemmas.{cells_more, cells_below}
use Rattle.viz_scratch.proofs.counts.cells_in.Goals as goal

pub loop-sheet-preserved : goal.loop-sheet-preserved
loop-sheet-preserved c =
    let more = cells_more c.args.sheets.now c.loop-sheet.sheet-index c.sheet-item.result c.loop-sheet-test.true c.sheet-item.is in
    let next : c.in_ok-count.count ≡ length (cells_of (take (c.loop-sheet.sheet-index + 1) c.args.sheets.now)) = omega (arith, c.in_ok-count.ensures, more, c.loop-sheet.invariant, c.cell_count.ensures.value) in
    next

pub returns-in_err-count-clause-none : goal.returns-in_err-count-clause-none
returns-in_err-count-clause-none c none =
    let more = cells_more c.args.sheets.now c.loop-sheet.sheet-index c.sheet-item.result c.loop-sheet-test.true c.sheet-item.is in
    omega (arith, c.in_err-count.ensures, more, c.loop-sheet.invariant, c.cell_count.ensures.value, cells_below (c.loop-sheet.sheet-index + 1) c.args.sheets.now)
