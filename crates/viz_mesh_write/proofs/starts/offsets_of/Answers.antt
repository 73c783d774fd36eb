use Rattle.std.proofs.Common.{arith}
use Rattle.viz_mesh_write.proofs.StartLemmas.{sheet_count_more}
use Rattle.viz_mesh_write.proofs.starts.offsets_of.Goals as goal

pub push_sheet-requires : goal.push_sheet-requires
push_sheet-requires g c =
    let more = sheet_count_more g.S.SheetCells.seen c.args.size c.args.sheets.now c.loop-sheet.sheet-index c.sheet-item.result c.loop-sheet-test.true c.sheet-item.is in
    omega (arith, more, c.loop-sheet.invariant.next, c.requires.few)
