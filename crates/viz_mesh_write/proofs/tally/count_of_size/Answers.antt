use Rattle.std.proofs.Common.{◌∙◌}
use Rattle.viz_mesh_write.proofs.TallyLemmas.{count_more}
use Rattle.viz_mesh_write.proofs.tally.count_of_size.Goals as goal

pub loop-sheet-preserved : goal.loop-sheet-preserved
loop-sheet-preserved c =
    c.saturating_add-count.ensures ∙ count_more c.args.size c.loop-sheet.count c.count_sheet.result c.args.sheets.now c.loop-sheet.sheet-index c.sheet-item.result c.loop-sheet-test.true c.sheet-item.is c.loop-sheet.invariant c.count_sheet.ensures
