use Rattle.std.proofs.Common.{false, map}
use Rattle.viz_mesh_write.specs.Steps.Passes.{kept}
use Rattle.viz_mesh_write.specs.Steps.SheetCells.{indices_by}
use Rattle.viz_mesh_write.proofs.SectionLemmas.{counted_is, kept_block}
use Rattle.viz_mesh_write.proofs.sections.put_counted_section.Goals as goal

pub returns : goal.returns
returns g c =
    let sheets = map g.S.SheetCells.seen c.args.sheets.now in
    let cells = kept c.args.size (indices_by g.S.SheetCells.seen c.args.sheets.now) in
    counted_is c.args.binary c.args.keyword.now cells c.args.counts.0 c.args.counts.1 _ (g.T.Target.text c.args.text.now) (g.T.Target.text c.put_section_line.new.text) _ c.requires.count c.requires.indices (kept_block c.args.size false c.args.binary c.args.counts.0 sheets c.requires.count) c.in_ok-put_section_line.ensures c.in_ok-put_block.ensures
