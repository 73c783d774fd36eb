use Rattle.std.proofs.Common.{map}
use Rattle.viz_mesh_write.specs.Steps.SheetCells.{indices_by}
use Rattle.viz_mesh_write.proofs.SectionLemmas.{types_are, types_block}
use Rattle.viz_mesh_write.proofs.sections.put_types.Goals as goal

pub returns : goal.returns
returns g c =
    types_are c.args.binary (indices_by g.S.SheetCells.seen c.args.sheets.now) c.args.n _ (g.T.Target.text c.args.text.now) (g.T.Target.text c.put_types_line.new.text) _ c.requires.count (types_block c.args.binary c.args.n (map g.S.SheetCells.seen c.args.sheets.now) c.requires.count) c.in_ok-put_types_line.ensures c.in_ok-put_block.ensures
