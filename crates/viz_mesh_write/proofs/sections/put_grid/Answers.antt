use Rattle.std.proofs.Common.{◌-◌, ℕ, ap₂, ◌∙◌, arith}
use Rattle.viz_mesh_write.specs.Steps.SheetCells.{indices_by}
use Rattle.viz_mesh_write.proofs.SectionLemmas.{all_count, all_indices, grid_is}
use Rattle.viz_mesh_write.proofs.sections.put_grid.Goals as goal

pub put_section-requires-clause-count : goal.put_section-requires-clause-count
put_section-requires-clause-count g c =
    c.cells-n.ensures ∙ all_count (indices_by g.S.SheetCells.seen c.args.sheets.now) c.args.tally.now c.requires.ready

pub put_section-requires-clause-indices : goal.put_section-requires-clause-indices
put_section-requires-clause-indices g c =
    ap₂ (λ (a b : ℕ). a - b) c.size.ensures c.cells-n.ensures
    ∙ all_indices (indices_by g.S.SheetCells.seen c.args.sheets.now) c.args.tally.now c.requires.ready

pub put_section-requires-clause-fits : goal.put_section-requires-clause-fits
put_section-requires-clause-fits g c =
    let few = c.requires.ready.sections.0 c.requires.some in
    omega (arith, few, c.size.ensures, c.cells-n.ensures)

pub put_types-requires-clause-count : goal.put_types-requires-clause-count
put_types-requires-clause-count g c =
    c.cells-n.ensures ∙ all_count (indices_by g.S.SheetCells.seen c.args.sheets.now) c.args.tally.now c.requires.ready

pub returns : goal.returns
returns g c =
    grid_is c.args.later c.args.binary (indices_by g.S.SheetCells.seen c.args.sheets.now) (g.T.Target.text c.args.text.now) (g.T.Target.text c.put_section.new.text) _ c.in_ok-put_section.ensures c.in_ok-put_types.ensures
