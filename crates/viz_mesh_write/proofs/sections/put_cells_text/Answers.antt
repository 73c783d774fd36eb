use Rattle.std.proofs.Common.{◌≡◌, ℕ, List, ◌++◌, subst}
use Rattle.std.specs.Prelude.{OnOk}
use Rattle.viz_mesh_write.specs.Steps.SheetCells.{indices_by}
use Rattle.viz_mesh_write.proofs.SectionLemmas.{cells_are_grid, cells_are_poly}
use Rattle.viz_mesh_write.proofs.sections.put_cells_text.Goals as goal

pub returns-then-tally-eq0 : goal.returns-then-tally-eq0
returns-then-tally-eq0 g c =
    subst (λ (t : List ℕ). OnOk c.put_poly.result ((g.T.Target.text c.put_poly.new.text) ≡ (g.T.Target.text c.args.text.now) ++ t)) (cells_are_poly c.args.later c.args.binary (indices_by g.S.SheetCells.seen c.args.sheets.now) c.args.tally.now c.requires.ready c.if-tally-eq0.true) c.put_poly.ensures

pub returns-else-tally-eq0 : goal.returns-else-tally-eq0
returns-else-tally-eq0 g c =
    subst (λ (t : List ℕ). OnOk c.put_grid.result ((g.T.Target.text c.put_grid.new.text) ≡ (g.T.Target.text c.args.text.now) ++ t)) (cells_are_grid c.args.later c.args.binary (indices_by g.S.SheetCells.seen c.args.sheets.now) c.args.tally.now c.requires.ready c.if-tally-eq0.false) c.put_grid.ensures
