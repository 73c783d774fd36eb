use Rattle.std.proofs.Common.{◌≡◌, ◌++◌, List, ℕ, subst, arith}
use Rattle.std.specs.Prelude.{OnOk}
use Rattle.viz_mesh_write.specs.Cells.{of_size}
use Rattle.viz_mesh_write.specs.Steps.SheetCells.{indices_by}
use Rattle.viz_mesh_write.proofs.SectionLemmas.{indices_are, numbers_fit, is_section}
use Rattle.viz_mesh_write.proofs.sections.put_some_section.Goals as goal

pub put_section-requires-clause-indices : goal.put_section-requires-clause-indices
put_section-requires-clause-indices g c =
    indices_are c.args.size c.args.n (indices_by g.S.SheetCells.seen c.args.sheets.now) c.requires.count

pub put_section-requires-clause-fits : goal.put_section-requires-clause-fits
put_section-requires-clause-fits g c = numbers_fit c.args.size c.args.n c.requires.fits

pub returns : goal.returns
returns g c =
    let cells = of_size c.args.size (indices_by g.S.SheetCells.seen c.args.sheets.now) in
    let count = c.requires.count in
    let some = c.if-n-eq0.false in
    subst (λ (t : List ℕ). OnOk c.put_section.result ((g.T.Target.text c.put_section.new.text) ≡ (g.T.Target.text c.args.text.now) ++ t))
    (is_section c.args.later c.args.binary c.args.keyword.now cells (omega (arith, count, some))) c.put_section.ensures
