use Rattle.std.proofs.Common.{◌≡◌, ◌++◌, ◌∙◌, List, ℕ, subst, sym, rules}
use Rattle.std.specs.Prelude.{OnOk}
use Rattle.viz_mesh_write.specs.Steps.SheetCells.{indices_by}
use Rattle.viz_mesh_write.proofs.SectionLemmas.{all_count, no_cells, no_indices, some_cells}
use Rattle.viz_mesh_write.proofs.sections.put_poly.Goals as goal

pub put_section-requires-clause-count : goal.put_section-requires-clause-count
put_section-requires-clause-count g c =
    sym (search (rules, c.cells.ensures, c.if-cells-eq0.true)) ∙ all_count (indices_by g.S.SheetCells.seen c.args.sheets.now) c.args.tally.now c.requires.ready

pub put_section-requires-clause-indices : goal.put_section-requires-clause-indices
put_section-requires-clause-indices g c =
    let cells = indices_by g.S.SheetCells.seen c.args.sheets.now in
    no_indices cells (sym (all_count cells c.args.tally.now c.requires.ready) ∙ search (rules, c.cells.ensures, c.if-cells-eq0.true))

pub put_parts-requires-clause-vertices : goal.put_parts-requires-clause-vertices
put_parts-requires-clause-vertices g c =
    (c.requires.ready.sections.1 c.requires.none).0

pub put_parts-requires-clause-lines : goal.put_parts-requires-clause-lines
put_parts-requires-clause-lines g c =
    (c.requires.ready.sections.1 c.requires.none).1

pub put_parts-requires-clause-triangles : goal.put_parts-requires-clause-triangles
put_parts-requires-clause-triangles g c =
    (c.requires.ready.sections.1 c.requires.none).2

pub returns-then-cells-eq0 : goal.returns-then-cells-eq0
returns-then-cells-eq0 g c =
    subst (λ (t : List ℕ). OnOk c.put_section.result ((g.T.Target.text c.put_section.new.text) ≡ (g.T.Target.text c.args.text.now) ++ t))
    (no_cells c.args.later c.args.binary (indices_by g.S.SheetCells.seen c.args.sheets.now) c.args.tally.now c.requires.ready (search (rules, c.cells.ensures, c.if-cells-eq0.true))) c.put_section.ensures

pub returns-else-cells-eq0 : goal.returns-else-cells-eq0
returns-else-cells-eq0 g c =
    subst (λ (t : List ℕ). OnOk c.put_parts.result ((g.T.Target.text c.put_parts.new.text) ≡ (g.T.Target.text c.args.text.now) ++ t))
    (some_cells c.args.later c.args.binary (indices_by g.S.SheetCells.seen c.args.sheets.now) c.args.tally.now c.requires.ready (search (rules, c.cells.ensures, c.if-cells-eq0.false))) c.put_parts.ensures
