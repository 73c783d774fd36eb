use Rattle.std.proofs.Common.{◌<◌, ◌∙◌, arith, ap, get_or, length, subst, sym, []}
use Rattle.viz_mesh_meaning.specs.Facets.{facets_of}
use Rattle.viz_mesh_meaning.proofs.FacetLemmas.{facets-map}
use Rattle.viz_sheet.specs.Ranked.{names_at}
use Rattle.viz_sheet.specs.Sheet.{SheetData}
use Rattle.viz_mesh_parts.specs.Steps.{Passes}
use Rattle.viz_mesh_parts.proofs.HandedLemmas.{handed-next}
use Rattle.viz_mesh_parts.proofs.bounding.facet_levels.Goals as goal

pub loop-i-preserved : goal.loop-i-preserved
loop-i-preserved c =
    let part = c.args.part.now in
    let made = c.args.made.now.cells in
    let s = c.sheet-sheet.result.now in
    let i = c.loop-i.i in
    let ranks = c.cell.result.now in
    let below : i < length part.sheet.cells = omega (arith, c.loop-i-test.true, c.cell_count-i-end.ensures.value, ap (λ (t : SheetData). length t.cells) c.sheet-sheet.ensures.value) in
    let passes : Passes made c.loop-i.at (facets_of (names_at s.names ranks)) c.pass_facets-next.result =
    subst (λ cs. Passes made c.loop-i.at cs c.pass_facets-next.result) (facets-map (λ r. get_or s.names r []) ranks c.cell.ensures.most) c.pass_facets-next.ensures.value in
    handed-next facets_of part made i c.loop-i.at c.pass_facets-next.result (names_at s.names ranks) c.level.result c.loop-i.levels.items c.push_copies.new.levels.items
    c.known.ensures.valid.matched below (ap (λ (t : SheetData). get_or t.cells i []) (sym c.sheet-sheet.ensures.value) ∙ sym c.cell.ensures.names) c.level.ensures.value
    passes c.in_ok-push_copies.ensures c.loop-i.invariant
