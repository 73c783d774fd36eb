use Rattle.std.proofs.Common.{get_or, sym, subst}
use Rattle.std.specs.List.{All}
use Rattle.std.proofs.lemmas.List.Elements.{All-map}
use Rattle.viz_mesh_meaning.specs.Facets.{boundary_of}
use Rattle.viz_sheet.specs.Sheet.{IsFit}
use Rattle.viz_node_rules.proofs.meshes.boundary_input.Goals as goal

pub whole_mesh-requires : goal.whole_mesh-requires
whole_mesh-requires c =
    let sheets = c.in_ok-sheets.sheets.now in
    let fit = c.in_ok-sheets.ensures.fits in
    subst (All IsFit) (sym c.in_ok-boundary.ensures.value)
    (All-map IsFit boundary_of sheets (λ k d l. c.filters_fit.ensures.boundary (get_or sheets k d) (c.known.ensures k d l) (fit k d l)))
