use Rattle.std.proofs.Common.{get_or, of_z, to_z, w64, sym, subst}
use Rattle.std.specs.List.{All}
use Rattle.std.proofs.lemmas.List.Elements.{All-map}
use Rattle.viz_mesh_meaning.specs.Select.{selected}
use Rattle.viz_sheet.specs.Sheet.{IsFit}
use Rattle.viz_node_rules.proofs.meshes.select_input.Goals as goal

pub whole_mesh-requires : goal.whole_mesh-requires
whole_mesh-requires c =
    let sheets = c.in_ok-sheets.sheets.now in
    let fit = c.in_ok-sheets.ensures.fits in
    let lo = to_z w64 (of_z w64 c.args.lo.now) in
    let hi = to_z w64 (of_z w64 c.args.hi.now) in
    subst (All IsFit) (sym c.in_ok-select.ensures.value)
    (All-map IsFit (selected c.args.all lo hi) sheets (λ k d l. c.filters_fit.ensures.selection c.args.all lo hi (get_or sheets k d) (fit k d l)))
