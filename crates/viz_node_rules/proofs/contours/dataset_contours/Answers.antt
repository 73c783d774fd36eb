use Rattle.std.proofs.Common.{◌≡◌, ◌∷◌, [], Some, List, map, sym, ap, subst, ◌∙◌}
use Rattle.std.specs.List.{All}
use Rattle.viz_dataset.specs.declared.dataset.Dataset.TheVariants as dataset
use Rattle.viz_fraction.specs.Forms.{contour_form}
use Rattle.viz_legacy_read.specs.Reading.{IsSound}
use Rattle.viz_meaning.specs.Tetrahedra.{tetrahedra_sheet}
use Rattle.viz_sheet.specs.Sheet.{IsFit}
use Rattle.viz_node_rules.specs.Makes.{Makes}
use Rattle.viz_node_rules.specs.Steps.Made.{IsContoured}
use Rattle.viz_node_rules.proofs.MakesLemmas.{contour_makes, IsSectioned}
use Rattle.viz_node_rules.proofs.contours.dataset_contours.Goals as goal

pub mesh_contours-requires : goal.mesh_contours-requires
mesh_contours-requires c =
    let sound : IsSound (dataset.Mesh c.in-Mesh.mesh) = subst IsSound c.in-Mesh.is c.requires.sound in
    subst (All IsFit) (sym c.sheets.ensures.value) sound.1

pub returns-in-Image-clause-value : goal.returns-in-Image-clause-value
returns-in-Image-clause-value c =
    let levels = c.args.levels.now in
    let made = c.image_contours.ensures in
    subst (λ d. Makes (IsContoured levels (Some d)) c.sectioned.result) (sym c.in-Image.is)
    (subst (Makes (IsContoured levels (Some (dataset.Image c.in-Image.image)))) (sym c.sectioned.ensures.value)
    (contour_makes (map contour_form levels) (dataset.Image c.in-Image.image) c.image_contours.result (record { value = made.value; narrow = made.narrow; too_wide = made.too_wide })))

pub returns-in-Mesh-clause-value : goal.returns-in-Mesh-clause-value
returns-in-Mesh-clause-value c =
    let levels = c.args.levels.now in
    let forms = map contour_form levels in
    let made = c.mesh_contours.ensures in
    let sheets = c.sheets.ensures.value in
    let sectioned = subst (λ all. IsSectioned forms all c.mesh_contours.result) sheets (record { value = made.value; narrow = made.narrow; too_wide = made.too_wide }) in
    subst (λ d. Makes (IsContoured levels (Some d)) c.sectioned-in-Mesh.result) (sym c.in-Mesh.is)
    (subst (Makes (IsContoured levels (Some (dataset.Mesh c.in-Mesh.mesh)))) (sym c.sectioned-in-Mesh.ensures.value)
    (contour_makes forms (dataset.Mesh c.in-Mesh.mesh) c.mesh_contours.result sectioned))
