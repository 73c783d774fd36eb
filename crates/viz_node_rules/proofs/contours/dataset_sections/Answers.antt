use Rattle.std.proofs.Common.{sym, subst}
use Rattle.std.specs.List.{All}
use Rattle.viz_dataset.specs.declared.dataset.Dataset.TheVariants as dataset
use Rattle.viz_legacy_read.specs.Reading.{IsSound}
use Rattle.viz_sheet.specs.Sheet.{IsFit}
use Rattle.viz_node_rules.proofs.contours.dataset_sections.Goals as goal

pub mesh_sections-requires : goal.mesh_sections-requires
mesh_sections-requires c =
    let sound : IsSound (dataset.Mesh c.in-Mesh.mesh) = subst IsSound c.in-Mesh.is c.requires.sound in
    subst (All IsFit) (sym c.sheets.ensures.value) sound.1
