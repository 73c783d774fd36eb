use Rattle.std.proofs.Common.{IfSome, sym, subst, ◌∙◌}
use Rattle.std.specs.List.{All}
use Rattle.std.specs.Option.{option_copied}
use Rattle.viz_dataset.specs.declared.dataset.Dataset.TheVariants as dataset
use Rattle.viz_legacy_read.specs.Reading.{IsSound}
use Rattle.viz_sheet.specs.Sheet.{IsFit}
use Rattle.viz_node_rules.proofs.meshes.sheets_in.Goals as goal

pub returns-in-Mesh-clause-fits : goal.returns-in-Mesh-clause-fits
returns-in-Mesh-clause-fits c =
    let there : IsSound c.in-Some.dataset.now = subst (λ o. IfSome (option_copied o) IsSound) c.in-Some.is c.requires.sound in
    let sound : IsSound (dataset.Mesh c.in-Mesh.mesh) = subst IsSound (sym c.get.ensures.value ∙ c.in-Mesh.is) there in
    subst (All IsFit) (sym c.sheets.ensures.value) sound.1
