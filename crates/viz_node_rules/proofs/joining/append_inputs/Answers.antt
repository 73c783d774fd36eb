use Rattle.std.proofs.Common.{sym, ap, subst, ◌∙◌}
use Rattle.std.specs.List.{All}
use Rattle.viz_mesh_meaning.specs.Append.{appended}
use Rattle.viz_sheet.specs.Sheet.{IsFit}
use Rattle.viz_node_rules.proofs.JoinLemmas.{meshes-fit}
use Rattle.viz_node_rules.proofs.joining.append_inputs.Goals as goal

pub whole_mesh-requires : goal.whole_mesh-requires
whole_mesh-requires c =
    subst (All IsFit) (sym (c.in_ok-append.ensures.value ∙ ap appended c.in_ok-meshes.ensures)) (meshes-fit c.args.table.now c.args.places.now c.requires.sound)
