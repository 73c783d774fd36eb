use Rattle.viz_node_rules.proofs.JoinLemmas.{meshes-more}
use Rattle.viz_node_rules.proofs.joining.copied_meshes.Goals as goal

pub loop-place-preserved : goal.loop-place-preserved
loop-place-preserved c =
    meshes-more c.args.table.now c.args.places.now c.loop-place.place-index _ c.loop-place.meshes.items c.push_mesh.new.meshes.items _ c.loop-place-test.true
    c.dataset_at.ensures c.loop-place.invariant c.in_ok-push_mesh.ensures
