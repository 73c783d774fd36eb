use Rattle.std.proofs.Common.{◌≡◌, map, take}
use Rattle.viz_node_meaning.specs.Data.{meshes_in}
use Rattle.viz_node_rules.specs.Places.{value_at}
use Rattle.viz_node_rules.proofs.joining.copied_meshes.Given as goal

abbrev pub invariant-loop-place : goal.invariant-loop-place
invariant-loop-place l = l.meshes.items ≡ meshes_in (map (value_at l.table) (take l.place-index l.places))
