use Rattle.std.proofs.Common.{◌≡◌, ◌+◌, drop}
use Rattle.viz_node_meaning.specs.Information.{meshes_from}
use Rattle.viz_node_rules.proofs.ports.meshes_from.Given as goal

-- the ports that are left have the answer
abbrev pub invariant-loop-k : goal.invariant-loop-k
invariant-loop-k l = meshes_from (l.k + 1) (drop l.k l.inputs) ≡ meshes_from 1 l.inputs
