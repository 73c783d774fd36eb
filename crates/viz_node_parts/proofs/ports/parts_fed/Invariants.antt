use Rattle.std.proofs.Common.{◌≡◌, take}
use Rattle.viz_node_parts.specs.Taken.{parts_fed}
use Rattle.viz_node_parts.proofs.ports.parts_fed.Given as goal

abbrev pub invariant-loop-input : goal.invariant-loop-input
invariant-loop-input l = l.parts.items ≡ parts_fed (take l.input-index l.inputs)
