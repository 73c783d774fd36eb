use Rattle.std.proofs.Common.{◌≡◌, drop}
use Rattle.viz_network.specs.Steps.Order.{comes_first}
use Rattle.viz_network.proofs.way.stands_before.Given as goal

abbrev pub invariant-loop-id : goal.invariant-loop-id
invariant-loop-id l = comes_first l.first.0 l.second.0 (drop l.id-index l.order) ≡ comes_first l.first.0 l.second.0 l.order
