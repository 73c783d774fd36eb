use Rattle.std.proofs.Common.{◌≡◌, drop}
use Rattle.std.specs.List.{list_any}
use Rattle.viz_node_meaning.specs.Information.{is_fed}
use Rattle.viz_node_rules.proofs.ports.is_any_fed.Given as goal

-- the ports that are left have the answer
abbrev pub invariant-loop-input : goal.invariant-loop-input
invariant-loop-input l = list_any is_fed (drop l.input-index l.inputs) ≡ list_any is_fed l.inputs
