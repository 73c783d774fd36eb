use Rattle.std.proofs.Common.{◌≡◌, drop}
use Rattle.viz_network.specs.Edits.{is_input}
use Rattle.viz_network.proofs.nodes.is_input_of.Given as goal

abbrev pub invariant-loop-input : goal.invariant-loop-input
invariant-loop-input l = is_input l.id.0 (drop l.input-index l.inputs) ≡ is_input l.id.0 l.inputs
