use Rattle.std.proofs.Common.{◌≡◌, drop, false}
use Rattle.viz_network.specs.Cone.{either}
use Rattle.viz_network.specs.Steps.Marks.{ports_told}
use Rattle.viz_network.proofs.sweep.is_fed_by.Given as goal

abbrev pub invariant-loop-input : goal.invariant-loop-input
invariant-loop-input l = ports_told either false l.nodes.entries l.marks (drop l.input-index l.inputs) ≡ ports_told either false l.nodes.entries l.marks l.inputs
