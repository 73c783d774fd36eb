use Rattle.std.proofs.Common.{◌≡◌, drop, max}
use Rattle.viz_network.specs.Steps.Marks.{ports_told}
use Rattle.viz_network.proofs.sweep.input_stamps.Given as goal

abbrev pub invariant-loop-input : goal.invariant-loop-input
invariant-loop-input l = max l.newest (ports_told max 0 l.nodes.entries l.stamps (drop l.input-index l.inputs)) ≡ ports_told max 0 l.nodes.entries l.stamps l.inputs
