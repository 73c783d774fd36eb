use Rattle.viz_network.specs.Steps.Places.{AreFirstSteps}
use Rattle.viz_network.proofs.steps.steps_in.Given as goal

abbrev pub invariant-loop-id : goal.invariant-loop-id
invariant-loop-id l = record { first : AreFirstSteps l.nodes.entries l.order l.id-index l.places l.steps.items }
