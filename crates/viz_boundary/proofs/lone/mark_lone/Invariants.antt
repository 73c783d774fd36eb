use Rattle.viz_boundary.specs.Steps.Alone.{AreMarked}
use Rattle.viz_boundary.proofs.lone.mark_lone.Given as goal

abbrev pub invariant-loop-at : goal.invariant-loop-at
invariant-loop-at l = AreMarked l.sorted l.at l.marks.items
