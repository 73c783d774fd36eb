use Rattle.viz_actor.proofs.running.+run_phases.Given as goal

abbrev pub decreases-run_phases : goal.decreases-run_phases
decreases-run_phases g l = l.left
