use Rattle.viz_turn.specs.Passes.{IsPassOf}
use Rattle.viz_thread_tests.proofs.passes.write.Given as goal

abbrev pub invariant-loop-count : goal.invariant-loop-count
invariant-loop-count g l = IsPassOf l.turn l.pass
