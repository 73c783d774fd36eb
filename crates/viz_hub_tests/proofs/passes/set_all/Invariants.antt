use Rattle.std.proofs.Common.{◌≡◌}
use Rattle.viz_hub_tests.proofs.passes.set_all.Given as goal

abbrev pub invariant-loop-index : goal.invariant-loop-index
invariant-loop-index g l = l.pass.turn ≡ l.hub
