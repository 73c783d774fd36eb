use Rattle.std.proofs.Common.{length}
use Rattle.viz_hub_tests.proofs.passes.+deal.Given as goal

abbrev pub decreases-deal : goal.decreases-deal
decreases-deal g l = length l.writers.now
