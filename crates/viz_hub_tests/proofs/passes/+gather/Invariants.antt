use Rattle.std.proofs.Common.{length}
use Rattle.viz_hub_tests.proofs.passes.+gather.Given as goal

abbrev pub decreases-gather : goal.decreases-gather
decreases-gather l = length l.writers.now
