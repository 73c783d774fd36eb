use Rattle.std.proofs.Common.{length}
use Rattle.viz_thread_tests.proofs.passes.+split_all.Given as goal

abbrev pub decreases-split_all : goal.decreases-split_all
decreases-split_all g l = length l.writers.now
