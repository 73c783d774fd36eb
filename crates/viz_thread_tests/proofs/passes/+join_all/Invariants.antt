use Rattle.std.proofs.Common.{length}
use Rattle.viz_thread_tests.proofs.passes.+join_all.Given as goal

abbrev pub decreases-join_all : goal.decreases-join_all
decreases-join_all l = length l.writers.now
