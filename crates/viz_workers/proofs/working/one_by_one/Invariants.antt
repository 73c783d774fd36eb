use Rattle.std.proofs.Common.{◌≡◌, vec_len}
use Rattle.viz_workers.specs.Level.{AreItems}
use Rattle.viz_workers.proofs.working.one_by_one.Given as goal

abbrev pub invariant-loop-index : goal.invariant-loop-index
invariant-loop-index g l = (vec_len l.items ≡ l.index) × AreItems (g.J.Job.has l.job) l.first l.items.items
