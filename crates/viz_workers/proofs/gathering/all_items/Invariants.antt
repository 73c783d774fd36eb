use Rattle.std.proofs.Common.{◌≡◌, vec_len, length}
use Rattle.viz_workers.specs.Level.{AreItems}
use Rattle.viz_workers.specs.Steps.Sharing.{AreFound}
use Rattle.viz_workers.proofs.gathering.all_items.Given as goal

abbrev pub invariant-loop-index : goal.invariant-loop-index
invariant-loop-index g l = (length l.found ≡ l.count)
    × (vec_len l.items ≡ l.index)
    × AreFound (g.J.Job.has l.job) l.first l.found
    × AreItems (g.J.Job.has l.job) l.first l.items.items
