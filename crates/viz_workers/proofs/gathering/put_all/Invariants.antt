use Rattle.std.proofs.Common.{◌≡◌, length, All}
use Rattle.viz_workers.specs.Steps.Sharing.{IsDone, AreFound}
use Rattle.viz_workers.proofs.gathering.put_all.Given as goal

abbrev pub invariant-loop : goal.invariant-loop
invariant-loop g l = (length l.found ≡ length l.initial.found)
    × AreFound (g.J.Job.has l.job) l.first l.found
    × All (IsDone (g.J.Job.has l.job) l.first (length l.found)) l.share.items
