use Rattle.std.proofs.Common.{◌≡◌, ◌+◌, vec_len, length, All}
use Rattle.viz_workers.specs.Steps.Sharing.{AreDone, AreFound}
use Rattle.viz_workers.proofs.gathering.put_shares.Given as goal

abbrev pub invariant-loop : goal.invariant-loop
invariant-loop g l = (length l.found ≡ l.count)
    × (vec_len l.shares + l.counter ≡ vec_len l.initial.shares)
    × AreFound (g.J.Job.has l.job) l.first l.found
    × All (AreDone (g.J.Job.has l.job) l.first l.count) l.shares.items
