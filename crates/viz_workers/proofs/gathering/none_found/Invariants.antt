use Rattle.std.proofs.Common.{◌≡◌, vec_len}
use Rattle.viz_workers.specs.Steps.Sharing.{AreFound}
use Rattle.viz_workers.proofs.gathering.none_found.Given as goal

abbrev pub invariant-loop : goal.invariant-loop
invariant-loop g l = (vec_len l.found ≡ l.counter) × AreFound (g.J.Job.has l._job) l.first l.found.items
