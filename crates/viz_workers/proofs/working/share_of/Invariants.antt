use Rattle.std.proofs.Common.{All}
use Rattle.viz_workers.specs.Steps.Sharing.{IsDone}
use Rattle.viz_workers.proofs.working.share_of.Given as goal

abbrev pub invariant-loop : goal.invariant-loop
invariant-loop g l = All (IsDone (g.J.Job.has l.job) l.first l.count) l.share.items
