use Rattle.std.proofs.Common.{◌≡◌, drop, find}
use Rattle.viz_requests.specs.Serving.{serves}
use Rattle.viz_plan.proofs.sites.first_serving.Given as goal

abbrev pub invariant-loop-one : goal.invariant-loop-one
invariant-loop-one l = find (λ r. serves r l.wanted) l.kept ≡ find (λ r. serves r l.wanted) (drop l.one-index l.kept)
