use Rattle.std.proofs.Common.{subst, ◌∙◌}
use Rattle.viz_buckets.specs.Buckets.{HasAllOf}
use Rattle.viz_plan_walk.proofs.FindingLemmas.{has_found}
use Rattle.viz_plan_walk.specs.Finding.{number_of}
use Rattle.viz_plan_walk.specs.declared.walk.Need.{Need}
use Rattle.viz_plan_walk.proofs.walk.has.Goals as goal

pub returns : goal.returns
returns c =
    let all = c.args.seen.now in
    let some = c.bucket.result.now in
    c.is_among.ensures
    ∙ has_found all some c.args.node.0 c.args.request.now
    (subst (λ k. HasAllOf (λ (x : Need). number_of x.node.0 x.request) k all some) c.number_of.ensures c.bucket.ensures.value)
