use Rattle.std.proofs.Common.{subst, ◌∙◌}
use Rattle.viz_buckets.specs.Buckets.{HasAllOf}
use Rattle.viz_plan_walk.proofs.FindingLemmas.{served_found}
use Rattle.viz_plan_walk.specs.Finding.{number_of}
use Rattle.viz_plan_walk.specs.declared.walk.Need.{Need}
use Rattle.viz_plan_walk.proofs.thin.is_served.Goals as goal

pub returns : goal.returns
returns c =
    let all = c.args.front.now in
    let some = c.bucket-bucket.result.now in
    c.serves_among.ensures
    ∙ served_found all some c.args.need.now.node.0 c.args.need.now.request
    (subst (λ k. HasAllOf (λ (x : Need). number_of x.node.0 x.request) k all some) c.number_of.ensures c.bucket-bucket.ensures.value)
