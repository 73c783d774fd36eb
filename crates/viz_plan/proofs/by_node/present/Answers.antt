use Rattle.std.proofs.Common.{◌≡◌, subst, ◌∙◌}
use Rattle.viz_buckets.specs.Buckets.{HasAllOf}
use Rattle.viz_plan.proofs.ByNodeLemmas.{present_found}
use Rattle.viz_plan.specs.declared.by_node.Entry.{Entry}
use Rattle.viz_plan.proofs.by_node.present.Goals as goal

pub returns : goal.returns
returns c =
    let all = c.args.entries.now in
    let some = c.bucket.result.now in
    c.in_ok-kept.ensures
    ∙ present_found c.args.stamp.now all some c.args.node.0
    (subst (λ k. HasAllOf (λ (x : Entry). x.key.node.0) k all some) c.number_of.ensures c.bucket.ensures.value)
