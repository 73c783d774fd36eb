use Rattle.std.proofs.Common.{◌≡◌, subst, ◌∙◌}
use Rattle.viz_buckets.specs.Buckets.{HasAllOf}
use Rattle.viz_plan.proofs.ByNodeLemmas.{extent_found}
use Rattle.viz_plan.specs.declared.by_node.Shown.{Shown}
use Rattle.viz_plan.proofs.by_node.extent_shown.Goals as goal

pub returns : goal.returns
returns c =
    let all = c.args.shown.now in
    let some = c.bucket.result.now in
    c.extent_among.ensures
    ∙ extent_found all some c.args.node.0
    (subst (λ k. HasAllOf (λ (x : Shown). x.node.0) k all some) c.number_of.ensures c.bucket.ensures.value)
