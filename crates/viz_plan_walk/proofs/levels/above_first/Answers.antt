use Rattle.std.proofs.Common.{subst, ◌∙◌}
use Rattle.viz_buckets.specs.Buckets.{HasAllOf}
use Rattle.viz_plan_walk.proofs.FindingLemmas.{first_found}
use Rattle.viz_plan_walk.proofs.LeveledLemmas.{if_some_more}
use Rattle.viz_plan_walk.specs.Finding.{number_of}
use Rattle.viz_plan_walk.specs.declared.levels.Levelled.{Levelled}
use Rattle.viz_plan_walk.proofs.levels.above_first.Goals as goal

pub returns : goal.returns
returns c =
    let all = c.args.table.now in
    let some = c.bucket.result.now in
    if_some_more c.above_among.result
    (λ l e. e ∙ first_found all some c.args.node.0 c.args.wanted.now
    (subst (λ k. HasAllOf (λ (x : Levelled). number_of x.need.node.0 x.need.request) k all some) c.number_of.ensures c.bucket.ensures.value))
    c.above_among.ensures
