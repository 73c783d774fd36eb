use Rattle.std.proofs.Common.{sym, subst, ◌∙◌}
use Rattle.std.specs.List.{All}
use Rattle.std.proofs.lemmas.List.Elements.{All-push}
use Rattle.viz_executive.specs.Steps.Wholes.{IsAnswered}
use Rattle.viz_executive.specs.declared.wholes.Answered.{Answered}
use Rattle.viz_executive.proofs.ListLemmas.{map_more}
use Rattle.viz_executive.proofs.wholes.answers.Goals as goal

pub loop-request-preserved : goal.loop-request-preserved
loop-request-preserved c =
    let one = c.in_ok-answer.field-0 in
    record {
      requests = map_more (λ (a : Answered). a.request) c.loop-request.all.items one _ c.requests-requests.result.now c.loop-request.request-index _ c.loop-request-test.true c.loop-request.invariant.requests
          (c.in_ok-answer.ensures.request ∙ c.request-item.is) c.in_ok-push.ensures.items;
      each = subst (All (λ (a : Answered). IsAnswered c.args.ground.now a.request a.part)) (sym c.in_ok-push.ensures.items)
          (All-push (λ (a : Answered). IsAnswered c.args.ground.now a.request a.part) c.loop-request.all.items one c.loop-request.invariant.each c.in_ok-answer.ensures.part);
    }
