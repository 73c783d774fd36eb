use Rattle.std.proofs.Common.{◌≡◌, sym, ap, ◌∙◌, Some, None, false, ◌-◌}
use Rattle.std.proofs.lemmas.Option.{slice_get-get_or}
use Rattle.viz_plan_meaning.specs.Plan.{has as has_need}
use Rattle.viz_plan_walk.specs.Walk.{named, above}
use Rattle.viz_cache.specs.Keys.{same_request}
use Rattle.viz_plan_walk.proofs.WalkLemmas.{more_needs, more_used, last_needs, last_used}
use Rattle.viz_plan_walk.proofs.walk.+enter.Goals as goal
use Rattle.viz_plan_walk.proofs.walk.+enter.Goals.{in-Some-input+in_ok-enter, in_default-input}

pub loop-input-preserved : goal.loop-input-preserved
loop-input-preserved g t c =
    let kept = g.A.Asking.kept c.args.asking.now in
    let widened = g.A.Asking.widened c.args.asking.now in
    let asked = g.A.Asking.asked c.args.asking.now in
    let up = above (c.args.fuel - 1) c.args.steps.now in
    let places = c.inputs_of-inputs.result.now in
    let i = c.loop-input.input-index in
    let here = slice_get-get_or places i None c.loop-input-test.true in
    elim c.match-input.branch [
      | in-Some-input+in_ok-enter w ↦ record {
        needs = more_needs kept widened asked up places i (Some w.in-Some-input.up) c.in-Some-ask.asked _ _ _ (here ∙ ap Some w.in-Some-input.is) c.loop-input.invariant.needs (ap (λ v. named v.needs) w.walk-is ∙ w.in_ok-enter.ensures.needs);
        used = more_used kept widened asked up places i (Some w.in-Some-input.up) c.in-Some-ask.asked _ _ _ _ _ (here ∙ ap Some w.in-Some-input.is) c.loop-input.invariant.needs c.loop-input.invariant.used (ap (λ v. named v.used) w.walk-is ∙ w.in_ok-enter.ensures.used);
      }
      | in_default-input w ↦ record {
        needs = more_needs kept widened asked up places i None c.in-Some-ask.asked _ _ _ (here ∙ ap Some w.in_default-input.is) c.loop-input.invariant.needs (ap (λ v. named v.needs) w.walk-is);
        used = more_used kept widened asked up places i None c.in-Some-ask.asked _ _ _ _ _ (here ∙ ap Some w.in_default-input.is) c.loop-input.invariant.needs c.loop-input.invariant.used (ap (λ v. named v.used) w.walk-is);
      }
    ]

pub returns-clause-needs : goal.returns-clause-needs
returns-clause-needs g t c =
    let kept = g.A.Asking.kept c.args.asking.now in
    let widened = g.A.Asking.widened c.args.asking.now in
    let asked = g.A.Asking.asked c.args.asking.now in
    let node = c.in-Some.step.now.node.0 in
    let fresh : has_need same_request (named c.args.walk.now.needs) node c.widen-wanted.result ≡ false = sym c.if-has.ensures in
    c.in_ok-add-2.ensures
    ∙ last_needs kept widened asked c.args.steps.now c.args.fuel c.args.place c.in-Some.step.now c.args.request.now c.widen-wanted.result c.in-Some-ask.asked _ _ c.inputs_of-inputs.result.now c.loop-input.input-index
    c.if-fuel-eq0.false c.in-Some.ensures.lookup.3.0 c.in-Some.ensures.lookup.1 c.widen-wanted.ensures.value (c.find.ensures.none c.in_default-find.is) fresh c.in-Some-ask.ensures.value c.inputs_of-inputs.ensures c.loop-input-test.false c.loop-input.invariant.needs

pub returns-clause-used : goal.returns-clause-used
returns-clause-used g t c =
    let kept = g.A.Asking.kept c.args.asking.now in
    let widened = g.A.Asking.widened c.args.asking.now in
    let asked = g.A.Asking.asked c.args.asking.now in
    let node = c.in-Some.step.now.node.0 in
    let fresh : has_need same_request (named c.args.walk.now.needs) node c.widen-wanted.result ≡ false = sym c.if-has.ensures in
    last_used kept widened asked c.args.steps.now c.args.fuel c.args.place c.in-Some.step.now c.args.request.now c.widen-wanted.result c.in-Some-ask.asked _ _ _ c.inputs_of-inputs.result.now c.loop-input.input-index
    c.if-fuel-eq0.false c.in-Some.ensures.lookup.3.0 c.in-Some.ensures.lookup.1 c.widen-wanted.ensures.value (c.find.ensures.none c.in_default-find.is) fresh c.in-Some-ask.ensures.value c.inputs_of-inputs.ensures c.loop-input-test.false c.loop-input.invariant.used
