use Rattle.std.proofs.Common.{◌∙◌, count_by, refl, sym, ap, subst}
use Rattle.viz_kept.specs.True.{AreTrueOf}
use Rattle.viz_turn.specs.Known.{GoesFurther}
use Rattle.viz_turn.specs.Passes.{known, state_of}
use Rattle.viz_entries.specs.History.{by_of, edits_of, network_of}
use Rattle.viz_history.specs.Publishing.{is_stale}
use Rattle.viz_hub.proofs.PassLemmas.{same_count, sends_more, made_goes_on}
use Rattle.viz_hub.proofs.turns.publish_by.Goals as goal

pub publish-kept-requires : goal.publish-kept-requires
publish-kept-requires g c =
    let p = known c.args.place.pass in
    let lent = ap (λ s. s.history) c.state.ensures.value in
    record {
      made = subst (λ h. AreTrueOf (edits_of h) c.args.made.now) (sym lent) (made_goes_on p (state_of c.take-held.result).history c.args.made.now c.take-held.ensures.further c.requires.made);
    }

pub invariant_of-result : goal.invariant_of-result
invariant_of-result g c =
    let p = known c.args.place.pass in
    let same = c.give-pass.ensures.same ∙ c.take-held.ensures.same in
    record {
      counted = same_count c.args.place.count p (known c.give-pass.result) c.args.place.counted (ap (λ k. k.number) same) (subst (λ l. GoesFurther by_of p l) (sym (ap (λ k. k.seen) same)) c.take-held.ensures.further);
    }

pub returns-clause-sends : goal.returns-clause-sends
returns-clause-sends g c =
    let p = known c.args.place.pass in
    sends_more c.args.sent c.args.place.told.sent c.args.place.told.last _ p (known c.give-pass.result) _ refl (c.give-pass.ensures.same ∙ c.take-held.ensures.same) c.take-held.ensures.further

pub returns-clause-stale : goal.returns-clause-stale
returns-clause-stale g c =
    let lent = ap (λ s. s.history) c.state.ensures.value in
    let seen = ap (λ k. k.seen) (c.give-pass.ensures.same ∙ c.take-held.ensures.same) in
    c.publish-kept.ensures.publishes.takes.stale ∙ ap (λ h. count_by (is_stale (network_of h)) c.args.made.now) (lent ∙ sym seen)
