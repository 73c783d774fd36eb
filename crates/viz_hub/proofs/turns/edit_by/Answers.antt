use Rattle.std.proofs.Common.{◌+◌, ◌++◌, [], ◌∷◌, length, ◌∙◌, sym, ap, subst, arith}
use Rattle.viz_turn.specs.Known.{GoesFurther}
use Rattle.viz_turn.specs.Passes.{known, state_of}
use Rattle.viz_entries.specs.History.{by_of, entry, next}
use Rattle.viz_hub.proofs.PassLemmas.{count_stays, same_count, count_grows, own_short}
use Rattle.viz_hub.proofs.turns.edit_by.Goals as goal

pub overflow_add-next : goal.overflow_add-next
overflow_add-next g c =
    let p = known c.args.place.pass in
    let h = (state_of c.take-held.result).history in
    let counted = count_stays c.args.place.count p h c.args.place.counted c.take-held.ensures.further in
    let at = c.front-at.ensures.value ∙ ap (λ s. length s.history) c.state.ensures.value in
    grind (arith, counted, at, own_short p.number h, c.front-at.ensures.within, c.front-at.ensures.fits)

pub edit-answer-requires : goal.edit-answer-requires
edit-answer-requires g c =
    let p = known c.args.place.pass in
    let h = (state_of c.take-held.result).history in
    let counted = count_stays c.args.place.count p h c.args.place.counted c.take-held.ensures.further in
    let lent = ap (λ s. s.history) (c.state-2.ensures.value ∙ c.state.ensures.value) in
    record { next = ap (λ n. n + 1) counted ∙ ap (λ l. next p.number l) (sym lent) ∙ ap (λ n. next n c.state-2.result.now.history) (sym c.number-number.ensures.value) }

pub invariant_of-result : goal.invariant_of-result
invariant_of-result g c =
    let p = known c.args.place.pass in
    let h = (state_of c.take-held.result).history in
    let e = entry c.number-number.result (c.args.place.count + 1) c.args.batch in
    let lent = ap (λ s. s.history) (c.state-2.ensures.value ∙ c.state.ensures.value) in
    let same = c.give-pass.ensures.same ∙ c.append.ensures.same in
    let grown = ap (λ k. k.seen) same ∙ c.in-Done.ensures.replies.0.history ∙ ap (λ l. l ++ e ∷ []) lent in
    record {
      counted = count_grows c.args.place.count p (known c.give-pass.result) h e c.args.place.counted (ap (λ k. k.number) same ∙ ap (λ k. k.number) c.take-held.ensures.same) c.take-held.ensures.further grown c.number-number.ensures.value;
    }

pub invariant_of-result-2 : goal.invariant_of-result-2
invariant_of-result-2 g c =
    let p = known c.args.place.pass in
    let same = c.give-pass-2.ensures.same ∙ c.take-held.ensures.same in
    record {
      counted = same_count c.args.place.count p (known c.give-pass-2.result) c.args.place.counted (ap (λ k. k.number) same) (subst (λ l. GoesFurther by_of p l) (sym (ap (λ k. k.seen) same)) c.take-held.ensures.further);
    }
