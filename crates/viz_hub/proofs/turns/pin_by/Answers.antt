use Rattle.std.proofs.Common.{◌∙◌, sym, ap, subst}
use Rattle.viz_turn.specs.Known.{GoesFurther}
use Rattle.viz_turn.specs.Passes.{known}
use Rattle.viz_entries.specs.History.{by_of}
use Rattle.viz_hub.proofs.PassLemmas.{same_count, looks_more}
use Rattle.viz_hub.proofs.turns.pin_by.Goals as goal

pub invariant_of-result : goal.invariant_of-result
invariant_of-result g c =
    let p = known c.args.place.pass in
    let same = c.give-pass.ensures.same ∙ c.take-held.ensures.same in
    record {
      counted = same_count c.args.place.count p (known c.give-pass.result) c.args.place.counted (ap (λ k. k.number) same) (subst (λ l. GoesFurther by_of p l) (sym (ap (λ k. k.seen) same)) c.take-held.ensures.further);
    }

pub returns-clause-looks : goal.returns-clause-looks
returns-clause-looks g c =
    let p = known c.args.place.pass in
    looks_more c.args.place.told.sent c.args.place.told.last p (known c.give-pass.result) _ (c.give-pass.ensures.same ∙ c.take-held.ensures.same) c.take-held.ensures.further
