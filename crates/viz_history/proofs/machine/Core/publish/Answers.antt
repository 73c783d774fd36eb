use Rattle.std.proofs.Common.{length, refl, sym, subst, ◌∙◌, arith}
use Rattle.std.specs.List.{All}
use Rattle.viz_kept.specs.True.{IsTrueOf}
use Rattle.viz_entries.specs.History.{edits_of, network_of}
use Rattle.viz_history.specs.Machine.{State}
use Rattle.viz_history.specs.Publishing.{GivesOvertakenUp, TakesIn, all_brought}
use Rattle.viz_history.proofs.HistoryLemmas.{kept_parts}
use Rattle.viz_history.proofs.PublishLemmas.{all_brought_hold, taken_hold}
use Rattle.viz_history.proofs.WalkLemmas.{given_up_true}
use Rattle.viz_history.proofs.machine.Core.publish.Goals as goal

pub invariant_of-self : goal.invariant_of-self
invariant_of-self c =
    let core = c.self.inside in
    let h = core.history.items in
    let holds = IsTrueOf (edits_of h) in
    let taken = c.take_in-kept.new.cache.entries in
    let new = c.give_overtaken_up.new.cache.entries in
    let made_true = subst (λ (s : State). All (IsTrueOf (edits_of s.history)) c.args.made.now) (sym c.self.view_is) c.requires.made.each in
    let brought_true = subst (All holds) (sym c.bring_all.ensures.entries) (all_brought_hold holds c.args.used.now core.cache.entries c.self.invariant.parts.each) in
    let taken_true = taken_hold holds c.stamps-stamps.result c.bring_all.new.cache.capacity c.args.made.now c.bring_all.new.cache.entries c.take_in-kept.result taken c.take_in-kept.ensures.takes made_true brought_true in
    let net = c.stamps-stamps.ensures.value ∙ c.self.invariant.network in
    let many = c.self.invariant.edits in
    let given = subst (λ n. GivesOvertakenUp n (length (edits_of h)) taken new) net (subst (λ n. GivesOvertakenUp c.stamps-stamps.result n taken new) many c.give_overtaken_up.ensures.entries) in
    kept_parts h core.edits core.limit core.net core.cache.entries new c.self.invariant (record { each = given_up_true (edits_of h) taken new given taken_true })

pub returns-clause-publishes : goal.returns-clause-publishes
returns-clause-publishes c =
    let core = c.self.inside in
    let h = core.history.items in
    let taken = c.take_in-kept.new.cache.entries in
    let net = c.stamps-stamps.ensures.value ∙ c.self.invariant.network in
    let many = c.self.invariant.edits in
    let takes : TakesIn (network_of h) core.cache.capacity c.args.made.now (all_brought c.args.used.now core.cache.entries) c.take_in-kept.result taken =
    subst (λ n. TakesIn n core.cache.capacity c.args.made.now (all_brought c.args.used.now core.cache.entries) c.take_in-kept.result taken) net
    (subst (λ k. TakesIn c.stamps-stamps.result k c.args.made.now (all_brought c.args.used.now core.cache.entries) c.take_in-kept.result taken) c.bring_all.ensures.capacity
    (subst (λ es. TakesIn c.stamps-stamps.result c.bring_all.new.cache.capacity c.args.made.now es c.take_in-kept.result taken) c.bring_all.ensures.entries c.take_in-kept.ensures.takes)) in
    rw (← c.self.view_is) (record {
      history = refl;
      limit = refl;
      capacity = c.give_overtaken_up.ensures.capacity ∙ (c.take_in-kept.ensures.capacity ∙ c.bring_all.ensures.capacity);
      spare = omega arith;
      taken = taken;
      takes = takes;
      gives_up = subst (λ n. GivesOvertakenUp n (length (edits_of h)) taken c.give_overtaken_up.new.cache.entries) net
          (subst (λ n. GivesOvertakenUp c.stamps-stamps.result n taken c.give_overtaken_up.new.cache.entries) many c.give_overtaken_up.ensures.entries);
    })
