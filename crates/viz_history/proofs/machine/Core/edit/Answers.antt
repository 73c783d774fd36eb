use Rattle.std.proofs.Common.{◌≡◌, ◌+◌, ◌≤◌, ◌++◌, [], ◌∷◌, List, length, Ok, refl, sym, subst, ap, ◌∙◌, arith}
use Rattle.viz_network.specs.declared.edit.Edit.{Edit}
use Rattle.viz_entries.specs.History.{entry, next}
use Rattle.viz_history.proofs.HistoryLemmas.{kept_room, sound_of_kept, behind_kept, network_more, kept_more}
use Rattle.viz_history.proofs.machine.Core.edit.Goals as goal

pub overflow_add-self-inside : goal.overflow_add-self-inside
overflow_add-self-inside c =
    let core = c.self.inside in
    omega (arith, kept_room core.history.items core.edits core.limit core.net core.cache.entries c.self.invariant (search arith))

pub apply_all-requires-clause-later : goal.apply_all-requires-clause-later
apply_all-requires-clause-later c =
    let core = c.self.inside in
    sound_of_kept core.history.items core.edits core.limit core.net core.cache.entries c.self.invariant

pub apply_all-requires-clause-fits : goal.apply_all-requires-clause-fits
apply_all-requires-clause-fits c =
    let core = c.self.inside in
    let few : length c.args.batch ≤ 64 = subst (λ (b : List Edit). length b ≤ 64) c.batch.view_is c.batch.invariant.few in
    omega (arith, few, kept_room core.history.items core.edits core.limit core.net core.cache.entries c.self.invariant (search arith))

pub overflow_add-self : goal.overflow_add-self
overflow_add-self c =
    let core = c.self.inside in
    let few : length c.edits.result.now ≤ 64 = subst (λ (b : List Edit). length b ≤ 64) (sym c.edits.ensures.value) c.edits.ensures.sized.few in
    omega (arith, few, kept_room core.history.items core.edits core.limit core.net core.cache.entries c.self.invariant (search arith))

pub invariant_of-self-in-Ok : goal.invariant_of-self-in-Ok
invariant_of-self-in-Ok c =
    let core = c.self.inside in
    let h = core.history.items in
    let e = entry c.args.pass c.args.count c.args.batch in
    let counted : c.args.count ≡ next c.args.pass h = c.requires.next ∙ ap (λ s. next c.args.pass s.history) (sym c.self.view_is) in
    let made = sym (behind_kept h core.edits core.limit core.net core.cache.entries c.args.batch c.self.invariant) ∙ c.in-Ok.ensures.applies in
    rw (c.push_reserved.ensures.items, c.reserve.ensures.items, c.edits.ensures.value)
    (kept_more h core.edits core.limit core.net c.apply_all.new.net core.cache.entries e c.self.invariant (search arith) c.edits.ensures.sized made counted)

pub returns-in-Ok-clause-replies : goal.returns-in-Ok-clause-replies
returns-in-Ok-clause-replies c =
    let core = c.self.inside in
    let h = core.history.items in
    let e = entry c.args.pass c.args.count c.args.batch in
    let new = c.push_reserved.ensures.items ∙ ap (λ l. l ++ e ∷ []) c.reserve.ensures.items in
    let made = sym (behind_kept h core.edits core.limit core.net core.cache.entries c.args.batch c.self.invariant) ∙ c.in-Ok.ensures.applies in
    let many : c.len-at.result ≡ length h = search arith in
    rw (← c.self.view_is) (
      record { history = new; limit = refl; capacity = refl; cache = refl; spare = search arith },
      ap (λ n. n + 1) many,
      search arith,
      rw new (made ∙ ap Ok (sym (network_more h c.apply_all.new.net e made))),
    )
