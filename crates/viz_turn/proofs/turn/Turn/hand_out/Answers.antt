use Rattle.std.proofs.Common.{sym, ap, ◌∙◌, subst, refl}
use Rattle.std.specs.Prelude.{IsSome, unwrap_or}
use Rattle.std.specs.Slots.{slots_items}
use Rattle.viz_turn.proofs.SeatLemmas.{last_state}
use Rattle.viz_turn.proofs.turn.Turn.hand_out.Goals as goal

pub unwrap-state-requires : goal.unwrap-state-requires
unwrap-state-requires g c =
    let d = c.close_with-closed in
    let last = last_state g.S.Story.tale g.S.Story.by g.S.Story.mark (g.S.Story.mark c.args.self.table.shared.key.value) _ c.args.seat.me.0 c.requires.resting.0 (slots_items d.result.words) (slots_items d.result.slots) c.take.result c.requires.resting.1 (ap (λ t. t.mark) c.requires.seat) d.ensures.values.2 c.take.ensures.value in
    subst IsSome (sym last.1) refl

pub returns-clause-tale : goal.returns-clause-tale
returns-clause-tale g c =
    let d = c.close_with-closed in
    let last = last_state g.S.Story.tale g.S.Story.by g.S.Story.mark (g.S.Story.mark c.args.self.table.shared.key.value) _ c.args.seat.me.0 c.requires.resting.0 (slots_items d.result.words) (slots_items d.result.slots) c.take.result c.requires.resting.1 (ap (λ t. t.mark) c.requires.seat) d.ensures.values.2 c.take.ensures.value in
    ap g.S.Story.tale (ap (λ o. unwrap_or o last.0) (sym c.unwrap-state.ensures ∙ last.1)) ∙ last.2

pub returns-clause-mark : goal.returns-clause-mark
returns-clause-mark g c =
    let d = c.close_with-closed in
    let last = last_state g.S.Story.tale g.S.Story.by g.S.Story.mark (g.S.Story.mark c.args.self.table.shared.key.value) _ c.args.seat.me.0 c.requires.resting.0 (slots_items d.result.words) (slots_items d.result.slots) c.take.result c.requires.resting.1 (ap (λ t. t.mark) c.requires.seat) d.ensures.values.2 c.take.ensures.value in
    ap g.S.Story.mark (ap (λ o. unwrap_or o last.0) (sym c.unwrap-state.ensures ∙ last.1)) ∙ last.3 ∙ sym (ap (λ t. t.mark) c.requires.seat)
