use Rattle.std.proofs.Common.{◌≡◌, ◌+◌, ◌∙◌, ◌++◌, [], ◌∷◌, take, length, length-append, sym, ap, subst, refl, arith}
use Rattle.std.proofs.lemmas.List.{take_more}
use Rattle.viz_actor.specs.Serving.{commands_of, AddsLines}
use Rattle.viz_actor.proofs.ServeLemmas.{commands_next, commands_within, adds_none, adds_more, adds_length, same_still}
use Rattle.viz_actor.proofs.serving.serve_steps.Goals as goal

pub loop-step-init : goal.loop-step-init
loop-step-init g c = record {
  adds = adds_none g.P.Port c.args.hub.now.mark c.args.pass.number [] c.args.lines.now.items c.args.pass.seen c.args.port.now refl;
  same = refl;
  capacity = refl;
}

pub serve_step-pass-requires-clause-belongs : goal.serve_step-pass-requires-clause-belongs
serve_step-pass-requires-clause-belongs g c = λ κs lives. ap (λ p. p.turn) c.loop-step.invariant.same ∙ c.requires.belongs

pub serve_step-pass-requires-clause-room : goal.serve_step-pass-requires-clause-room
serve_step-pass-requires-clause-room g c = λ κs lives.
    let i = c.loop-step.step-index in
    let steps = c.args.steps.now in
    let actor = c.args.actor in
    let inv = c.loop-step.invariant in
    let front : take (i + 1) steps ≡ take i steps ++ c.step-item.result ∷ [] = take_more steps i c.step-item.result c.loop-step-test.true ∙ ap (λ s. take i steps ++ s ∷ []) (sym c.step-item.is) in
    let next = ap length (commands_next actor steps i c.step-item.result front) ∙ length-append (commands_of actor (take i steps)) (commands_of actor (c.step-item.result ∷ [])) in
    let within = commands_within actor steps (i + 1) in
    let len = adds_length g.P.Port _ _ _ _ _ _ _ _ _ inv.adds in
    omega (arith, next, within, len, inv.capacity, c.requires.room)

pub loop-step-preserved : goal.loop-step-preserved
loop-step-preserved g c =
    let i = c.loop-step.step-index in
    let steps = c.args.steps.now in
    let actor = c.args.actor in
    let mine = commands_of actor (c.step-item.result ∷ []) in
    let inv = c.loop-step.invariant in
    let step = c.serve_step-pass in
    let limit = c.args.hub.now.mark in
    let front : take (i + 1) steps ≡ take i steps ++ c.step-item.result ∷ [] = take_more steps i c.step-item.result c.loop-step-test.true ∙ ap (λ s. take i steps ++ s ∷ []) (sym c.step-item.is) in
    let one = subst (λ n. AddsLines g.P.Port limit n mine c.loop-step.lines.items step.new.lines.items c.loop-step.pass.seen step.result.seen c.loop-step.port step.new.port) (ap (λ p. p.number) inv.same) step.ensures.adds in
    record {
      adds = adds_more g.P.Port limit c.args.pass.number _ _ mine _ _ _ _ _ _ _ _ _ (commands_next actor steps i c.step-item.result front) inv.adds one;
      same = same_still c.args.pass c.loop-step.pass step.result inv.same step.ensures.same;
      capacity = step.ensures.capacity ∙ inv.capacity;
    }
