use Rattle.std.proofs.Common.{◌≡◌, ℕ, ◌+◌, cond, List, [], ◌∷◌, ◌++◌, take, length, length-append, sym, ap, ◌∙◌, arith}
use Rattle.std.proofs.lemmas.Bool.{ne_eqb, eq-eqb}
use Rattle.std.proofs.lemmas.List.{take_more}
use Rattle.viz_script.specs.declared.order.Step.{Step}
use Rattle.viz_script.specs.Orders.{seen}
use Rattle.viz_actor.specs.Serving.{commands_of}
use Rattle.viz_actor.proofs.ServeLemmas.{commands-append}
use Rattle.viz_actor.proofs.seating.command_count.Goals as goal
use Rattle.viz_actor.proofs.seating.command_count.Goals.{then-step-actor, else-step-actor}

-- a step more
more : (actor n : ℕ) (xs : List Step) (s : Step) → length (commands_of actor (s ∷ [])) ≡ n → length (commands_of actor (xs ++ s ∷ [])) ≡ length (commands_of actor xs) + n
more actor n xs s is = ap length (commands-append actor xs (s ∷ [])) ∙ length-append (commands_of actor xs) (commands_of actor (s ∷ [])) ∙ ap (λ k. length (commands_of actor xs) + k) is

pub loop-step-preserved : goal.loop-step-preserved
loop-step-preserved c =
    let i = c.loop-step.step-index in
    let steps = c.args.steps.now in
    let s = c.step-item.result in
    let actor = c.args.actor in
    let inv = c.loop-step.invariant in
    let front : take (i + 1) steps ≡ take i steps ++ s ∷ [] = take_more steps i s c.loop-step-test.true ∙ ap (λ x. take i steps ++ x ∷ []) (sym c.step-item.is) in
    let all : (n : ℕ) → length (commands_of actor (s ∷ [])) ≡ n → length (commands_of actor (take (i + 1) steps)) ≡ length (commands_of actor (take i steps)) + n =
    λ n is. ap (λ l. length (commands_of actor l)) front ∙ more actor n (take i steps) s is in
    elim c.if-step-actor.branch [
      | then-step-actor w ↦
          let mine : length (commands_of actor (s ∷ [])) ≡ 1 = ap (λ b. length (cond b (seen s.order ∷ []) [])) (eq-eqb s.actor actor w.if-step-actor.true) in
          record {
            count = omega (arith, w.count-is, inv.count, all 1 mine);
            bound = omega (arith, w.count-is, inv.bound);
          }
      | else-step-actor w ↦
          let other : length (commands_of actor (s ∷ [])) ≡ 0 = ap (λ b. length (cond b (seen s.order ∷ []) [])) (ne_eqb s.actor actor w.if-step-actor.false) in
          record {
            count = omega (arith, w.count-is, inv.count, all 0 other);
            bound = omega (arith, w.count-is, inv.bound);
          }
    ]
