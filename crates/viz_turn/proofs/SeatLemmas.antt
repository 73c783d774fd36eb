-- The steps at a seat as the code has it.
use Rattle.std.proofs.Common.{◌≡◌, ℕ, ◌+◌, ◌%◌, ◌<◌, eqb, true, Option, Some, None, List, [], ◌∷◌, ◌++◌, length, sym, refl, ap, ◌∙◌, subst}
use mathlib.Core.Option as maybe
use lib.ListN.{get_elem?}
use prog.Atomic.{either}
use Rattle.atomic_table.specs.Table.{State, Me, step, Allows, Splits, Joins, Final, Seen}
use Rattle.viz_turn.specs.Steps.Turns.{idle, at_ticket, in_turn, resting}
use Rattle.viz_turn.specs.Steps.Rule.{IsRuled}
use Rattle.viz_turn.specs.Steps.Kinds.{view, of_pass, spent_view, or_zero, elder_view, younger_view, joined, drew, appended, passed, rested, numbered, learned, looked}
use Rattle.viz_turn.specs.Steps.Seats.{IsAtRest, IsWaiting, IsInTurn, IsResting}
use Rattle.viz_turn.specs.declared.view.Numbers.{Numbers}
use Rattle.viz_turn.specs.declared.view.Standing.{Standing}
use Rattle.viz_turn.specs.declared.view.View.{View}
use Rattle.viz_turn.proofs.TurnStepLemmas as turn_step
use Rattle.viz_turn.proofs.PassStepLemmas as pass_step

who_is : (w : Numbers) (s : Option ℕ) → w.live ≡ true → w.spare ≡ s → w ≡ of_pass w.number s w.ended w.born
who_is w s a b = λ i. record { live = a i; number = w.number; spare = b i; ended = w.ended; born = w.born }

view_is : {E : Type 0} (v : View E) (w : Numbers) (q : Standing) (m : ℕ) → v.claims ≡ [] → v.numbers ≡ w → v.standing ≡ q → v.mark ≡ m → v ≡ view w q m v.seen
view_is v w q m a b c d = λ i. record { numbers = b i; standing = c i; mark = d i; seen = v.seen; claims = a i }

module _ {S E : Type 0} (tale : S → List E) (by : E → ℕ) (mark : S → ℕ) (m : ℕ) where
  abbrev M : Type 0
  M = Me (Option S) (View E)

  abbrev Rule : State (Option S) (View E) → Type 0
  Rule = IsRuled tale by mark m

  pub draws : (slots id : ℕ) (me : M) → slots ≡ 1 → IsAtRest me → me.0.mark ≡ m → Allows Rule slots id me 1 (λ n. (n + 1) % 18446744073709551616) (λ r n. drew me r n)
  draws slots id me one rests is =
      let me_is : me ≡ (view me.0.numbers idle m me.0.seen, me.1) = λ i. (view_is me.0 me.0.numbers idle m rests.claims refl rests.standing is i, me.1) in
      subst (λ (z : ℕ × M). Allows Rule z.0 id z.1 1 (λ n. (n + 1) % 18446744073709551616) (λ r n. drew z.1 r n)) (λ k. (sym one k, sym me_is k)) (turn_step.draws tale by mark m id me.0.numbers me.0.seen me.1 rests.live)

  pub looks : (slots id : ℕ) (me : M) (t : ℕ) → slots ≡ 1 → IsWaiting t me → me.0.mark ≡ m → Allows Rule slots id me 2 (λ n. n) (λ r n. looked tale by mark me r n)
  looks slots id me t one waits is =
      let me_is : me ≡ (view me.0.numbers (at_ticket t) m me.0.seen, []) = λ i. (view_is me.0 me.0.numbers (at_ticket t) m waits.claims refl waits.standing is i, waits.slots i) in
      subst (λ (z : ℕ × M). Allows Rule z.0 id z.1 2 (λ n. n) (λ r n. looked tale by mark z.1 r n)) (λ k. (sym one k, sym me_is k)) (turn_step.looks tale by mark m id me.0.numbers t me.0.seen waits.live)

  pub passes : (slots id : ℕ) (me : M) (t : ℕ) (st : S) → slots ≡ 1 → me.1 ≡ (0, Some st) ∷ [] → me.0.claims ≡ [] → me.0.numbers.live ≡ true → me.0.standing ≡ in_turn t → me.0.mark ≡ m → tale st ≡ me.0.seen → mark st ≡ m
      → Allows Rule slots id me 2 (λ n. (n + 1) % 18446744073709551616) (λ r n. passed me n)
  passes slots id me t st one full none live place is told marked =
      let me_is : me ≡ (view me.0.numbers (in_turn t) m me.0.seen, (0, Some st) ∷ []) = λ i. (view_is me.0 me.0.numbers (in_turn t) m none refl place is i, full i) in
      subst (λ (z : ℕ × M). Allows Rule z.0 id z.1 2 (λ n. (n + 1) % 18446744073709551616) (λ r n. passed z.1 n)) (λ k. (sym one k, sym me_is k)) (turn_step.passes tale by mark m id me.0.numbers t me.0.seen st live told marked)

  pub rests : (slots id : ℕ) (me : M) (t : ℕ) (st : S) → slots ≡ 1 → me.1 ≡ (0, Some st) ∷ [] → me.0.claims ≡ [] → me.0.numbers.live ≡ true → me.0.standing ≡ in_turn t → me.0.mark ≡ m → tale st ≡ me.0.seen → mark st ≡ m
      → Allows Rule slots id me 0 (λ n. n) (λ r n. rested me n)
  rests slots id me t st one full none live place is told marked =
      let me_is : me ≡ (view me.0.numbers (in_turn t) m me.0.seen, (0, Some st) ∷ []) = λ i. (view_is me.0 me.0.numbers (in_turn t) m none refl place is i, full i) in
      subst (λ (z : ℕ × M). Allows Rule z.0 id z.1 0 (λ n. n) (λ r n. rested z.1 n)) (λ k. (sym one k, sym me_is k)) (turn_step.rests tale by mark m id me.0.numbers t me.0.seen st live told marked)

  pub last_state : (id : ℕ) (v : View E) (t : ℕ) (ws : List ℕ) (xs : List (Option S)) (found : Option S) → IsResting t v → v.mark ≡ m → Final (Seen Rule id v) ws xs → get_elem? xs 0 ≡ maybe.some found
      → (st : S) × (found ≡ Some st) × (tale st ≡ v.seen) × (mark st ≡ m)
  last_state id v t ws xs found rests is fin at =
      let v_is : v ≡ view v.numbers (resting t) m v.seen = view_is v v.numbers (resting t) m rests.claims refl rests.standing is in
      let h = turn_step.ends tale by mark m id v.numbers t v.seen fin.0 fin.1.0 (fin.1.1 ∙ ap (λ (z : View E). maybe.some z) v_is) in
      (h.0, maybe.some-injective found (Some h.0) (sym at ∙ fin.4 0 (Some h.0) h.1), h.2, h.3)

  pub appends : (slots id : ℕ) (me : M) (e : E) (next : List E) → slots ≡ 1 → IsInTurn me → me.0.mark ≡ m → next ≡ me.0.seen ++ e ∷ [] → by e ≡ me.0.numbers.number → length me.0.seen + 1 < 18446744073709551616
      → Allows Rule slots id me 0 (λ n. (n + 1) % 18446744073709551616) (λ r n. appended next me n)
  appends slots id me e next one turn is grows own room =
      let t : ℕ = or_zero me.0.standing.ticket in
      let me_is : me ≡ (view me.0.numbers (in_turn t) m me.0.seen, me.1) = λ i. (view_is me.0 me.0.numbers (in_turn t) m turn.claims refl turn.standing is i, me.1) in
      subst (λ (z : ℕ × M × List E). Allows Rule z.0 id z.1 0 (λ n. (n + 1) % 18446744073709551616) (λ r n. appended z.2 z.1 n)) (λ k. (sym one k, sym me_is k, sym grows k)) (turn_step.appends tale by mark m id me.0.numbers t me.0.seen me.1 e turn.live own room)

  pub numbers : (slots id : ℕ) (me : M) (old : ℕ) → slots ≡ 1 → IsAtRest me → me.0.mark ≡ m → old + 1 < 18446744073709551616
      → Allows Rule slots id me 3 (λ x. either (eqb x old) (old + 1) x) (numbered by (step slots 3 old (old + 1) maybe.none) me)
  numbers slots id me old one rests is room =
      let w = me.0.numbers in
      let me_is : me ≡ (view (of_pass w.number None w.ended w.born) idle m me.0.seen, me.1) = λ i. (view_is me.0 (of_pass w.number None w.ended w.born) idle m rests.claims (who_is w None rests.live rests.spare) rests.standing is i, me.1) in
      subst (λ (z : ℕ × M). Allows Rule z.0 id z.1 3 (λ x. either (eqb x old) (old + 1) x) (numbered by (step z.0 3 old (old + 1) maybe.none) z.1)) (λ k. (sym one k, sym me_is k)) (pass_step.numbers tale by mark m id w.number w.ended w.born idle me.0.seen me.1 old room refl)

  pub splits : (id n k : ℕ) (e b : List ℕ) (seen : List E) (v : View E) → v ≡ view (of_pass n (Some k) e b) idle m seen → Splits Rule id v (elder_view v) (younger_view v)
  splits id n k e b seen v is = subst (λ (z : View E). Splits Rule id z (elder_view z) (younger_view z)) (sym is) (pass_step.splits tale by mark m id n k e b seen)

  pub rest_is : (me : M) → IsAtRest me → me.0.mark ≡ m → me.0 ≡ view (of_pass me.0.numbers.number None me.0.numbers.ended me.0.numbers.born) idle m me.0.seen
  rest_is me rests is = let w = me.0.numbers in view_is me.0 (of_pass w.number None w.ended w.born) idle m rests.claims (who_is w None rests.live rests.spare) rests.standing is

  pub joins : (id other : ℕ) (me you : M) → IsAtRest me → IsAtRest you → me.0.mark ≡ m → you.0.mark ≡ m → Joins Rule id me.0 other you.0 (joined me.0 you.0) spent_view
  joins id other me you rests rests' is is' = let w = me.0.numbers in let w' = you.0.numbers in
      subst (λ (z : View E × View E). Joins Rule id z.0 other z.1 (joined z.0 z.1) spent_view) (λ k. (sym (rest_is me rests is) k, sym (rest_is you rests' is') k))
      (pass_step.joins tale by mark m id other w.number w'.number w.ended w'.ended w.born w'.born me.0.seen you.0.seen)

  pub learns : (slots id : ℕ) (me : M) → slots ≡ 1 → me.0.mark ≡ m → Allows Rule slots id me 0 (λ n. n) (λ r n. learned by me n)
  learns slots id me one is = subst (λ (z : ℕ). Allows Rule z id me 0 (λ n. n) (λ r n. learned by me n)) (sym one) (pass_step.learns tale by mark m id me.0 me.1 is)
