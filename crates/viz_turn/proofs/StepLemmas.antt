-- What the proofs of steps share.
use Rattle.std.proofs.Common.{◌≡◌, ℕ, ◌+◌, ◌%◌, true, false, Option, List, [], ◌∷◌, map, get_or, set, sym, refl, ap, ◌∙◌, subst, arith, true≢false}
use mathlib.Core.Option.{some}
use mathlib.Core.Logic.{dite}
use native.Mathlib.Decide.{ℕ_discrete}
use lib.ListN.{get_elem?}
use lib.Seq.{map-set}
use Rattle.atomic_table.specs.Table.{State, keeps, stepped}
use Rattle.atomic_table.proofs.Lists.{at_map, set_else, set_again}
use Rattle.viz_turn.specs.Tales.{GoesOn}
use Rattle.viz_turn.specs.Steps.Numbers.{own_numbers}
use Rattle.viz_turn.specs.Steps.Turns.{waits, NoneOut}
use Rattle.viz_turn.specs.Steps.Lists.{IsView}
use Rattle.viz_turn.specs.Steps.Rule.{numbers_of, standing_of, IsRuled}
use Rattle.viz_turn.specs.Steps.Kinds.{view}
use Rattle.viz_turn.specs.declared.view.Numbers.{Numbers}
use Rattle.viz_turn.specs.declared.view.Standing.{Standing}
use Rattle.viz_turn.specs.declared.view.View.{View}
use Rattle.viz_turn.proofs.ListLemmas.{same_at}

-- the words of the rule
abbrev pub words4 : ℕ → ℕ → ℕ → ℕ → List ℕ
words4 n served waits made = n ∷ (served + waits) % 18446744073709551616 ∷ served % 18446744073709551616 ∷ made ∷ []

-- as many wait as before
pub words_with : (ws : List ℕ) (n served made a b : ℕ) → ws ≡ words4 n served a made → a ≡ b → ws ≡ words4 n served b made
words_with ws n served made a b is same = is ∙ ap (λ z. words4 n served z made) same

pub up_mod : (t : ℕ) → (t % 18446744073709551616 + 1) % 18446744073709551616 ≡ (t + 1) % 18446744073709551616
up_mod t = omega arith

pub numbers_kept : {E : Type 0} (vs : List (View E)) (id : ℕ) (v w : View E) → get_elem? vs id ≡ some v → w.numbers ≡ v.numbers → map numbers_of (set vs id w) ≡ map numbers_of vs
numbers_kept vs id v w at e = map-set numbers_of vs id w ∙ (ap (set (map numbers_of vs) id) e ∙ set_again (map numbers_of vs) id v.numbers (at_map numbers_of vs id v at))

pub standing_kept : {E : Type 0} (vs : List (View E)) (id : ℕ) (v w : View E) → get_elem? vs id ≡ some v → w.standing ≡ v.standing → map standing_of (set vs id w) ≡ map standing_of vs
standing_kept vs id v w at e = map-set standing_of vs id w ∙ (ap (set (map standing_of vs) id) e ∙ set_again (map standing_of vs) id v.standing (at_map standing_of vs id v at))

-- who gives up or draws a place had no turn
pub no_turn_back : (qs : List Standing) (id : ℕ) (q r : Standing) → get_elem? qs id ≡ some q → q.out ≡ false → NoneOut (set qs id r) → NoneOut qs
no_turn_back qs id q r at off h i u at_u = dite (ℕ_discrete i id)
    (λ here. ap (λ (z : Standing). z.out) (same_at qs id u q (subst (λ (z : ℕ). get_elem? qs z ≡ some u) here at_u) at) ∙ off)
    (λ no. h i u (set_else qs id i r no ∙ at_u))

module _ {E : Type 0} (by : E → ℕ) (m : ℕ) where
  -- what a seat without the turn knows
  abbrev pub view_free : (l : List E) (w0 : Numbers) (q : Standing) (seen : List E) → w0.live ≡ true → q.turn ≡ false → GoesOn by (own_numbers w0) seen l → IsView by m l (view w0 q m seen)
  view_free l w0 q seen live off g = record {
    marked = λ _. refl;
    known = λ _. g;
    claimed = tt;
    longest = λ t. absurd (true≢false (sym t ∙ off));
    spent = λ dead. absurd (true≢false (sym live ∙ dead));
  }

module _ {S E : Type 0} (tale : S → List E) (by : E → ℕ) (mark : S → ℕ) (m : ℕ) where
  -- nothing changes
  pub unmoved : (s : State (Option S) (View E)) (r : IsRuled tale by mark m s) (i id : ℕ) (c : List (ℕ × Option S)) (v : View E) → get_elem? s.views id ≡ some v → set s.words i (get_or s.words i 0) ≡ s.words → IsRuled tale by mark m (stepped s i (get_or s.words i 0) id c v keeps)
  unmoved s r i id c v at same = subst (λ (z : List ℕ × List (View E)). IsRuled tale by mark m record { words = z.0; homes = s.homes; views = z.1 }) (λ k. (sym same k, sym (set_again s.views id v at) k)) r
