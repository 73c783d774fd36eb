-- AreLists of seats of which one or two changed.
use Rattle.std.proofs.Common.{◌≡◌, ◌≢◌, ◌⊎◌, ℕ, zero, suc, ◌<◌, Bool, true, false, ◌||◌, List, [], ◌∷◌, ◌++◌, length, set, sym, refl, ap, ◌∙◌, subst, ⊎_elim, inl, inr, arith, ◌==◌, not, Option, Some, None}
use mathlib.Core.Option.{some, some-injective, some-ne-none}
use lib.ListN.{get_elem?}
use Rattle.std.proofs.lemmas.Bool.{or_cases, or_left, or_right, eqb-true, eq-eqb, and_parts, and_from, not-true, not_from_false, or_from, false_from_ne_true}
use Rattle.atomic_table.proofs.Lists.{at_set, set_here, set_else}
use Rattle.viz_turn.specs.Tales.{has, once}
use Rattle.viz_turn.specs.Steps.Numbers.{spares, own_numbers, all_numbers}
use Rattle.viz_turn.specs.declared.view.Numbers.{Numbers}

module _ {A : Type 0} where
  pub at_end : (l : List A) (a b : A) (j : ℕ) → get_elem? (l ++ a ∷ []) j ≡ some b → (get_elem? l j ≡ some b) ⊎ ((j ≡ length l) × (a ≡ b))
  at_end [] a b zero e = inr (refl, some-injective a b e)
  at_end [] a b (suc j) e = absurd (some-ne-none b (sym e))
  at_end (x ∷ xs) a b zero e = inl e
  at_end (x ∷ xs) a b (suc j) e = ⊎_elim inl (λ t. inr (ap suc t.0, t.1)) (at_end xs a b j e)

  pub at_within : (l : List A) (i : ℕ) (a : A) → get_elem? l i ≡ some a → i < length l
  at_within [] i a e = absurd (some-ne-none a (sym e))
  at_within (x ∷ xs) zero a e = omega arith
  at_within (x ∷ xs) (suc i) a e = let h = at_within xs i a e in omega arith

  pub same_at : (l : List A) (i : ℕ) (a b : A) → get_elem? l i ≡ some a → get_elem? l i ≡ some b → a ≡ b
  same_at l i a b e f = some-injective a b (sym e ∙ f)

  -- a seat that changed, and one beside it
  pub at_here : (l : List A) (i : ℕ) (a b : A) → get_elem? l i ≡ some b → get_elem? (set l i a) i ≡ some a
  at_here l i a b e = set_here l i a (at_within l i b e)

  pub at_else : (l : List A) (i j : ℕ) (a b : A) → j ≢ i → get_elem? l j ≡ some b → get_elem? (set l i a) j ≡ some b
  at_else l i j a b other e = set_else l i j a other ∙ e

  -- what holds of each seat, after one changed
  pub each_set : (l : List A) (id : ℕ) (w : A) (F : ℕ → A → Type 0) → F id w → ((j : ℕ) (u : A) → j ≢ id → get_elem? l j ≡ some u → F j u) → (j : ℕ) (u : A) → get_elem? (set l id w) j ≡ some u → F j u
  each_set l id w F mine others j u e =
      ⊎_elim (λ (x : (j ≡ id) × (w ≡ u)). subst (λ (y : ℕ × A). F y.0 y.1) (λ i. (sym x.0 i, x.1 i)) mine)
      (λ (x : (j ≢ id) × (get_elem? l j ≡ some u)). others j u x.0 x.1) (at_set l id j w u e)

  pub each_snoc : (l : List A) (w : A) (F : ℕ → A → Type 0) → F (length l) w → ((j : ℕ) (u : A) → get_elem? l j ≡ some u → F j u) → (j : ℕ) (u : A) → get_elem? (l ++ w ∷ []) j ≡ some u → F j u
  each_snoc l w F mine others j u e =
      ⊎_elim (λ (x : get_elem? l j ≡ some u). others j u x)
      (λ (x : (j ≡ length l) × (w ≡ u)). subst (λ (y : ℕ × A). F y.0 y.1) (λ i. (sym x.0 i, x.1 i)) mine) (at_end l w u j e)

or_step : (t p q r : Bool) → p ≡ (q || r) → (t || p) ≡ ((t || q) || r)
or_step true p q r e = refl
or_step false p q r e = e

pub has_append : (x : ℕ) (a b : List ℕ) → has x (a ++ b) ≡ (has x a || has x b)
has_append x [] b = refl
has_append x (y ∷ a) b = or_step (x == y) _ _ _ (has_append x a b)

pub has_either : (x : ℕ) (a b : List ℕ) → has x (a ++ b) ≡ true → (has x a ≡ true) ⊎ (has x b ≡ true)
has_either x a b h = or_cases (has x a) (has x b) (sym (has_append x a b) ∙ h)

pub has_left : (x : ℕ) (a b : List ℕ) → has x a ≡ true → has x (a ++ b) ≡ true
has_left x a b h = has_append x a b ∙ or_left (has x a) (has x b) h

pub has_right : (x : ℕ) (a b : List ℕ) → has x b ≡ true → has x (a ++ b) ≡ true
has_right x a b h = has_append x a b ∙ or_right (has x a) (has x b) h

pub has_head : (x : ℕ) (b : List ℕ) → has x (x ∷ b) ≡ true
has_head x b = or_left (x == x) (has x b) (eq-eqb x x refl)

pub has_tail : (x y : ℕ) (b : List ℕ) → has x b ≡ true → has x (y ∷ b) ≡ true
has_tail x y b h = or_right (x == y) (has x b) h

pub has_cons : (x y : ℕ) (b : List ℕ) → has x (y ∷ b) ≡ true → (x ≡ y) ⊎ (has x b ≡ true)
has_cons x y b h = ⊎_elim (λ t. inl (eqb-true x y t)) inr (or_cases (x == y) (has x b) h)

pub once_cons : (x : ℕ) (b : List ℕ) → has x b ≡ false → once b ≡ true → once (x ∷ b) ≡ true
once_cons x b h k = and_from (not (has x b)) (once b) (not_from_false (has x b) h) k

pub once_append : (a b : List ℕ) → once a ≡ true → once b ≡ true → ((x : ℕ) → has x a ≡ true → has x b ≡ true → ⊥) → once (a ++ b) ≡ true
once_append [] b h k apart = k
once_append (x ∷ a) b h k apart = let p = and_parts (not (has x a)) (once a) h in
    once_cons x (a ++ b) (has_append x a b ∙ or_from (has x a) (has x b) (not-true (has x a) p.0) (false_from_ne_true (has x b) (λ in_b. apart x (has_head x a) in_b)))
    (once_append a b p.1 k (λ y in_a in_b. apart y (has_tail y x a in_a) in_b))

-- the numbers of a pass differ, with or without its spare one
pub own_distinct : (w : Numbers) → once (all_numbers w) ≡ true → once (own_numbers w) ≡ true
own_distinct w h = go w.spare (own_numbers w) h
  where
    go : (s : Option ℕ) (l : List ℕ) → once (spares s ++ l) ≡ true → once l ≡ true
    go None l h = h
    go (Some n) l h = (and_parts (not (has n l)) (once l) h).1
