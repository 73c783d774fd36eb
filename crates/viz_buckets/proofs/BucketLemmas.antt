-- Buckets behind a push, and what one of them has.
use Rattle.std.proofs.Common.{◌≡◌, ℕ, zero, suc, ◌<◌, ◌%◌, Bool, true, false, cond, nat_eq, ◌⊎◌, inl, inr, List, [], ◌∷◌, ◌++◌, append-nil, length, slice_get, slice_set, Some, refl, sym, ap, subst, ◌∙◌, true≢false, arith}
use Rattle.std.specs.List.{All, filter}
use Rattle.std.proofs.lemmas.Bool.{eqb-true, eq-eqb}
use Rattle.std.proofs.lemmas.List.Elements.{All-get_or, filter-append}
use Rattle.std.proofs.lemmas.Option.{get_or_from_slice_get, same_Some, slice_get_within}
use Rattle.viz_buckets.specs.Buckets.{HasAllOf}
use Rattle.viz_buckets.specs.Steps.Shared.{AreBuckets, in_bucket}

-- what is picked of picked ones
filter_twice : {T : Type 0} (p q : T → Bool) → ((x : T) → p x ≡ true → q x ≡ true) → (xs : List T) → filter p (filter q xs) ≡ filter p xs
filter_twice p q h [] = refl
filter_twice p q h (x ∷ xs) = by (q x) (p x) refl refl (filter_twice p q h xs)
  where
    by : (a b : Bool) → q x ≡ a → p x ≡ b → filter p (filter q xs) ≡ filter p xs → filter p (cond a (x ∷ filter q xs) (filter q xs)) ≡ cond b (x ∷ filter p xs) (filter p xs)
    by true b e f i = ap (λ c. cond c (x ∷ filter p (filter q xs)) (filter p (filter q xs))) f ∙ ap (λ l. cond b (x ∷ l) l) i
    by false true e f i = absurd (true≢false (sym (h x f) ∙ e))
    by false false e f i = i

-- a list at a place behind a write to one
pub set_get : {V : Type 0} (vs : List V) (i j : ℕ) (v w : V) → slice_get (slice_set vs i v) j ≡ Some w → ((j ≡ i) × (w ≡ v)) ⊎ ((j ≡ i → ⊥) × (slice_get vs j ≡ Some w))
set_get [] i j v w e = let bad : ⊥ = cc in absurd bad
set_get (x ∷ vs) zero zero v w e = inl (refl, sym (same_Some v w e))
set_get (x ∷ vs) zero (suc j) v w e = inr ((λ s. omega (arith, s)), e)
set_get (x ∷ vs) (suc i) zero v w e = inr ((λ s. omega (arith, s)), e)
set_get (x ∷ vs) (suc i) (suc j) v w e = elim (set_get vs i j v w e) [
  | inl h ↦ inl (ap suc h.0, h.1)
  | inr h ↦ inr ((λ s. h.0 (omega (arith, s))), h.1)
]

set_length : {V : Type 0} (vs : List V) (i : ℕ) (v : V) → length (slice_set vs i v) ≡ length vs
set_length [] i v = refl
set_length (x ∷ vs) zero v = refl
set_length (x ∷ vs) (suc i) v = ap suc (set_length vs i v)

-- each has what all have
pub all_at : {V : Type 0} (P : V → Type 0) (vs : List V) → All P vs → (j : ℕ) (v : V) → slice_get vs j ≡ Some v → P v
all_at P vs a j v e = subst P (get_or_from_slice_get vs j v v e) (All-get_or P vs j v (slice_get_within vs j v e) a)

module _ {T V : Type 0} (number : T → ℕ) (items : V → List T) where
  -- empty ones share out no items
  pub all_empty : (buckets : List V) → 0 < length buckets → All (λ b. items b ≡ []) buckets → AreBuckets number items [] buckets
  all_empty buckets some empty = record { some = some; each = λ j b e. all_at (λ b. items b ≡ []) buckets empty j b e }

  -- one bucket has all items of a number
  pub found : (all : List T) (buckets : List V) → AreBuckets number items all buckets → (k j : ℕ) (b : V) → slice_get buckets j ≡ Some b → j ≡ k % length buckets → HasAllOf number k all (items b)
  found all buckets are k j b at is = λ p only.
      ap (filter p) (are.each j b at)
      ∙ filter_twice p (λ x. nat_eq (number x % length buckets) j) (λ x h. eq-eqb (number x % length buckets) j (ap (λ n. n % length buckets) (only x h) ∙ sym is)) all

  -- an item more, by the test of its bucket
  in_more : (count j : ℕ) (all : List T) (x : T) (t : Bool) → nat_eq (number x % count) j ≡ t → in_bucket number count j (all ++ x ∷ []) ≡ in_bucket number count j all ++ cond t (x ∷ []) []
  in_more count j all x t e =
      filter-append (λ x. nat_eq (number x % count) j) all (x ∷ [])
      ∙ ap (λ c. in_bucket number count j all ++ cond c (x ∷ []) []) e

  other : (count j at : ℕ) (x : T) (t : Bool) → at ≡ number x % count → (j ≡ at → ⊥) → nat_eq (number x % count) j ≡ t → t ≡ false
  other count j at x true is ne e = absurd (ne (sym (eqb-true (number x % count) j e) ∙ sym is))
  other count j at x false is ne e = refl

  -- an item more in its bucket and in the list
  pub pushed : (all more : List T) (buckets : List V) (x : T) (at : ℕ) (old new : V) → AreBuckets number items all buckets → at ≡ number x % length buckets → slice_get buckets at ≡ Some old
      → items new ≡ items old ++ x ∷ [] → more ≡ all ++ x ∷ [] → AreBuckets number items more (slice_set buckets at new)
  pushed all more buckets x at old new are is there grown longer =
      let count = set_length buckets at new in
      record {
        some = subst (λ n. 0 < n) (sym count) are.some;
        each = λ j b e. subst (λ n. items b ≡ in_bucket number n j more) (sym count) (by j b (set_get buckets at j new b e) ∙ ap (in_bucket number (length buckets) j) (sym longer));
      }
    where
      by : (j : ℕ) (b : V) → ((j ≡ at) × (b ≡ new)) ⊎ ((j ≡ at → ⊥) × (slice_get buckets j ≡ Some b)) → items b ≡ in_bucket number (length buckets) j (all ++ x ∷ [])
      by j b (inl h) =
          ap items h.1 ∙ grown ∙ ap (λ l. l ++ x ∷ []) (are.each at old there)
          ∙ ap (λ i. in_bucket number (length buckets) i all ++ x ∷ []) (sym h.0)
          ∙ sym (in_more (length buckets) j all x true (eq-eqb (number x % length buckets) j (sym is ∙ sym h.0)))
      by j b (inr h) =
          are.each j b h.1
          ∙ sym (append-nil (in_bucket number (length buckets) j all))
          ∙ sym (in_more (length buckets) j all x false (other (length buckets) j at x (nat_eq (number x % length buckets) j) is h.0 refl))

-- what goes by the first item with a property
by_picked : {T C : Type 0} (test : T → Bool) (at : T → C) (f : List T → C) → ((x : T) (xs : List T) → f (x ∷ xs) ≡ cond (test x) (at x) (f xs))
    → (xs : List T) → f (filter test xs) ≡ f xs
by_picked test at f step [] = refl
by_picked test at f step (x ∷ xs) = by (test x) refl (by_picked test at f step xs)
  where
    by : (t : Bool) → test x ≡ t → f (filter test xs) ≡ f xs → f (cond t (x ∷ filter test xs) (filter test xs)) ≡ f (x ∷ xs)
    by true e h = step x (filter test xs) ∙ ap (λ c. cond c (at x) (f (filter test xs))) e ∙ sym (step x xs ∙ ap (λ c. cond c (at x) (f xs)) e)
    by false e h = h ∙ sym (step x xs ∙ ap (λ c. cond c (at x) (f xs)) e)

-- where only items of one number have the property, that is the same of all and of their bucket
pub by_first : {T C : Type 0} (number : T → ℕ) (k : ℕ) (all some : List T) → HasAllOf number k all some → (test : T → Bool) → ((x : T) → test x ≡ true → number x ≡ k)
    → (at : T → C) (f : List T → C) → ((x : T) (xs : List T) → f (x ∷ xs) ≡ cond (test x) (at x) (f xs)) → f some ≡ f all
by_first number k all some has test only at f step = sym (by_picked test at f step some) ∙ ap f (has test only) ∙ by_picked test at f step all
