-- Numbers that are kept, and 0 for every other.
use Rattle.std.proofs.Common.{◌≡◌, ℕ, zero, suc, ◌-◌, ◌<◌, ℤ, pos, Bool, true, false, ◌&&◌, cond, List, [], ◌∷◌, ◌++◌, length, map, replicate, take, get_or, refl, sym, ap, ap₂, ◌∙◌, arith}
use Rattle.std.specs.List.{list_all}
use Rattle.viz_column.specs.declared.kind.Kind8.{Kind8}
use Rattle.viz_column.specs.Kinds.{fits}
use Rattle.viz_column.specs.Numbers.{Numbers}
use Rattle.viz_lanes.specs.Planes.{kept_within}
use Rattle.viz_meaning.specs.Threshold.{kept_value, kept_numbers}
use Rattle.viz_image_ops.specs.Steps.{SelectSame, SelectNone}

-- the value of each of so many zeros
map-replicate : {X : Type 0} (value : X → ℤ) (n : ℕ) (x : X) → value x ≡ pos 0 → map value (replicate n x) ≡ replicate n (pos 0)
map-replicate value zero x is = refl
map-replicate value (suc n) x is = ap₂ (λ (y : ℤ) (ys : List ℤ). y ∷ ys) is (map-replicate value n x is)

pub map-zeros : {X : Type 0} (value : X → ℤ) (n : ℕ) (x : X) (old new : List X) → value x ≡ pos 0 → old ≡ []
    → new ≡ take n old ++ replicate (n - length old) x → map value new ≡ replicate n (pos 0)
map-zeros value n x old new is none made =
    let all : new ≡ replicate n x = made ∙ ap (λ (xs : List _). take n xs ++ replicate (n - length xs) x) none ∙ alone n x in
    ap (map value) all ∙ map-replicate value n x is
  where
    alone : {X : Type 0} (n : ℕ) (x : X) → take n [] ++ replicate (n - 0) x ≡ replicate n x
    alone zero x = refl
    alone (suc n) x = let same : suc n - 0 ≡ suc n = omega arith in ap (λ (m : ℕ). replicate m x) same

both_true : (a b : Bool) → (a && b) ≡ true → (a ≡ true) × (b ≡ true)
both_true true b h = (refl, h)
both_true false b h = cc

-- what holds of each number holds of one
pub passes_at : (p : ℤ → Bool) (xs : List ℤ) (i : ℕ) → list_all p xs ≡ true → i < length xs → p (get_or xs i (pos 0)) ≡ true
passes_at p [] i all below = absurd (omega arith)
passes_at p (x ∷ xs) zero all below = (both_true (p x) (list_all p xs) all).0
passes_at p (x ∷ xs) (suc i) all below =
    passes_at p xs i (both_true (p x) (list_all p xs) all).1 (omega arith)

-- kept by bounds that select the same, they are those that the first bounds keep
pub same_kept : (kind : Kind8) (lo hi a b : ℤ) (xs : List ℤ) → list_all (fits kind) xs ≡ true → SelectSame kind lo hi a b
    → kept_within a b xs ≡ map (kept_value lo hi) xs
same_kept kind lo hi a b [] own same = refl
same_kept kind lo hi a b (x ∷ xs) own same =
    let parts = both_true (fits kind x) (list_all (fits kind) xs) own in
    ap₂ (λ (y : ℤ) (ys : List ℤ). y ∷ ys) (ap (λ (bit : Bool). cond bit x (pos 0)) (same x parts.0)) (same_kept kind lo hi a b xs parts.1 same)

-- where none is selected, all are 0
pub kept_none : (kind : Kind8) (lo hi : ℤ) (xs ys : List ℤ) → list_all (fits kind) xs ≡ true → SelectNone kind lo hi
    → ys ≡ replicate (length xs) (pos 0) → ys ≡ map (kept_value lo hi) xs
kept_none kind lo hi xs ys own none is = is ∙ zeros_are xs own
  where
    zeros_are : (xs : List ℤ) → list_all (fits kind) xs ≡ true → replicate (length xs) (pos 0) ≡ map (kept_value lo hi) xs
    zeros_are [] own = refl
    zeros_are (x ∷ xs) own =
        let parts = both_true (fits kind x) (list_all (fits kind) xs) own in
        let zero_is : pos 0 ≡ kept_value lo hi x = sym (ap (λ (bit : Bool). cond bit x (pos 0)) (none x parts.0)) in
        ap₂ (λ (y : ℤ) (ys : List ℤ). y ∷ ys) zero_is (zeros_are xs parts.1)

abbrev pub with_kind : Kind8 → List ℤ → Numbers
with_kind kind items = record { kind = kind; items = items }

-- the same of columns
pub column_within : (kind : Kind8) (lo hi a b : ℤ) (xs ys : List ℤ) (result : Numbers) → result ≡ record { kind = kind; items = ys }
    → list_all (fits kind) xs ≡ true → SelectSame kind lo hi a b → ys ≡ kept_within a b xs
    → result ≡ kept_numbers lo hi (record { kind = kind; items = xs })
column_within kind lo hi a b xs ys result is own same kept =
    is ∙ ap (λ (zs : List ℤ). with_kind kind zs) (kept ∙ same_kept kind lo hi a b xs own same)

pub column_none : (kind : Kind8) (lo hi : ℤ) (xs ys : List ℤ) (result : Numbers) → result ≡ record { kind = kind; items = ys }
    → list_all (fits kind) xs ≡ true → SelectNone kind lo hi → ys ≡ replicate (length xs) (pos 0)
    → result ≡ kept_numbers lo hi (record { kind = kind; items = xs })
column_none kind lo hi xs ys result is own none zeros =
    is ∙ ap (λ (zs : List ℤ). with_kind kind zs) (kept_none kind lo hi xs ys own none zeros)
