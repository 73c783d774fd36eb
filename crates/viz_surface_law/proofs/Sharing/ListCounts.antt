-- Counts over lists of lists.
use Rattle.std.proofs.Common.{◌≡◌, ℕ, ◌+◌, Bool, true, false, cond, ◌&&◌, List, [], ◌∷◌, map, refl, sym, ap, ◌∙◌, arith, zero, suc, ◌-◌, ◌<◌, length, get_or}
use Rattle.std.specs.Prelude.{count_by, sum_by}
use Rattle.std.specs.List.{All, flat_map}
use Rattle.std.proofs.lemmas.List.Sums.{sum_by-cons, sum_by-append}
use Rattle.std.proofs.lemmas.List.Elements.{All-head, All-tail}

-- a count over pieces is the sum of the pieces' counts
pub count_by-flat_map : {X A : Type 0} (P : A → Bool) (f : X → List A) (xs : List X) → count_by P (flat_map f xs) ≡ sum_by (λ x. count_by P (f x)) xs
count_by-flat_map P f [] = refl
count_by-flat_map P f (x ∷ xs) =
    sum_by-append (λ a. cond (P a) 1 0) (f x) (flat_map f xs)
    ∙ ap (λ n. count_by P (f x) + n) (count_by-flat_map P f xs)
    ∙ sym (sum_by-cons (λ y. count_by P (f y)) x xs)

-- and a sum over pieces
pub sum_by-flat_map : {X A : Type 0} (g : A → ℕ) (f : X → List A) (xs : List X) → sum_by g (flat_map f xs) ≡ sum_by (λ x. sum_by g (f x)) xs
sum_by-flat_map g f [] = refl
sum_by-flat_map g f (x ∷ xs) =
    sum_by-append g (f x) (flat_map f xs)
    ∙ ap (λ n. sum_by g (f x) + n) (sum_by-flat_map g f xs)
    ∙ sym (sum_by-cons (λ y. sum_by g (f y)) x xs)

pub sum_by-map : {X A : Type 0} (g : A → ℕ) (f : X → A) (xs : List X) → sum_by g (map f xs) ≡ sum_by (λ x. g (f x)) xs
sum_by-map g f [] = refl
sum_by-map g f (x ∷ xs) =
    sum_by-cons g (f x) (map f xs) ∙ ap (λ n. g (f x) + n) (sum_by-map g f xs) ∙ sym (sum_by-cons (λ y. g (f y)) x xs)

-- sums of equal terms are equal
pub sum_by-same : {X : Type 0} (f g : X → ℕ) (xs : List X) → All (λ x. f x ≡ g x) xs → sum_by f xs ≡ sum_by g xs
sum_by-same f g [] each = refl
sum_by-same f g (x ∷ xs) each =
    omega (arith, sum_by-cons f x xs, sum_by-cons g x xs, All-head (λ y. f y ≡ g y) x xs each, sum_by-same f g xs (All-tail (λ y. f y ≡ g y) x xs each))

pub sum_by-plus : {X : Type 0} (f g : X → ℕ) (xs : List X) → sum_by (λ x. f x + g x) xs ≡ sum_by f xs + sum_by g xs
sum_by-plus f g [] = refl
sum_by-plus f g (x ∷ xs) =
    omega (arith, sum_by-cons f x xs, sum_by-cons g x xs, sum_by-cons (λ y. f y + g y) x xs, sum_by-plus f g xs)

pub count_by-none : {X : Type 0} (xs : List X) → count_by (λ x. false) xs ≡ 0
count_by-none [] = refl
count_by-none {X} (x ∷ xs) = omega (arith, sum_by-cons (λ (y : X). 0) x xs, count_by-none xs)

-- a test that doesn't look at the item
pub count_by-if : {X : Type 0} (q : Bool) (p : X → Bool) (xs : List X) → count_by (λ x. q && p x) xs ≡ cond q (count_by p xs) 0
count_by-if true p xs = refl
count_by-if false p xs = count_by-none xs

pub count_by-same : {X : Type 0} (p q : X → Bool) (xs : List X) → ((x : X) → p x ≡ q x) → count_by p xs ≡ count_by q xs
count_by-same p q xs alike = sum_by-same (λ x. cond (p x) 1 0) (λ x. cond (q x) 1 0) xs (λ k d less. ap (λ b. cond b 1 0) (alike _))

pub and-swap : (p q : Bool) → (p && q) ≡ (q && p)
and-swap true true = refl
and-swap true false = refl
and-swap false true = refl
and-swap false false = refl

pub count_by-and : {X : Type 0} (q : Bool) (p : X → Bool) (xs : List X) → count_by (λ x. p x && q) xs ≡ cond q (count_by p xs) 0
count_by-and q p xs = count_by-same (λ x. p x && q) (λ x. q && p x) xs (λ x. and-swap (p x) q) ∙ count_by-if q p xs

-- a sum above 0 has a term above 0
pub positive : {X : Type 0} (f : X → ℕ) (xs : List X) (d : X) → 0 < sum_by f xs → (k : ℕ) × (k < length xs) × (0 < f (get_or xs k d))
positive f [] d above = absurd (omega arith)
positive {X} f (x ∷ xs) d above = cases (f x) refl (positive f xs d)
  where
    cases : (n : ℕ) → f x ≡ n → (0 < sum_by f xs → (k : ℕ) × (k < length xs) × (0 < f (get_or xs k d)))
        → (k : ℕ) × (k < length (x ∷ xs)) × (0 < f (get_or (x ∷ xs) k d))
    cases zero none later =
        let rest = later (omega (arith, above, none, sum_by-cons f x xs)) in
        (suc rest.0, omega (arith, rest.1), rest.2)
    cases (suc n) some later = (0, omega arith, omega (arith, some))

pub by_test : {C : Type 0} (b : Bool) → (b ≡ true → C) → (b ≡ false → C) → C
by_test true so isnt = so refl
by_test false so isnt = isnt refl
