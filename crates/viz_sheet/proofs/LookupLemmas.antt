-- Numbers looked up by the ranks of a cell, size by size.
use Rattle.std.proofs.Common.{◌≡◌, ℕ, ◌<◌, ◌≤◌, List, [], ◌∷◌, length, get_or, map, take, refl, ap, ap₂, arith}
use Rattle.std.proofs.lemmas.List.{map-id}

pub ruleset as_it_is = (map-id)

pub map_one : {X Y : Type 0} (f : X → Y) (xs : List X) (d : X) → length xs ≡ 1 → f (get_or xs 0 d) ∷ [] ≡ map f xs
map_one f [] d h = absurd (omega arith)
map_one f (x ∷ []) d h = refl
map_one f (x ∷ y ∷ ys) d h = absurd (omega arith)

pub map_two : {X Y : Type 0} (f : X → Y) (xs : List X) (d : X) → length xs ≡ 2 → f (get_or xs 0 d) ∷ f (get_or xs 1 d) ∷ [] ≡ map f xs
map_two f [] d h = absurd (omega arith)
map_two f (x ∷ []) d h = absurd (omega arith)
map_two f (x ∷ y ∷ []) d h = refl
map_two f (x ∷ y ∷ z ∷ zs) d h = absurd (omega arith)

pub map_three : {X Y : Type 0} (f : X → Y) (xs : List X) (d : X) → length xs ≡ 3 → f (get_or xs 0 d) ∷ f (get_or xs 1 d) ∷ f (get_or xs 2 d) ∷ [] ≡ map f xs
map_three f [] d h = absurd (omega arith)
map_three f (x ∷ []) d h = absurd (omega arith)
map_three f (x ∷ y ∷ []) d h = absurd (omega arith)
map_three f (x ∷ y ∷ z ∷ []) d h = refl
map_three f (x ∷ y ∷ z ∷ w ∷ ws) d h = absurd (omega arith)

pub map_four : {X Y : Type 0} (f : X → Y) (xs : List X) (d : X) → length xs ≡ 4 → f (get_or xs 0 d) ∷ f (get_or xs 1 d) ∷ f (get_or xs 2 d) ∷ f (get_or xs 3 d) ∷ [] ≡ map f xs
map_four f [] d h = absurd (omega arith)
map_four f (x ∷ []) d h = absurd (omega arith)
map_four f (x ∷ y ∷ []) d h = absurd (omega arith)
map_four f (x ∷ y ∷ z ∷ []) d h = absurd (omega arith)
map_four f (x ∷ y ∷ z ∷ w ∷ []) d h = refl
map_four f (x ∷ y ∷ z ∷ w ∷ v ∷ vs) d h = absurd (omega arith)

-- the first of four numbers, as many as the list has items
pub map_taken : (f : ℕ → ℕ) (xs : List ℕ) (a b c d : ℕ) → length xs ≤ 4
    → (0 < length xs → a ≡ f (get_or xs 0 0)) → (1 < length xs → b ≡ f (get_or xs 1 0)) → (2 < length xs → c ≡ f (get_or xs 2 0)) → (3 < length xs → d ≡ f (get_or xs 3 0))
    → take (length xs) (a ∷ b ∷ c ∷ d ∷ []) ≡ map f xs
map_taken f [] a b c d l ha hb hc hd = refl
map_taken f (x ∷ []) a b c d l ha hb hc hd = ap (λ p. p ∷ []) (ha (omega arith))
map_taken f (x ∷ y ∷ []) a b c d l ha hb hc hd = ap₂ (λ p q. p ∷ q ∷ []) (ha (omega arith)) (hb (omega arith))
map_taken f (x ∷ y ∷ z ∷ []) a b c d l ha hb hc hd =
    ap₂ (λ p qs. p ∷ qs) (ha (omega arith)) (ap₂ (λ p q. p ∷ q ∷ []) (hb (omega arith)) (hc (omega arith)))
map_taken f (x ∷ y ∷ z ∷ w ∷ []) a b c d l ha hb hc hd =
    ap₂ (λ p qs. p ∷ qs) (ha (omega arith))
    (ap₂ (λ p qs. p ∷ qs) (hb (omega arith)) (ap₂ (λ p q. p ∷ q ∷ []) (hc (omega arith)) (hd (omega arith))))
map_taken f (x ∷ y ∷ z ∷ w ∷ v ∷ vs) a b c d l ha hb hc hd = absurd (omega arith)
