-- Triangles face the outside corners: one of the determinant's two sums has no term but 0, the other has one above 0.
use Rattle.std.proofs.Common.{◌≡◌, ℕ, ◌*◌, ◌<◌, ◌==◌, Bool, true, false, cond, not, ◌&&◌, ◌||◌, List, [], ◌∷◌, slice_index_or, refl, inl, inr, arith}
use Rattle.std.specs.List.{list_all, list_any}
use Rattle.std.proofs.lemmas.Bool.{agree_below, agree_below_at, and_parts, and_cases, or_cases}
use Rattle.std.proofs.Math.Nat.{mul-pos}
use Rattle.std.proofs.lemmas.List.Sums.{AllPass-from_list_all, sum_by-cons}
use Rattle.viz_fraction.specs.CaseRows.{End}
use Rattle.viz_fraction.specs.Cases.{is_inside, cells_at}
use Rattle.viz_fraction.specs.CaseFacing.{Weights, ArePositive, weight_at, even_orders, odd_orders, product_along, sum_along, weights_with, FacesOutside, FacesAwayFromInside}
use Rattle.viz_fraction.proofs.CaseTable.{yes, passes_other, passes_then}

-- whether a corner is one of an end's two
abbrev is_on : End → ℕ → Bool
is_on e corner = (corner == e.low) || (corner == e.high)

-- whether each entry of a product is above 0
abbrev is_term : List End → ℕ → List ℕ → Bool
is_term [] corner [] = true
is_term [] corner (column ∷ columns) = column == corner
is_term (e ∷ cell) corner [] = true
is_term (e ∷ cell) corner (column ∷ columns) = is_on e column && is_term cell corner columns

-- a weight is above 0 at the corners of its end
weight_above : (w : End → Weights) → ArePositive w → (e : End) (corner : ℕ)
    → is_on e corner ≡ true → 0 < weight_at w e corner
weight_above w positive e corner on =
    let low = positive.low e in
    let high = positive.high e in
    elim (corner == e.low) as (λ b. (b || (corner == e.high)) ≡ true → 0 < cond b (w e).at_low (cond (corner == e.high) (w e).at_high 0)) [
      | true ↦ λ _. low
      | false ↦ λ is_high. elim (corner == e.high) as (λ b. b ≡ true → 0 < cond b (w e).at_high 0) [
        | true ↦ λ _. high
        | false ↦ λ never. absurd (cc)
      ] is_high
    ] on

-- a weight is 0 at the other corners
weight_none : (w : End → Weights) (e : End) (corner : ℕ)
    → is_on e corner ≡ false → weight_at w e corner ≡ 0
weight_none w e corner off =
    elim (corner == e.low) as (λ b. (b || (corner == e.high)) ≡ false → cond b (w e).at_low (cond (corner == e.high) (w e).at_high 0) ≡ 0) [
      | true ↦ λ never. absurd (cc)
      | false ↦ λ not_high. elim (corner == e.high) as (λ b. b ≡ false → cond b (w e).at_high 0 ≡ 0) [
        | true ↦ λ never. absurd (cc)
        | false ↦ λ _. refl
      ] not_high
    ] off

-- a product of entries above 0
product_above : (w : End → Weights) → ArePositive w → (cell : List End) (corner : ℕ) (columns : List ℕ)
    → is_term cell corner columns ≡ true → 0 < product_along (weights_with w cell corner) columns
product_above w positive [] corner [] term = omega arith
product_above w positive [] corner (column ∷ columns) term =
    elim (column == corner) as (λ b. b ≡ true → 0 < cond b 1 0 * 1) [
      | true ↦ λ _. omega arith
      | false ↦ λ never. absurd (cc)
    ] term
product_above w positive (e ∷ cell) corner [] term = omega arith
product_above w positive (e ∷ cell) corner (column ∷ columns) term =
    let parts = and_parts (is_on e column) (is_term cell corner columns) term in
    let first = weight_above w positive e column parts.0 in
    let rest = product_above w positive cell corner columns parts.1 in
    mul-pos first rest

-- a product with an entry 0
product_none : (w : End → Weights) (cell : List End) (corner : ℕ) (columns : List ℕ)
    → is_term cell corner columns ≡ false → product_along (weights_with w cell corner) columns ≡ 0
product_none w [] corner [] none = absurd (cc)
product_none w [] corner (column ∷ columns) none =
    elim (column == corner) as (λ b. b ≡ false → cond b 1 0 * 1 ≡ 0) [
      | true ↦ λ never. absurd (cc)
      | false ↦ λ _. omega arith
    ] none
product_none w (e ∷ cell) corner [] none = absurd (cc)
product_none w (e ∷ cell) corner (column ∷ columns) none =
    elim (and_cases (is_on e column) (is_term cell corner columns) none) [
      | inl off ↦ rw (weight_none w e column off) (omega arith)
      | inr rest ↦ rw (product_none w cell corner columns rest) (omega arith)
    ]

-- what has a true negation is false
false_from_not : (a : Bool) → not a ≡ true → a ≡ false
false_from_not a is = grind arith

-- a sum without a term
sum_none : (w : End → Weights) (cell : List End) (corner : ℕ) (orders : List (List ℕ))
    → list_all (λ columns. not (is_term cell corner columns)) orders ≡ true
    → sum_along (weights_with w cell corner) orders ≡ 0
sum_none w cell corner [] none = refl
sum_none w cell corner (columns ∷ orders) none =
    let parts = and_parts (not (is_term cell corner columns)) (list_all (λ c. not (is_term cell corner c)) orders) none in
    let first = product_none w cell corner columns (false_from_not (is_term cell corner columns) parts.0) in
    let rest = sum_none w cell corner orders parts.1 in
    rw (sum_by-cons (product_along (weights_with w cell corner)) columns orders) (omega arith)

-- a sum with a term
sum_above : (w : End → Weights) → ArePositive w → (cell : List End) (corner : ℕ) (orders : List (List ℕ))
    → list_any (is_term cell corner) orders ≡ true
    → 0 < sum_along (weights_with w cell corner) orders
sum_above w positive cell corner [] some = absurd (cc)
sum_above w positive cell corner (columns ∷ orders) some =
    let split = sum_by-cons (product_along (weights_with w cell corner)) columns orders in
    elim (or_cases (is_term cell corner columns) (list_any (is_term cell corner) orders) some) [
      | inl here ↦ let first = product_above w positive cell corner columns here in rw split (omega arith)
      | inr later ↦ let rest = sum_above w positive cell corner orders later in rw split (omega arith)
    ]

-- whether the terms of a triangle and a corner stand along some orders, and along no others
abbrev has_terms : List (List ℕ) → List (List ℕ) → ℕ → List End → Bool
has_terms orders others corner cell =
    list_any (is_term cell corner) orders && list_all (λ columns. not (is_term cell corner columns)) others

-- what this says of the two sums
sums_apart : (orders others : List (List ℕ)) (corner : ℕ) (cell : List End) → has_terms orders others corner cell ≡ true
    → (w : End → Weights) → ArePositive w
    → sum_along (weights_with w cell corner) others < sum_along (weights_with w cell corner) orders
sums_apart orders others corner cell terms w positive =
    let parts = and_parts (list_any (is_term cell corner) orders) (list_all (λ columns. not (is_term cell corner columns)) others) terms in
    let some = sum_above w positive cell corner orders parts.0 in
    let none = sum_none w cell corner others parts.1 in
    omega arith

-- whether each triangle faces a corner if it is outside
abbrev faces_if_outside : ℕ → ℕ → Bool
faces_if_outside mask corner =
    is_inside mask corner || list_all (has_terms even_orders odd_orders corner) (cells_at 4 mask)

-- whether each triangle faces away from a corner if it is inside
abbrev faces_away_if_inside : ℕ → ℕ → Bool
faces_away_if_inside mask corner =
    not (is_inside mask corner) || list_all (has_terms odd_orders even_orders corner) (cells_at 4 mask)

-- a test of each corner
abbrev each_corner : (ℕ → ℕ → Bool) → ℕ → Bool
each_corner p mask = agree_below (p mask) yes 4

faces_if_outside-any : (mask : ℕ) → mask < 16 → each_corner faces_if_outside mask ≡ true
unfolding cells_at
faces_if_outside-any mask below = agree_below_at (each_corner faces_if_outside) yes 16 mask refl below

faces_away_if_inside-any : (mask : ℕ) → mask < 16 → each_corner faces_away_if_inside mask ≡ true
unfolding cells_at
faces_away_if_inside-any mask below = agree_below_at (each_corner faces_away_if_inside) yes 16 mask refl below

pub faces_outside : FacesOutside
faces_outside mask corner known below outside = λ k d within.
    let tested = agree_below_at (faces_if_outside mask) yes 4 corner (faces_if_outside-any mask known.below) below in
    let all = passes_other (is_inside mask corner) (list_all (has_terms even_orders odd_orders corner) (cells_at 4 mask)) tested outside in
    sums_apart even_orders odd_orders corner (slice_index_or (cells_at 4 mask) k d)
    (AllPass-from_list_all (has_terms even_orders odd_orders corner) (cells_at 4 mask) all k d within)

pub faces_away : FacesAwayFromInside
faces_away mask corner known below inside = λ k d within.
    let tested = agree_below_at (faces_away_if_inside mask) yes 4 corner (faces_away_if_inside-any mask known.below) below in
    let all = passes_then (is_inside mask corner) (list_all (has_terms odd_orders even_orders corner) (cells_at 4 mask)) tested inside in
    sums_apart odd_orders even_orders corner (slice_index_or (cells_at 4 mask) k d)
    (AllPass-from_list_all (has_terms odd_orders even_orders corner) (cells_at 4 mask) all k d within)
