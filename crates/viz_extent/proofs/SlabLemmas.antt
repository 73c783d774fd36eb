-- Shares that follow each other are all of a range, each number once.
use Rattle.std.proofs.Common.{◌≡◌, ℕ, zero, suc, ◌+◌, ◌-◌, ◌*◌, ◌/◌, ◌<◌, ◌≤◌, Bool, true, false, Some, None, List, ◌∷◌, ◌++◌, refl, sym, ap, ap₂, ◌∙◌, arith, if◌then◌else◌}
use Rattle.std.specs.Prelude.{nat_lt}
use Rattle.std.specs.List.{flat_map, range_with_len}
use Rattle.std.proofs.lemmas.Nat.{div-add-mod', div-mul-add, le-div, mul-le}
use borrow.Author.Tests.{ltb-true, ltb-false}
use Rattle.viz_extent.specs.Extent.{Bounds, size_z}
use Rattle.viz_extent.specs.Slabs.{share_begin, planes, slab_of, layer_count, layers_of, touched, planes_in, layers_in, SlabsAreAll, LayersAreAll}

-- ---- ranges

-- a range in two
pub range-split : (from n m : ℕ) → range_with_len from (n + m) ≡ range_with_len from n ++ range_with_len (from + n) m
range-split from zero m = ap (range_with_len from) {x = 0 + m} {y = m} (omega arith) ∙ ap (λ k. range_with_len k m) {x = from} {y = from + 0} (omega arith)
range-split from (suc n) m =
    ap (λ k. range_with_len from k) {x = suc n + m} {y = suc (n + m)} (omega arith)
    ∙ ap (λ r. from ∷ r) (range-split (from + 1) n m ∙ ap (λ k. range_with_len (from + 1) n ++ range_with_len k m) {x = from + 1 + n} {y = from + suc n} (omega arith))

-- numbers that rise rise over any distance
pub rise_far : (at : ℕ → ℕ) → ((p : ℕ) → at p ≤ at (p + 1)) → (a k : ℕ) → at a ≤ at (a + k)
rise_far at r a zero = omega (arith, ap at {x = a + 0} {y = a} (omega arith))
rise_far at r a (suc k) = omega (arith, rise_far at r a k, r (a + k), ap at {x = a + k + 1} {y = a + suc k} (omega arith))

-- ranges from each number to the next, in turn, are the range from the first to the last
pub ranges_follow : (f : ℕ → List ℕ) (from : ℕ) (at : ℕ → ℕ) → ((p : ℕ) → at p ≤ at (p + 1))
    → (a k : ℕ) → ((p : ℕ) → p < a + k → f p ≡ range_with_len (from + at p) (at (p + 1) - at p))
    → flat_map f (range_with_len a k) ≡ range_with_len (from + at a) (at (a + k) - at a)
ranges_follow f from at r a zero is = ap (range_with_len (from + at a)) {x = 0} {y = at (a + 0) - at a} (omega (arith, ap at {x = a + 0} {y = a} (omega arith)))
ranges_follow f from at r a (suc k) is =
    let same : at (a + 1 + k) ≡ at (a + suc k) = ap at {x = a + 1 + k} {y = a + suc k} (omega arith) in
    let up : at (a + 1) ≤ at (a + 1 + k) = rise_far at r (a + 1) k in
    ap₂ (λ x y. x ++ y) (is a (omega arith)) (ranges_follow f from at r (a + 1) k (λ p below. is p (omega (arith, below))))
    ∙ ap (λ s. range_with_len (from + at a) (at (a + 1) - at a) ++ range_with_len s (at (a + 1 + k) - at (a + 1))) {x = from + at (a + 1)} {y = from + at a + (at (a + 1) - at a)} (omega (arith, r a))
    ∙ sym (range-split (from + at a) (at (a + 1) - at a) (at (a + 1 + k) - at (a + 1)))
    ∙ ap (range_with_len (from + at a)) {x = at (a + 1) - at a + (at (a + 1 + k) - at (a + 1))} {y = at (a + suc k) - at a} (omega (arith, r a, up, same))

-- ---- where shares begin

-- the first share begins at 0
pub first_begins : (n count : ℕ) → 0 < n → share_begin n count 0 ≡ 0
first_begins n count p = ap (λ k. k / n) {x = 0 * count} {y = 0 * n + 0} (omega arith) ∙ div-mul-add 0 n 0 p

-- the one after the last at the count
pub last_ends : (n count : ℕ) → 0 < n → share_begin n count n ≡ count
last_ends n count p = ap (λ k. k / n) {x = n * count} {y = count * n + 0} (grind arith) ∙ div-mul-add count n 0 p

-- a later share begins no earlier
pub shares_rise : (n count q r : ℕ) → 0 < n → q ≤ r → share_begin n count q ≤ share_begin n count r
shares_rise n count q r p l =
    le-div (q * count / n) (r * count) n p (omega (arith, div-add-mod' (q * count) n, mul-le q count r count l (omega arith)))

-- a share begins within the count
pub begins_within : (n count q : ℕ) → 0 < n → q ≤ n → share_begin n count q ≤ count
begins_within n count q p l = omega (arith, shares_rise n count q n p l, last_ends n count p)

-- the ranges of all shares are the whole range
pub shares_follow : (f : ℕ → List ℕ) (from n count : ℕ) → 0 < n → ((p : ℕ) → p < n → f p ≡ range_with_len (from + share_begin n count p) (share_begin n count (p + 1) - share_begin n count p))
    → flat_map f (range_with_len 0 n) ≡ range_with_len from count
shares_follow f from n count some is =
    let at : ℕ → ℕ = share_begin n count in
    let first : at 0 ≡ 0 = first_begins n count some in
    let last : at (0 + n) ≡ count = ap at {x = 0 + n} {y = n} (omega arith) ∙ last_ends n count some in
    ranges_follow f from at (λ p. shares_rise n count p (p + 1) some (omega arith)) 0 n (λ p below. is p (omega (arith, below)))
    ∙ ap (λ s. range_with_len s (at (0 + n) - at 0)) {x = from + at 0} {y = from} (omega (arith, first))
    ∙ ap (range_with_len from) {x = at (0 + n) - at 0} {y = count} (omega (arith, first, last))

-- ---- slabs and layers

-- the planes of a slab
slab-planes : (b : Bounds) (first next : ℕ) → planes_in (if nat_lt first next then Some (planes first (next - 1) b) else None) ≡ range_with_len (b.z0 + first) (next - first)
slab-planes b first next = tested (nat_lt first next) refl
  where
    tested : (t : Bool) → nat_lt first next ≡ t → planes_in (if t then Some (planes first (next - 1) b) else None) ≡ range_with_len (b.z0 + first) (next - first)
    tested true is = let less : first < next = ltb-true first next is in ap (range_with_len (b.z0 + first)) (omega (arith, less))
    tested false is = let none : next ≤ first = ltb-false first next is in ap (range_with_len (b.z0 + first)) {x = 0} {y = next - first} (omega (arith, none))

-- the own layers of a piece
own-layers : (b : Bounds) (first next : ℕ) → next ≤ layer_count b → layers_in (if nat_lt first next then Some (touched first next 0 b) else None) ≡ range_with_len (b.z0 + first) (next - first)
own-layers b first next within = tested (nat_lt first next) refl
  where
    tested : (t : Bool) → nat_lt first next ≡ t → layers_in (if t then Some (touched first next 0 b) else None) ≡ range_with_len (b.z0 + first) (next - first)
    tested true is =
        let less : first < next = ltb-true first next is in
        ap₂ range_with_len {x = b.z0 + (first - 0)} {y = b.z0 + first} (omega arith) (omega (arith, less, within))
    tested false is = let none : next ≤ first = ltb-false first next is in ap (range_with_len (b.z0 + first)) {x = 0} {y = next - first} (omega (arith, none))

-- slabs are all planes
pub slabs_are_all : SlabsAreAll
slabs_are_all b n some = shares_follow (λ p. planes_in (slab_of p n b)) b.z0 n (size_z b) some (λ p below. slab-planes b (share_begin n (size_z b) p) (share_begin n (size_z b) (p + 1)))

-- own layers are all layers
pub layers_are_all : LayersAreAll
layers_are_all b n some =
    let count = layer_count b in
    shares_follow (λ p. layers_in (layers_of p n 0 b)) b.z0 n count some
    (λ p below. own-layers b (share_begin n count p) (share_begin n count (p + 1)) (begins_within n count (p + 1) some (omega (arith, below))))
