-- The point of a leaf: its scalar by its weight, and the value of a contour's form there.
use Rattle.std.proofs.Common.{◌≡◌, ℕ, zero, suc, negsuc, get_or, true≢false, ◌+◌, ◌-◌, ◌*◌, ◌/◌, ◌%◌, ◌^◌, ◌<◌, ◌≤◌, Bool, true, false, ℤ, pos, List, length, slice_index_or, refl, sym, ap, subst, ◌∙◌, arith}
use Rattle.std.specs.Prelude.{◌-ℤ◌, ◌*ℤ◌, ◌<ℤ◌, ◌≤ℤ◌, unsigned_abs, int_div, FitsSigned, int_le}
use Rattle.std.specs.Int.{w64}
use Rattle.std.specs.List.{list_all}
use Rattle.std.proofs.Math.Nat.{div-le_self, mul-le-mul, pow-le-pow_right}
use Rattle.std.proofs.lemmas.Bool.{ltb-true}
use Rattle.std.proofs.lemmas.List.Folds.{list_all_at}
use Rattle.std.proofs.Math.IntN.{*ℤ_comm}
use Rattle.std.proofs.lemmas.Int.{ints, unsigned_abs-mul}
use borrow.Author.Differences.{le-true, le-false, true_is_le, false_is_le}
use Rattle.viz_extent.specs.Extent.{Bounds, Has, size_x, size_y, count_of}
use Rattle.viz_extent.specs.Numbering.{index_at}
use Rattle.viz_extent.proofs.NumberingLemmas.{parts-of_index, index_at-by_rows, number-of_parts}
use Rattle.viz_fraction.specs.Points.{Point, numbers, reduced, divisor_of}
use Rattle.viz_fraction.specs.Forms.{contour_form, value_of, IsNarrowValue}
use Rattle.viz_fraction.proofs.IntegersLemmas.{abs-div, cancel, mul_left_comm, mul--ℤ}
use Rattle.viz_fraction.proofs.PointsLemmas.{reduced_same_place, reduced_positive}
use Rattle.viz_column.specs.declared.kind.Kind8.{Kind8}
use Rattle.viz_column.specs.declared.kind.Kind8.TheVariants.{I8, U8, I16, U16, I32, U32, I64, U64}
use Rattle.viz_column.specs.Kinds.{fits, fits_signed, fits_unsigned}
use Rattle.viz_dataset.specs.Images.{ImageData, IsImage, billion, point_at}
use Rattle.viz_grid_section.proofs.MembersLemmas.{get_or-map_of}
use Rattle.viz_meaning.specs.Tetrahedra.{point_of_leaf}
use Rattle.viz_grid_section.specs.ImageSection.{insides}

-- a place by its leaf's quotients
place_parts : (b : Bounds) (i j k leaf : ℕ) → Has b i j k → index_at b i j k ≡ leaf
    → (i ≡ b.x0 + leaf % size_x b) × (j ≡ b.y0 + leaf / size_x b % size_y b) × (k ≡ b.z0 + leaf / size_x b / size_y b)
place_parts b i j k leaf has is =
    let parts = parts-of_index b i j k leaf has is in
    (omega (arith, parts.0, has.x.at_least), omega (arith, parts.1, has.y.at_least), omega (arith, parts.2, has.z.at_least))

-- the point of a place is that of its leaf
pub point-leaf : (image : ImageData) (b : Bounds) (i j k leaf : ℕ) → b ≡ image.extent → Has b i j k → index_at b i j k ≡ leaf
    → point_at image i j k ≡ point_of_leaf image leaf
point-leaf image b i j k leaf is has number =
    let here : Has image.extent i j k = subst (λ e. Has e i j k) is has in
    let same : index_at image.extent i j k ≡ leaf = subst (λ e. index_at e i j k ≡ leaf) is number in
    let parts = place_parts image.extent i j k leaf here same in
    ap (λ n. point_at image n j k) parts.0
    ∙ ap (λ n. point_at image (image.extent.x0 + leaf % size_x image.extent) n k) parts.1
    ∙ ap (λ n. point_at image (image.extent.x0 + leaf % size_x image.extent) (image.extent.y0 + leaf / size_x image.extent % size_y image.extent) n) parts.2

-- the indices of a leaf are those of its number
index-leaf : (b : Bounds) (leaf : ℕ)
    → index_at b (b.x0 + leaf % size_x b) (b.y0 + leaf / size_x b % size_y b) (b.z0 + leaf / size_x b / size_y b) ≡ leaf
index-leaf b leaf =
    let i = leaf % size_x b in
    let j = leaf / size_x b % size_y b in
    let k = leaf / size_x b / size_y b in
    index_at-by_rows b (b.x0 + i) (b.y0 + j) (b.z0 + k)
    ∙ ap (λ n. (n * size_y b + (b.y0 + j - b.y0)) * size_x b + (b.x0 + i - b.x0)) (back b.z0 k)
    ∙ ap (λ n. (k * size_y b + n) * size_x b + (b.x0 + i - b.x0)) (back b.y0 j)
    ∙ ap (λ n. (k * size_y b + j) * size_x b + n) (back b.x0 i)
    ∙ number-of_parts leaf (size_x b) (size_y b)
  where
    back : (m n : ℕ) → m + n - m ≡ n
    back m n = omega arith

-- ---- the five numbers

pub turned : (a b c : ℤ) → a *ℤ c *ℤ b ≡ a *ℤ b *ℤ c
turned a b c =
    *ℤ_comm (a *ℤ c) b ∙ mul_left_comm b a c ∙ ap (λ n. a *ℤ n) (*ℤ_comm b c)
    ∙ sym (mul_left_comm c a b) ∙ *ℤ_comm c (a *ℤ b)

-- a scalar in billionths over a weight in billionths
scalar_of : (s v w : ℤ) → s *ℤ billion ≡ v *ℤ billion *ℤ w → s ≡ v *ℤ w
scalar_of s v w same = cancel s (v *ℤ w) (10 ^ 9) (omega arith) (same ∙ turned v w billion)

-- the number of a leaf
abbrev pub number_of : ImageData → ℕ → ℤ
number_of image leaf = slice_index_or image.values.items leaf (pos 0)

-- the scalar is the number there times the weight
pub scalar-leaf : (image : ImageData) (leaf : ℕ) → (point_of_leaf image leaf).s ≡ number_of image leaf *ℤ (point_of_leaf image leaf).w
scalar-leaf image leaf =
    let p = point_of_leaf image leaf in
    let v = slice_index_or image.values.items (index_at image.extent _ _ _) (pos 0) in
    scalar_of p.s v p.w (reduced_same_place (numbers _ _ _ (v *ℤ billion) billion)).s
    ∙ ap (λ n. number_of image n *ℤ p.w) (index-leaf image.extent leaf)

-- the weight is positive
pub weight_above : (image : ImageData) (leaf : ℕ) → pos 0 <ℤ (point_of_leaf image leaf).w
weight_above image leaf = reduced_positive (numbers _ _ _ _ billion) (omega (arith, ints))

-- the weight of billionths in lowest terms is at most a billion
weight_of : (p : Point) → p.w ≡ billion → unsigned_abs (reduced p).w ≤ 10 ^ 9
weight_of p is =
    let d = divisor_of p in
    let smaller : unsigned_abs (int_div p.w (pos d)) ≤ unsigned_abs p.w = rw (abs-div p.w d) (div-le_self (unsigned_abs p.w) d) in
    omega (arith, smaller, ap unsigned_abs is)

-- the weight is at most a billion
weight_most : (image : ImageData) (leaf : ℕ) → unsigned_abs (point_of_leaf image leaf).w ≤ 10 ^ 9
weight_most image leaf = weight_of (numbers _ _ _ _ billion) refl

-- ---- how far from 0

-- a number that passes a test of all
passes_at : (p : ℤ → Bool) (ns : List ℤ) (i : ℕ) (d : ℤ) → list_all p ns ≡ true → i < length ns → p (get_or ns i d) ≡ true
passes_at p ns i d all within = cases (p (get_or ns i d)) refl
  where
    cases : (b : Bool) → p (get_or ns i d) ≡ b → p (get_or ns i d) ≡ true
    cases true is = is
    cases false is = absurd (true≢false (sym all ∙ list_all_at p ns i d within is))

signed_small : (bits : ℕ) (n : ℤ) → bits ≤ 64 → fits_signed bits n ≡ true → unsigned_abs n ≤ 2 ^ 64
signed_small bits (pos n) few is =
    let below : n < 2 ^ bits = ltb-true n (2 ^ bits) is in
    let most : 2 ^ bits ≤ 2 ^ 64 = pow-le-pow_right (omega arith) few in
    omega (arith, ints, below, most)
signed_small bits (negsuc n) few is =
    let below : n < 2 ^ bits = ltb-true n (2 ^ bits) is in
    let most : 2 ^ bits ≤ 2 ^ 64 = pow-le-pow_right (omega arith) few in
    omega (arith, ints, below, most)

unsigned_small : (bits : ℕ) (n : ℤ) → bits ≤ 64 → fits_unsigned bits n ≡ true → unsigned_abs n ≤ 2 ^ 64
unsigned_small bits (pos n) few is =
    let below : n < 2 ^ bits = ltb-true n (2 ^ bits) is in
    let most : 2 ^ bits ≤ 2 ^ 64 = pow-le-pow_right (omega arith) few in
    omega (arith, ints, below, most)
unsigned_small bits (negsuc n) few is = absurd (true≢false (sym is))

-- a number in a range of one of the eight types is within 64 bits and a sign
fits_small : (kind : Kind8) (n : ℤ) → fits kind n ≡ true → unsigned_abs n ≤ 2 ^ 64
fits_small I8 n is = signed_small 7 n (omega arith) is
fits_small U8 n is = unsigned_small 8 n (omega arith) is
fits_small I16 n is = signed_small 15 n (omega arith) is
fits_small U16 n is = unsigned_small 16 n (omega arith) is
fits_small I32 n is = signed_small 31 n (omega arith) is
fits_small U32 n is = unsigned_small 32 n (omega arith) is
fits_small I64 n is = signed_small 63 n (omega arith) is
fits_small U64 n is = unsigned_small 64 n (omega arith) is

-- so is each number of an image
number_small : (image : ImageData) (leaf : ℕ) → IsImage image → leaf < count_of image.extent → unsigned_abs (number_of image leaf) ≤ 2 ^ 64
number_small image leaf rule within =
    fits_small image.values.kind (number_of image leaf) (passes_at (fits image.values.kind) image.values.items leaf (pos 0) rule.range (omega (arith, rule.count)))

-- the magnitude of a product
product_small : (a b : ℤ) (m n : ℕ) → unsigned_abs a ≤ m → unsigned_abs b ≤ n → unsigned_abs (a *ℤ b) ≤ m * n
product_small a b m n le_a le_b = rw (unsigned_abs-mul a b) (mul-le-mul le_a le_b)

-- how far from 0 the scalar is
pub scalar_small : (image : ImageData) (leaf : ℕ) → IsImage image → leaf < count_of image.extent → unsigned_abs (point_of_leaf image leaf).s ≤ 2 ^ 96
scalar_small image leaf rule within =
    let w = (point_of_leaf image leaf).w in
    let product = product_small (number_of image leaf) w (2 ^ 64) (10 ^ 9) (number_small image leaf rule within) (weight_most image leaf) in
    let same : unsigned_abs (point_of_leaf image leaf).s ≡ unsigned_abs (number_of image leaf *ℤ w) = ap unsigned_abs (scalar-leaf image leaf) in
    omega (arith, product, same)

-- and the weight
pub weight_small : (image : ImageData) (leaf : ℕ) → unsigned_abs (point_of_leaf image leaf).w ≤ 2 ^ 32
weight_small image leaf = omega (arith, weight_most image leaf)

-- ---- the form's value

-- the form's value is the scalar without the level times the weight
pub value-contour : (level x y z s w : ℤ) → value_of (contour_form level) (numbers x y z s w) ≡ s -ℤ level *ℤ w
value-contour level x y z s w = omega (arith, ints)

-- no such value is wide
pub narrow_value : (level x y z s w : ℤ) → FitsSigned w64 level → unsigned_abs s ≤ 2 ^ 96 → unsigned_abs w ≤ 2 ^ 32
    → IsNarrowValue (contour_form level) (numbers x y z s w)
narrow_value level x y z s w fits_level small_s small_w =
    let small : unsigned_abs level ≤ 2 ^ 63 = omega (arith, ints) in
    let product : unsigned_abs (level *ℤ w) ≤ 2 ^ 63 * 2 ^ 32 = product_small level w (2 ^ 63) (2 ^ 32) small small_w in
    let sum : unsigned_abs (s -ℤ level *ℤ w) ≤ 2 ^ 96 + 2 ^ 63 * 2 ^ 32 = omega (arith, ints, product, small_s) in
    record {
      a = omega (arith, ints);
      b = omega (arith, ints);
      c = omega (arith, ints);
      q = omega (arith, ints);
      r = omega (arith, product);
      sum = rw (value-contour level x y z s w) (omega (arith, sum));
    }

-- a number above 0 times a weight above 0, and one below 0
times_above : (d w : ℤ) → pos 0 ≤ℤ d → pos 0 <ℤ w → pos 0 ≤ℤ (d *ℤ w)
times_above (pos m) (pos n) at_least above = omega (arith, ints)
times_above (negsuc m) w at_least above = absurd (omega (arith, ints))
times_above (pos m) (negsuc n) at_least above = absurd (omega (arith, ints))

times_below : (d w : ℤ) → d <ℤ pos 0 → pos 0 <ℤ w → (d *ℤ w) <ℤ pos 0
times_below (negsuc m) (pos (suc n)) below above = omega (arith, ints)
times_below (negsuc m) (pos zero) below above = absurd (omega (arith, ints))
times_below (pos m) w below above = absurd (omega (arith, ints))
times_below (negsuc m) (negsuc n) below above = absurd (omega (arith, ints))

apart_times : (level v w : ℤ) → v *ℤ w -ℤ level *ℤ w ≡ (v -ℤ level) *ℤ w
apart_times level v w =
    ap (λ n. n -ℤ level *ℤ w) (*ℤ_comm v w) ∙ ap (λ n. w *ℤ v -ℤ n) (*ℤ_comm level w)
    ∙ sym (mul--ℤ w v level) ∙ *ℤ_comm w (v -ℤ level)

-- a number is at least the level just where the form's value is at least 0
sign : (level v w s : ℤ) → pos 0 <ℤ w → s ≡ v *ℤ w → int_le (pos 0) (s -ℤ level *ℤ w) ≡ int_le level v
sign level v w s above is = cases (int_le level v) refl
  where
    same : s -ℤ level *ℤ w ≡ (v -ℤ level) *ℤ w
    same = ap (λ n. n -ℤ level *ℤ w) is ∙ apart_times level v w

    cases : (b : Bool) → int_le level v ≡ b → int_le (pos 0) (s -ℤ level *ℤ w) ≡ int_le level v
    cases true holds =
        let high = times_above (v -ℤ level) w (omega (arith, ints, le-true level v holds)) above in
        let above_0 : pos 0 ≤ℤ (s -ℤ level *ℤ w) = subst (λ n. pos 0 ≤ℤ n) (sym same) high in
        sym (true_is_le (pos 0) (s -ℤ level *ℤ w) (omega (arith, ints, above_0))) ∙ sym holds
    cases false fails =
        let low = times_below (v -ℤ level) w (omega (arith, ints, le-false level v fails)) above in
        let below_0 : (s -ℤ level *ℤ w) <ℤ pos 0 = subst (λ n. n <ℤ pos 0) (sym same) low in
        sym (false_is_le (pos 0) (s -ℤ level *ℤ w) (omega (arith, ints, below_0))) ∙ sym fails

-- a point of the image is inside where the form's value there is at least 0
pub inside-leaf : (level : ℤ) (image : ImageData) (leaf : ℕ) → leaf < length image.values.items
    → slice_index_or (insides level image.values.items) leaf false ≡ int_le (pos 0) (value_of (contour_form level) (point_of_leaf image leaf))
inside-leaf level image leaf within =
    let p = point_of_leaf image leaf in
    get_or-map_of (λ n. int_le level n) image.values.items leaf (pos 0) false within
    ∙ sym (sign level (number_of image leaf) p.w p.s (weight_above image leaf) (scalar-leaf image leaf))
    ∙ ap (int_le (pos 0)) (sym (value-contour level p.x p.y p.z p.s p.w))

-- no value at the point of a leaf is wide
pub narrow_leaf : (level : ℤ) (image : ImageData) → FitsSigned w64 level → IsImage image → (leaf : ℕ) → leaf < count_of image.extent
    → IsNarrowValue (contour_form level) (point_of_leaf image leaf)
narrow_leaf level image fits_level rule leaf within =
    let p = point_of_leaf image leaf in
    narrow_value level p.x p.y p.z p.s p.w fits_level (scalar_small image leaf rule within) (weight_small image leaf)
