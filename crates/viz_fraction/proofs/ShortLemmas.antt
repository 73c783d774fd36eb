-- Bounds of short ends, and of what their crossings are made of.
use Rattle.std.proofs.Common.{◌≡◌, ℕ, ◌+◌, ◌*◌, ◌^◌, ◌<◌, ◌≤◌, ℤ, pos, negsuc, ap₂, refl, subst, sym, arith}
use Rattle.std.specs.Prelude.{◌+ℤ◌, ◌*ℤ◌, ◌≤ℤ◌, ◌<ℤ◌, unsigned_abs, FitsSigned}
use Rattle.std.specs.Int.{w32, w64}
use Rattle.std.proofs.Math.Nat.{mul-le-mul_left, le-mul_of_pos_right, one-dvd}
use Rattle.std.proofs.lemmas.Int.{ints, unsigned_abs-mul, fits_signed_from_abs}
use Rattle.std.proofs.lemmas.Nat.Gcd.{dvd_antisymm, le_of_dvd}
use Prim.Native.Nat.{◌∣◌}
use Rattle.viz_fraction.specs.Points.{Point, IsNarrow, IsNarrowPoint, IsPoint, numbers, divisor_of}
use Rattle.viz_fraction.specs.Numbers.{point_of}
use Rattle.viz_fraction.specs.Small.{IsSmall}
use Rattle.viz_fraction.specs.Short.{IsShort, IsShortCrossing}
use Rattle.viz_fraction.specs.declared.crossings.Weights.{Weights}
use Rattle.viz_fraction.specs.declared.numbers.Numbers.{Numbers}
use Rattle.viz_fraction.specs.Mixes.{IsLowestWeights, IsNarrowSum, IsNarrowMix, IsShortMix, mixed_of}
use Rattle.viz_fraction.specs.Crossings.{outside_weight, inside_weight, IsNarrowCrossing}
use Rattle.viz_fraction.proofs.IntegersLemmas.{abs-sum_le}
use Rattle.viz_fraction.proofs.PointsLemmas.{divisor_is, weight_above_0}
use Rattle.viz_fraction.proofs.CrossingsLemmas.{narrow_crossing}

-- a product with a number of 32 bits
pub abs-product_le : (m z : ℤ) → FitsSigned w32 z → unsigned_abs (m *ℤ z) ≤ unsigned_abs m * 2 ^ 31
abs-product_le m z fits =
    let size : unsigned_abs z ≤ 2 ^ 31 = omega (arith, ints) in
    let most : unsigned_abs m * unsigned_abs z ≤ unsigned_abs m * 2 ^ 31 = mul-le-mul_left (unsigned_abs m) size in
    rw (unsigned_abs-mul m z) most

-- two products whose weights together fit 32 bits
pub abs-mix_lt : (m n a b : ℤ) → unsigned_abs m + unsigned_abs n < 2 ^ 32 → FitsSigned w32 a → FitsSigned w32 b
    → unsigned_abs (m *ℤ b +ℤ n *ℤ a) < 2 ^ 63
abs-mix_lt m n a b near fits_a fits_b =
    let one = abs-product_le m b fits_b in
    let other = abs-product_le n a fits_a in
    let both = abs-sum_le (m *ℤ b) (n *ℤ a) in
    omega (arith, one, other, both, near)

pub mix_fits : (m n a b : ℤ) → unsigned_abs m + unsigned_abs n < 2 ^ 32 → FitsSigned w32 a → FitsSigned w32 b
    → FitsSigned w64 (m *ℤ b +ℤ n *ℤ a)
mix_fits m n a b near fits_a fits_b = fits_signed_from_abs w64 (m *ℤ b +ℤ n *ℤ a) (abs-mix_lt m n a b near fits_a fits_b)

pub product_fits : (m z : ℤ) → unsigned_abs m < 2 ^ 32 → FitsSigned w32 z → FitsSigned w64 (m *ℤ z)
product_fits m z less fits =
    let most = abs-product_le m z fits in
    let below : unsigned_abs (m *ℤ z) < 2 ^ 63 = omega (arith, most, less) in
    fits_signed_from_abs w64 (m *ℤ z) below

-- small numbers aren't wide
pub small_is_narrow : (p : Point) → IsSmall p → IsNarrowPoint p
small_is_narrow p small =
    record {
      x = narrow p.x small.x;
      y = narrow p.y small.y;
      z = narrow p.z small.z;
      s = narrow p.s small.s;
      w = narrow p.w small.w;
    }
  where
    narrow : (z : ℤ) → FitsSigned w64 z → IsNarrow z
    narrow z fits = omega (arith, ints)

narrow_sum : (m n a b : ℤ) → unsigned_abs m + unsigned_abs n < 2 ^ 32 → FitsSigned w32 a → FitsSigned w32 b → IsNarrowSum (m *ℤ b) (n *ℤ a)
narrow_sum m n a b near fits_a fits_b =
    let one = abs-product_le m b fits_b in
    let other = abs-product_le n a fits_a in
    let both = abs-mix_lt m n a b near fits_a fits_b in
    record {
      first = omega (arith, one, near);
      second = omega (arith, other, near);
      sum = omega (arith, both);
    }

-- nothing in the weighted sum of short ends is wide
pub short_is_narrow : (k : Weights) (a b : Numbers) → IsShortMix k a b → IsNarrowMix k a b
short_is_narrow k a b h =
    record {
      x = narrow_sum k.outside k.inside a.x b.x h.weights h.inside.x h.outside.x;
      y = narrow_sum k.outside k.inside a.y b.y h.weights h.inside.y h.outside.y;
      z = narrow_sum k.outside k.inside a.z b.z h.weights h.inside.z h.outside.z;
      s = narrow_sum k.outside k.inside a.s b.s h.weights h.inside.s h.outside.s;
      w = narrow_sum k.outside k.inside a.w b.w h.weights h.inside.w h.outside.w;
    }

-- a weighted sum of positive numbers, whose second weight is positive
positive_mix : (m n a b : ℤ) → pos 0 ≤ℤ m → pos 0 <ℤ n → pos 0 <ℤ a → pos 0 <ℤ b → pos 0 <ℤ (m *ℤ b +ℤ n *ℤ a)
positive_mix (pos m) (pos n) (pos a) (pos b) hm hn ha hb =
    let some : 0 < a = omega (arith, ints) in
    let least : n ≤ n * a = le-mul_of_pos_right n some in
    omega (arith, ints, least)
positive_mix (negsuc m) n a b hm hn ha hb = absurd (omega (arith, ints))
positive_mix (pos m) (negsuc n) a b hm hn ha hb = absurd (omega (arith, ints))
positive_mix (pos m) (pos n) (negsuc a) b hm hn ha hb = absurd (omega (arith, ints))
positive_mix (pos m) (pos n) (pos a) (negsuc b) hm hn ha hb = absurd (omega (arith, ints))

-- the weight of a crossing is positive
pub mixed_positive : (k : Weights) (a b n : Numbers) → IsLowestWeights k → n ≡ mixed_of k a b → pos 0 <ℤ a.w → pos 0 <ℤ b.w → pos 0 <ℤ n.w
mixed_positive k a b n lowest mixed positive_a positive_b =
    let P : Numbers → Type 0 = λ m. pos 0 <ℤ m.w in
    subst P (sym mixed) (positive_mix k.outside k.inside a.w b.w lowest.outside lowest.inside positive_a positive_b)

-- the code's weights and ends are short where the crossing's are
pub short_crossing : (k : Weights) (na nb : Numbers) (la : ℤ) (a : Point) (lb : ℤ) (b : Point)
    → k.outside ≡ pos (outside_weight la lb) → k.inside ≡ pos (inside_weight la lb) → point_of na ≡ a → point_of nb ≡ b
    → (IsShortMix k na nb → IsShortCrossing la a lb b) × (IsShortCrossing la a lb b → IsShortMix k na nb)
short_crossing k na nb la a lb b outside inside is_a is_b =
    let both : unsigned_abs k.outside + unsigned_abs k.inside ≡ outside_weight la lb + inside_weight la lb =
    ap₂ (λ m n. unsigned_abs m + unsigned_abs n) outside inside in
    let B : ℕ → Type 0 = λ n. n < 2 ^ 32 in (
      λ h. record { weights = subst B both h.weights; inside = subst IsShort is_a h.inside; outside = subst IsShort is_b h.outside },
      λ h. record { weights = subst B (sym both) h.weights; inside = subst IsShort (sym is_a) h.inside; outside = subst IsShort (sym is_b) h.outside },
    )

-- nothing in a short crossing is wide
pub short_crossing_is_narrow : (la : ℤ) (a : Point) (lb : ℤ) (b : Point) → IsShortCrossing la a lb b → IsNarrowCrossing la a lb b
short_crossing_is_narrow la a lb b h =
    let k : Weights = record { outside = pos (outside_weight la lb); inside = pos (inside_weight la lb) } in
    let na : Numbers = record { x = a.x; y = a.y; z = a.z; s = a.s; w = a.w } in
    let nb : Numbers = record { x = b.x; y = b.y; z = b.z; s = b.s; w = b.w } in
    (narrow_crossing k na nb la a lb b refl refl refl refl).0
    (short_is_narrow k na nb (record { weights = h.weights; inside = h.inside; outside = h.outside }))

-- small numbers of weight 1 are a point
pub whole_is_point : (x y z s : ℤ) → FitsSigned w64 x → FitsSigned w64 y → FitsSigned w64 z → FitsSigned w64 s → IsPoint (numbers x y z s (pos 1))
whole_is_point x y z s fits_x fits_y fits_z fits_s =
    let p = numbers x y z s (pos 1) in
    record {
      positive = omega (arith, ints);
      lowest = dvd_antisymm (divisor_is p).common.w (one-dvd (divisor_of p));
      narrow = small_is_narrow p (record { x = fits_x; y = fits_y; z = fits_z; s = fits_s; w = omega (arith, ints) });
    }

-- small numbers whose divisor divides 1 are a point
pub lowest_is_point : (p : Point) (n : ℕ) → n ≡ 1 → pos 0 <ℤ p.w → IsSmall p → divisor_of p ∣ n → IsPoint p
lowest_is_point p n one positive small divides =
    let P : ℕ → Type 0 = λ m. divisor_of p ∣ m in
    record {
      positive = positive;
      lowest = dvd_antisymm (subst P one divides) (one-dvd (divisor_of p));
      narrow = small_is_narrow p small;
    }

-- the divisor of small numbers fits 64 bits
pub divisor_fits : (p : Point) → pos 0 <ℤ p.w → IsSmall p → divisor_of p < 2 ^ 63
divisor_fits p positive small =
    let least = le_of_dvd (weight_above_0 p.w positive) (divisor_is p).common.w in
    let word : FitsSigned w64 p.w = small.w in
    omega (arith, ints, least)
