-- Crossings: their weights, the divisor of their numbers, and the form's value there.
use Rattle.std.proofs.Common.{◌≡◌, ℕ, zero, suc, ◌*◌, ◌/◌, ◌<◌, ℤ, pos, sym, ap, subst, ◌∙◌, arith}
use Rattle.std.specs.Prelude.{◌+ℤ◌, ◌-ℤ◌, ◌*ℤ◌, unsigned_abs}
use Rattle.std.proofs.Math.IntN.{*ℤ_comm}
use Rattle.std.proofs.Math.Nat.{eq_of_mul-eq-mul_right, pos_of_dvd_of_pos}
use Rattle.std.proofs.lemmas.Int.{ints, unsigned_abs-mul}
use Rattle.std.proofs.lemmas.Nat.{div-add-mod'}
use Rattle.std.proofs.lemmas.Nat.Gcd.{dvd-zero, mod-eq-zero_of_dvd}
use Prim.Native.Nat.{◌∣◌}
use Rattle.viz_fraction.specs.declared.crossings.Weights.{Weights}
use Rattle.viz_fraction.specs.declared.numbers.Numbers.{Numbers}
use Rattle.viz_fraction.specs.Divisors.{gcd}
use Rattle.viz_fraction.specs.Points.{Point, divisor_of}
use Rattle.viz_fraction.specs.Numbers.{point_of}
use Rattle.viz_fraction.specs.Mixes.{IsLowestWeights, IsNarrowMix, mix_of, mixed_of}
use Rattle.viz_fraction.specs.Steps.{DividesSteps}
use Rattle.viz_fraction.specs.Crossings.{outside_weight, inside_weight, unreduced_crossing, IsNarrowCrossing}
use Rattle.viz_fraction.proofs.DivisorsLemmas.{gcd_is, gcd-scaled}
use Rattle.viz_fraction.proofs.IntegersLemmas.{mul-+ℤ, mul--ℤ, divides_product, divides_difference}
use Rattle.viz_fraction.proofs.PointsLemmas.{divisor_is, factor_above_0}

-- ---- two numbers divided by their greatest common divisor

pub divisor_above : (m n : ℕ) → 0 < n → 0 < gcd m n
divisor_above m n some = pos_of_dvd_of_pos (gcd_is m n).1 some

-- a divisor times its share
pub share-whole : (d n : ℕ) → d ∣ n → n / d * d ≡ n
share-whole d n divides = omega (arith, div-add-mod' n d, mod-eq-zero_of_dvd d divides)

pub share_above : (m n : ℕ) → 0 < n → 0 < n / gcd m n
share_above m n some = factor_above_0 (n / gcd m n) (gcd m n) n some (share-whole (gcd m n) n (gcd_is m n).1)

pub shares_lowest : (m n : ℕ) → 0 < n → gcd (m / gcd m n) (n / gcd m n) ≡ 1
shares_lowest m n some =
    let d = gcd m n in
    let above = divisor_above m n some in
    let whole_m = share-whole d m (gcd_is m n).0 in
    let whole_n = share-whole d n (gcd_is m n).1 in
    let whole : gcd (m / d) (n / d) * d ≡ d =
    sym (gcd-scaled (m / d) (n / d) d above) ∙ ap (λ k. gcd k (n / d * d)) whole_m ∙ ap (λ k. gcd m k) whole_n in
    eq_of_mul-eq-mul_right d above (gcd (m / d) (n / d)) 1 (whole ∙ omega arith)

pub weights_lowest : (k : Weights) (m n : ℕ) → 0 < n → k.outside ≡ pos (m / gcd m n) → k.inside ≡ pos (n / gcd m n) → IsLowestWeights k
weights_lowest k m n some outside inside =
    let above = share_above m n some in
    record {
      outside = omega (arith, ints, outside);
      inside = omega (arith, ints, inside);
      lowest = ap (λ a. gcd (unsigned_abs a) (unsigned_abs k.inside)) outside ∙ ap (λ b. gcd (m / gcd m n) (unsigned_abs b)) inside ∙ shares_lowest m n some;
    }

-- ---- the steps between two ends of weight 1

-- what divides two multiples by numbers without a common divisor divides the number
divides_step : (a b d n : ℕ) → gcd a b ≡ 1 → d ∣ a * n → d ∣ b * n → d ∣ n
divides_step a b d zero lowest in_a in_b = dvd-zero d
divides_step a b d (suc n) lowest in_a in_b =
    let P : ℕ → Type 0 = λ k. d ∣ k in
    let whole : gcd (a * suc n) (b * suc n) ≡ suc n = gcd-scaled a b (suc n) (omega arith) ∙ ap (λ g. g * suc n) lowest ∙ omega arith in
    subst P whole ((gcd_is (a * suc n) (b * suc n)).2 d in_a in_b)

-- a multiple by the outside weight
by_outside : (m n xa xb : ℤ) → m *ℤ (xb -ℤ xa) ≡ (m *ℤ xb +ℤ n *ℤ xa) -ℤ xa *ℤ (m *ℤ pos 1 +ℤ n *ℤ pos 1)
by_outside m n xa xb =
    let one : m *ℤ pos 1 +ℤ n *ℤ pos 1 ≡ m +ℤ n = omega (arith, ints) in
    omega (arith, ints, mul--ℤ m xb xa, mul-+ℤ xa m n, *ℤ_comm xa m, *ℤ_comm xa n, ap (λ k. xa *ℤ k) one)

-- a multiple by the inside weight
by_inside : (m n xa xb : ℤ) → n *ℤ (xb -ℤ xa) ≡ xb *ℤ (m *ℤ pos 1 +ℤ n *ℤ pos 1) -ℤ (m *ℤ xb +ℤ n *ℤ xa)
by_inside m n xa xb =
    let one : m *ℤ pos 1 +ℤ n *ℤ pos 1 ≡ m +ℤ n = omega (arith, ints) in
    omega (arith, ints, mul--ℤ n xb xa, mul-+ℤ xb m n, *ℤ_comm xb m, *ℤ_comm xb n, ap (λ k. xb *ℤ k) one)

step_divided : (k : Weights) (d : ℕ) (xa xb : ℤ) → IsLowestWeights k
    → d ∣ unsigned_abs (mix_of k xa xb) → d ∣ unsigned_abs (mix_of k (pos 1) (pos 1)) → d ∣ unsigned_abs (xb -ℤ xa)
step_divided k d xa xb lowest in_x in_w =
    let m = k.outside in
    let n = k.inside in
    let P : ℤ → Type 0 = λ z. d ∣ unsigned_abs z in
    let Q : ℕ → Type 0 = λ z. d ∣ z in
    let mix = mix_of k xa xb in
    let one = mix_of k (pos 1) (pos 1) in
    let out : d ∣ unsigned_abs (m *ℤ (xb -ℤ xa)) =
    subst P (sym (by_outside m n xa xb)) (divides_difference d mix (xa *ℤ one) in_x (divides_product d xa one in_w)) in
    let inside : d ∣ unsigned_abs (n *ℤ (xb -ℤ xa)) =
    subst P (sym (by_inside m n xa xb)) (divides_difference d (xb *ℤ one) mix (divides_product d xb one in_w) in_x) in
    divides_step (unsigned_abs m) (unsigned_abs n) d (unsigned_abs (xb -ℤ xa)) lowest.lowest
    (subst Q (unsigned_abs-mul m (xb -ℤ xa)) out)
    (subst Q (unsigned_abs-mul n (xb -ℤ xa)) inside)

-- the divisor of a crossing's numbers divides the steps between ends of weight 1
pub divides_steps : (k : Weights) (a b n : Numbers) → IsLowestWeights k → n ≡ mixed_of k a b → a.w ≡ pos 1 → b.w ≡ pos 1
    → DividesSteps (divisor_of (point_of n)) (point_of a) (point_of b)
divides_steps k a b n lowest mixed one_a one_b =
    let d = divisor_of (point_of n) in
    let common = (divisor_is (point_of n)).common in
    let P : ℤ → Type 0 = λ z. d ∣ unsigned_abs z in
    let in_w : d ∣ unsigned_abs (mix_of k (pos 1) (pos 1)) =
    subst P (ap (λ m. m.w) mixed ∙ ap (λ w. mix_of k w b.w) one_a ∙ ap (λ w. mix_of k (pos 1) w) one_b) common.w in
    record {
      x = step_divided k d a.x b.x lowest (subst P (ap (λ m. m.x) mixed) common.x) in_w;
      y = step_divided k d a.y b.y lowest (subst P (ap (λ m. m.y) mixed) common.y) in_w;
      z = step_divided k d a.z b.z lowest (subst P (ap (λ m. m.z) mixed) common.z) in_w;
    }

-- ---- the code's numbers are the crossing's

pub weights_are : (k : Weights) (m n : ℕ) → k.outside ≡ pos m → k.inside ≡ pos n → k ≡ record { outside = pos m; inside = pos n }
weights_are k m n outside inside = ap (λ z. record k { outside = z }) outside ∙ ap (λ z. record { outside = pos m; inside = z }) inside

-- the code's weighted sums are the crossing's numbers
pub mixed-unreduced : (k : Weights) (na nb : Numbers) (la : ℤ) (a : Point) (lb : ℤ) (b : Point)
    → k.outside ≡ pos (outside_weight la lb) → k.inside ≡ pos (inside_weight la lb) → point_of na ≡ a → point_of nb ≡ b
    → point_of (mixed_of k na nb) ≡ unreduced_crossing la a lb b
mixed-unreduced k na nb la a lb b outside inside is_a is_b =
    let weights = weights_are k (outside_weight la lb) (inside_weight la lb) outside inside in
    ap (λ h. point_of (mixed_of h na nb)) weights ∙ ap (λ p. unreduced_crossing la p lb (point_of nb)) is_a ∙ ap (λ p. unreduced_crossing la a lb p) is_b

-- the code's sums are narrow where the crossing's are
narrow_out : (na nb : Numbers) (la lb : ℤ)
    → IsNarrowMix (record { outside = pos (outside_weight la lb); inside = pos (inside_weight la lb) }) na nb
    → IsNarrowCrossing la (point_of na) lb (point_of nb)
narrow_out na nb la lb h =
    record {
      outside = record { x = h.x.first; y = h.y.first; z = h.z.first; s = h.s.first; w = h.w.first };
      inside = record { x = h.x.second; y = h.y.second; z = h.z.second; s = h.s.second; w = h.w.second };
      sum = record { x = h.x.sum; y = h.y.sum; z = h.z.sum; s = h.s.sum; w = h.w.sum };
    }

narrow_in : (na nb : Numbers) (la lb : ℤ)
    → IsNarrowCrossing la (point_of na) lb (point_of nb)
    → IsNarrowMix (record { outside = pos (outside_weight la lb); inside = pos (inside_weight la lb) }) na nb
narrow_in na nb la lb h =
    record {
      x = record { first = h.outside.x; second = h.inside.x; sum = h.sum.x };
      y = record { first = h.outside.y; second = h.inside.y; sum = h.sum.y };
      z = record { first = h.outside.z; second = h.inside.z; sum = h.sum.z };
      s = record { first = h.outside.s; second = h.inside.s; sum = h.sum.s };
      w = record { first = h.outside.w; second = h.inside.w; sum = h.sum.w };
    }

pub narrow_crossing : (k : Weights) (na nb : Numbers) (la : ℤ) (a : Point) (lb : ℤ) (b : Point)
    → k.outside ≡ pos (outside_weight la lb) → k.inside ≡ pos (inside_weight la lb) → point_of na ≡ a → point_of nb ≡ b
    → (IsNarrowMix k na nb → IsNarrowCrossing la a lb b) × (IsNarrowCrossing la a lb b → IsNarrowMix k na nb)
narrow_crossing k na nb la a lb b outside inside is_a is_b =
    let weights = weights_are k (outside_weight la lb) (inside_weight la lb) outside inside in
    let A : Point → Type 0 = λ p. IsNarrowCrossing la p lb b in
    let B : Point → Type 0 = λ p. IsNarrowCrossing la (point_of na) lb p in
    let K : Weights → Type 0 = λ h. IsNarrowMix h na nb in (
      λ h. subst A is_a (subst B is_b (narrow_out na nb la lb (subst K weights h))),
      λ h. subst K (sym weights) (narrow_in na nb la lb (subst B (sym is_b) (subst A (sym is_a) h))),
    )
