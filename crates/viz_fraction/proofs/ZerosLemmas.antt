-- The value of a form at a crossing, and the crossing at the inside end.
use Rattle.std.proofs.Common.{◌≡◌, ℕ, ◌*◌, ◌/◌, ◌<◌, ℤ, pos, sym, ap, ◌∙◌, true, false, arith}
use Rattle.std.specs.Prelude.{◌+ℤ◌, ◌-ℤ◌, ◌*ℤ◌, ◌≤ℤ◌, ◌<ℤ◌, neg_ℤ, unsigned_abs, int_le, if◌then◌else◌}
use Rattle.std.proofs.Math.Nat.{div-eq_of_eq-mul_left}
use Rattle.std.proofs.Math.IntN.{*ℤ_comm}
use Rattle.std.proofs.lemmas.Int.{ints}
use borrow.Author.Differences.{true_is_le, false_is_le}
use Rattle.viz_fraction.specs.declared.forms.Form.{Form}
use Rattle.viz_fraction.specs.Divisors.{gcd}
use Rattle.viz_fraction.specs.Points.{Point, IsPoint, divisor_of, scaled, added, reduced}
use Rattle.viz_fraction.specs.Forms.{value_of, IsInside}
use Rattle.viz_fraction.specs.Crossings.{outside_weight, inside_weight, unreduced_crossing, crossing_of, edge_crossing, IsBetween}
use Rattle.viz_fraction.proofs.DivisorsLemmas.{gcd_is, gcd-zero}
use Rattle.viz_fraction.proofs.IntegersLemmas.{mul-+ℤ, mul--ℤ, mul-neg, mul_left_comm, cancel}
use Rattle.viz_fraction.proofs.PointsLemmas.{divisor_above_0, scaled-reduced, reduced-lowest, same_point}
use Rattle.viz_fraction.proofs.CrossingsLemmas.{share-whole, share_above}

-- ---- a form is linear

value-added : (f : Form) (p q : Point) → value_of f (added p q) ≡ value_of f p +ℤ value_of f q
value-added f p q =
    omega (arith, ints, mul-+ℤ f.a p.x q.x, mul-+ℤ f.b p.y q.y, mul-+ℤ f.c p.z q.z, mul-+ℤ f.q p.s q.s, mul-+ℤ f.r p.w q.w)

-- a factor of five terms
factored : (k a b c d e : ℤ) → k *ℤ (a +ℤ b +ℤ c +ℤ d -ℤ e) ≡ k *ℤ a +ℤ k *ℤ b +ℤ k *ℤ c +ℤ k *ℤ d -ℤ k *ℤ e
factored k a b c d e =
    omega (arith, ints, mul--ℤ k (a +ℤ b +ℤ c +ℤ d) e, mul-+ℤ k (a +ℤ b +ℤ c) d, mul-+ℤ k (a +ℤ b) c, mul-+ℤ k a b)

value-scaled : (f : Form) (k : ℕ) (p : Point) → value_of f (scaled k p) ≡ pos k *ℤ value_of f p
value-scaled f k p =
    let m = pos k in
    let all = factored m (f.a *ℤ p.x) (f.b *ℤ p.y) (f.c *ℤ p.z) (f.q *ℤ p.s) (f.r *ℤ p.w) in
    omega (arith, ints, all, mul_left_comm f.a m p.x, mul_left_comm f.b m p.y, mul_left_comm f.c m p.z, mul_left_comm f.q m p.s, mul_left_comm f.r m p.w)

-- ---- the value at a crossing

-- the weights are chosen so that both terms cancel
weights_cancel : (la lb : ℤ) → pos 0 ≤ℤ la → lb <ℤ pos 0
    → pos (outside_weight la lb) *ℤ lb +ℤ pos (inside_weight la lb) *ℤ la ≡ pos 0
weights_cancel la lb inside outside =
    let m = unsigned_abs la in
    let n = unsigned_abs lb in
    let d = gcd m n in
    let a = outside_weight la lb in
    let b = inside_weight la lb in
    let la_is : la ≡ pos (a * d) = omega (arith, ints, share-whole d m (gcd_is m n).0) in
    let lb_is : lb ≡ neg_ℤ (pos (b * d)) = omega (arith, ints, share-whole d n (gcd_is m n).1) in
    let first : pos a *ℤ lb ≡ neg_ℤ (pos (a * (b * d))) = ap (λ z. pos a *ℤ z) lb_is ∙ mul-neg (pos a) (pos (b * d)) in
    let second : pos b *ℤ la ≡ pos (b * (a * d)) = ap (λ z. pos b *ℤ z) la_is in
    omega (arith, ints, first, second)

unreduced_zero : (f : Form) (a b : Point) → IsInside f a → value_of f b <ℤ pos 0
    → value_of f (unreduced_crossing (value_of f a) a (value_of f b) b) ≡ pos 0
unreduced_zero f a b inside outside =
    let la = value_of f a in
    let lb = value_of f b in
    let m = outside_weight la lb in
    let n = inside_weight la lb in
    value-added f (scaled m b) (scaled n a)
    ∙ ap (λ z. z +ℤ value_of f (scaled n a)) (value-scaled f m b)
    ∙ ap (λ z. pos m *ℤ lb +ℤ z) (value-scaled f n a)
    ∙ weights_cancel la lb inside outside

-- the weight of a crossing is positive
pub unreduced_positive : (la lb : ℤ) (a b : Point) → lb <ℤ pos 0 → pos 0 <ℤ a.w → pos 0 <ℤ b.w
    → pos 0 <ℤ (unreduced_crossing la a lb b).w
unreduced_positive la lb a b outside some_a some_b =
    let n = inside_weight la lb in
    let above : 0 < n = share_above (unsigned_abs la) (unsigned_abs lb) (omega (arith, ints)) in
    grind (arith, ints)

pub crossing_zero : (f : Form) (a b : Point) → pos 0 <ℤ a.w → pos 0 <ℤ b.w → IsInside f a → value_of f b <ℤ pos 0
    → value_of f (crossing_of (value_of f a) a (value_of f b) b) ≡ pos 0
crossing_zero f a b some_a some_b inside outside =
    let la = value_of f a in
    let lb = value_of f b in
    let u = unreduced_crossing la a lb b in
    let d = divisor_of u in
    let above = divisor_above_0 u (unreduced_positive la lb a b outside some_a some_b) in
    let whole : pos d *ℤ value_of f (reduced u) ≡ pos 0 =
    sym (value-scaled f d (reduced u)) ∙ ap (value_of f) (scaled-reduced u) ∙ unreduced_zero f a b inside outside in
    cancel (value_of f (reduced u)) (pos 0) d above (*ℤ_comm (value_of f (reduced u)) (pos d) ∙ whole ∙ omega (arith, ints))

-- a crossing is a weighted mean of its ends
pub crossing_between : (la lb : ℤ) (a b : Point) → pos 0 ≤ℤ la → lb <ℤ pos 0 → pos 0 <ℤ a.w → pos 0 <ℤ b.w
    → IsBetween a b (crossing_of la a lb b)
crossing_between la lb a b inside outside some_a some_b =
    let u = unreduced_crossing la a lb b in
    record {
      weight_a = inside_weight la lb;
      weight_b = outside_weight la lb;
      scale = divisor_of u;
      has_a = share_above (unsigned_abs la) (unsigned_abs lb) (omega (arith, ints));
      has_scale = divisor_above_0 u (unreduced_positive la lb a b outside some_a some_b);
      mean = scaled-reduced u;
    }

-- ---- the inside end

pub crossing_at_inside : (lb : ℤ) (a b : Point) → IsPoint a → lb <ℤ pos 0 → crossing_of (pos 0) a lb b ≡ a
crossing_at_inside lb a b point outside =
    let n = unsigned_abs lb in
    let some : 0 < n = omega (arith, ints) in
    let divisor : gcd 0 n ≡ n = sym (gcd-zero n) in
    let none : 0 / gcd 0 n ≡ 0 = ap (λ d. 0 / d) divisor ∙ div-eq_of_eq-mul_left some (omega arith) in
    let one : n / gcd 0 n ≡ 1 = ap (λ d. n / d) divisor ∙ div-eq_of_eq-mul_left some (omega arith) in
    let same : added (scaled 0 b) (scaled 1 a) ≡ a = same_point _ _ (omega (arith, ints)) (omega (arith, ints)) (omega (arith, ints)) (omega (arith, ints)) (omega (arith, ints)) in
    let weights : unreduced_crossing (pos 0) a lb b ≡ a =
    ap (λ k. added (scaled k b) (scaled (n / gcd 0 n) a)) none ∙ ap (λ k. added (scaled 0 b) (scaled k a)) one ∙ same in
    ap reduced weights ∙ reduced-lowest a point.lowest

-- ---- an edge

pub edge_crossing-turned : (f : Form) (p q : Point) → IsInside f p → value_of f q <ℤ pos 0 → edge_crossing f p q ≡ edge_crossing f q p
edge_crossing-turned f p q inside outside =
    let here = crossing_of (value_of f p) p (value_of f q) q in
    let there = crossing_of (value_of f q) q (value_of f p) p in
    let yes : true ≡ int_le (pos 0) (value_of f p) = true_is_le (pos 0) (value_of f p) (omega (arith, ints)) in
    let no : false ≡ int_le (pos 0) (value_of f q) = false_is_le (pos 0) (value_of f q) (omega (arith, ints)) in
    sym (ap (λ b. if b then here else there) yes) ∙ ap (λ b. if b then there else here) no
