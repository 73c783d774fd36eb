-- Five numbers, their greatest common divisor and their lowest terms.
use Rattle.std.proofs.Common.{◌≡◌, ℕ, zero, suc, ◌*◌, ◌/◌, ◌^◌, ◌<◌, ◌≤◌, ℤ, pos, negsuc, refl, sym, ap, subst, ◌∙◌, arith}
use Rattle.std.specs.Prelude.{◌*ℤ◌, ◌<ℤ◌, unsigned_abs, int_div}
use Rattle.std.proofs.Math.Nat.{eq_of_mul-eq-mul_right, pos_of_dvd_of_pos, div-le_self, le-mul_of_pos_right}
use Rattle.std.proofs.Math.IntN.{*ℤ_comm}
use Rattle.std.proofs.lemmas.Int.{ints}
use Rattle.std.proofs.lemmas.Nat.{div-add-mod'}
use Rattle.std.proofs.lemmas.Nat.Gcd.{dvd_trans, dvd_antisymm, le_of_dvd, mod-eq-zero_of_dvd}
use Prim.Native.Nat.{◌∣◌}
use Rattle.viz_fraction.specs.Divisors.{gcd}
use Rattle.viz_fraction.specs.Points.{Point, IsNarrow, IsNarrowPoint, IsPoint, IsSamePlace, DividesEach, IsDivisorOf, divisor_of, scaled, divided, reduced}
use Rattle.viz_fraction.proofs.DivisorsLemmas.{gcd_is, gcd-scaled}
use Rattle.viz_fraction.proofs.IntegersLemmas.{abs-div, abs-pos_mul, div-exact, div_from, div-one, mul_left_comm}

-- ---- the divisor of five

pub divisor_is : (p : Point) → IsDivisorOf p (divisor_of p)
unfolding divisor_of
divisor_is p =
    let wx = gcd_is (unsigned_abs p.w) (unsigned_abs p.x) in
    let wxy = gcd_is (gcd (unsigned_abs p.w) (unsigned_abs p.x)) (unsigned_abs p.y) in
    let wxyz = gcd_is (gcd (gcd (unsigned_abs p.w) (unsigned_abs p.x)) (unsigned_abs p.y)) (unsigned_abs p.z) in
    let all = gcd_is (gcd (gcd (gcd (unsigned_abs p.w) (unsigned_abs p.x)) (unsigned_abs p.y)) (unsigned_abs p.z)) (unsigned_abs p.s) in
    let d = divisor_of p in
    record {
      common = record {
        x = dvd_trans d (dvd_trans d (dvd_trans d all.0 wxyz.0) wxy.0) wx.1;
        y = dvd_trans d (dvd_trans d all.0 wxyz.0) wxy.1;
        z = dvd_trans d all.0 wxyz.1;
        s = all.1;
        w = dvd_trans d (dvd_trans d (dvd_trans d all.0 wxyz.0) wxy.0) wx.0;
      };
      greatest = λ e each. all.2 e (wxyz.2 e (wxy.2 e (wx.2 e each.w each.x) each.y) each.z) each.s;
    }

pub divisor_from : (p : Point) (d : ℕ) → IsDivisorOf p d → d ≡ divisor_of p
divisor_from p d h =
    dvd_antisymm ((divisor_is p).greatest d h.common) (h.greatest (divisor_of p) (divisor_is p).common)

-- a number that the divisor divides changes nothing as a sixth
pub divisor-with : (start : ℕ) (p : Point) → divisor_of p ∣ start
    → gcd (gcd (gcd (gcd (gcd start (unsigned_abs p.w)) (unsigned_abs p.x)) (unsigned_abs p.y)) (unsigned_abs p.z)) (unsigned_abs p.s) ≡ divisor_of p
divisor-with start p divides =
    let w = unsigned_abs p.w in
    let x = unsigned_abs p.x in
    let y = unsigned_abs p.y in
    let z = unsigned_abs p.z in
    let s = unsigned_abs p.s in
    let g1 = gcd_is start w in
    let g2 = gcd_is (gcd start w) x in
    let g3 = gcd_is (gcd (gcd start w) x) y in
    let g4 = gcd_is (gcd (gcd (gcd start w) x) y) z in
    let g5 = gcd_is (gcd (gcd (gcd (gcd start w) x) y) z) s in
    let d = gcd (gcd (gcd (gcd (gcd start w) x) y) z) s in
    let to_3 = dvd_trans d g5.0 g4.0 in
    let to_2 = dvd_trans d to_3 g3.0 in
    let to_1 = dvd_trans d to_2 g2.0 in
    let has : DividesEach (divisor_of p) p = (divisor_is p).common in
    let e = divisor_of p in
    divisor_from p d (record {
      common = record {
        x = dvd_trans d to_2 g2.1;
        y = dvd_trans d to_3 g3.1;
        z = dvd_trans d g5.0 g4.1;
        s = g5.1;
        w = dvd_trans d to_1 g1.1;
      };
      greatest = λ f each.
          let first = dvd_trans f ((divisor_is p).greatest f each) divides in
          g5.2 f (g4.2 f (g3.2 f (g2.2 f (g1.2 f first each.w) each.x) each.y) each.z) each.s;
    })

pub weight_above_0 : (w : ℤ) → pos 0 <ℤ w → 0 < unsigned_abs w
weight_above_0 w positive = omega (arith, ints)

pub divisor_above_0 : (p : Point) → pos 0 <ℤ p.w → 0 < divisor_of p
divisor_above_0 p positive = pos_of_dvd_of_pos (divisor_is p).common.w (weight_above_0 p.w positive)

-- ---- five numbers scaled

pub divisor_of-scaled : (k : ℕ) (p : Point) → 0 < k → divisor_of (scaled k p) ≡ divisor_of p * k
unfolding divisor_of
divisor_of-scaled k p some =
    let x = unsigned_abs p.x in
    let y = unsigned_abs p.y in
    let z = unsigned_abs p.z in
    let s = unsigned_abs p.s in
    let w = unsigned_abs p.w in
    rw (abs-pos_mul k p.x, abs-pos_mul k p.y, abs-pos_mul k p.z, abs-pos_mul k p.s, abs-pos_mul k p.w) (
    rw (gcd-scaled w x k some, gcd-scaled (gcd w x) y k some, gcd-scaled (gcd (gcd w x) y) z k some, gcd-scaled (gcd (gcd (gcd w x) y) z) s k some) refl
    )

-- points with the same five numbers are the same
pub same_point : (p q : Point) → p.x ≡ q.x → p.y ≡ q.y → p.z ≡ q.z → p.s ≡ q.s → p.w ≡ q.w → p ≡ q
same_point p q x y z s w =
    ap (λ n. record p { x = n }) x
    ∙ ap (λ n. record p { x = q.x; y = n }) y
    ∙ ap (λ n. record p { x = q.x; y = q.y; z = n }) z
    ∙ ap (λ n. record q { s = n; w = p.w }) s
    ∙ ap (λ n. record q { w = n }) w

-- five numbers are their lowest terms, divisor times
pub scaled-reduced : (p : Point) → scaled (divisor_of p) (reduced p) ≡ p
scaled-reduced p =
    let d = divisor_of p in
    let each = (divisor_is p).common in
    same_point (scaled d (reduced p)) p
    (*ℤ_comm (pos d) (int_div p.x (pos d)) ∙ div-exact p.x d each.x)
    (*ℤ_comm (pos d) (int_div p.y (pos d)) ∙ div-exact p.y d each.y)
    (*ℤ_comm (pos d) (int_div p.z (pos d)) ∙ div-exact p.z d each.z)
    (*ℤ_comm (pos d) (int_div p.s (pos d)) ∙ div-exact p.s d each.s)
    (*ℤ_comm (pos d) (int_div p.w (pos d)) ∙ div-exact p.w d each.w)

pub reduced_lowest : (p : Point) → pos 0 <ℤ p.w → divisor_of (reduced p) ≡ 1
reduced_lowest p positive =
    let d = divisor_of p in
    let some = divisor_above_0 p positive in
    let whole : divisor_of (reduced p) * d ≡ d = sym (divisor_of-scaled d (reduced p) some) ∙ ap divisor_of (scaled-reduced p) in
    eq_of_mul-eq-mul_right d some (divisor_of (reduced p)) 1 (whole ∙ omega arith)

-- the quotient of a positive number by its divisor is positive
pub factor_above_0 : (q d n : ℕ) → 0 < n → q * d ≡ n → 0 < q
factor_above_0 zero d n some is = absurd (omega arith)
factor_above_0 (suc q) d n some is = omega arith

div_positive : (z : ℤ) (d : ℕ) → pos 0 <ℤ z → d ∣ unsigned_abs z → pos 0 <ℤ int_div z (pos d)
div_positive (pos n) d positive divides =
    let some : 0 < n = omega (arith, ints) in
    let parts : n / d * d ≡ n = omega (arith, div-add-mod' n d, mod-eq-zero_of_dvd d divides) in
    let above : 0 < n / d = factor_above_0 (n / d) d n some parts in
    omega (arith, ints)
div_positive (negsuc n) d positive divides = absurd (omega (arith, ints))

pub reduced_positive : (p : Point) → pos 0 <ℤ p.w → pos 0 <ℤ (reduced p).w
reduced_positive p positive =
    div_positive p.w (divisor_of p) positive (divisor_is p).common.w

narrow_div : (z : ℤ) (d : ℕ) → IsNarrow z → IsNarrow (int_div z (pos d))
narrow_div z d narrow =
    let smaller : unsigned_abs (int_div z (pos d)) ≤ unsigned_abs z = rw (abs-div z d) (div-le_self (unsigned_abs z) d) in
    omega arith

-- lowest terms are a point
pub reduced_is_point : (p : Point) → pos 0 <ℤ p.w → IsNarrowPoint p → IsPoint (reduced p)
reduced_is_point p positive narrow =
    let d = divisor_of p in
    record {
      positive = reduced_positive p positive;
      lowest = reduced_lowest p positive;
      narrow = record {
        x = narrow_div p.x d narrow.x;
        y = narrow_div p.y d narrow.y;
        z = narrow_div p.z d narrow.z;
        s = narrow_div p.s d narrow.s;
        w = narrow_div p.w d narrow.w;
      };
    }

-- where the divisor is 1, five numbers are their lowest terms
pub reduced-lowest : (p : Point) → divisor_of p ≡ 1 → reduced p ≡ p
reduced-lowest p one =
    let P : ℕ → Type 0 = λ d. divided d p ≡ p in
    subst P (sym one) (same_point (divided 1 p) p (div-one p.x) (div-one p.y) (div-one p.z) (div-one p.s) (div-one p.w))

mul_pos : (a b : ℕ) → 0 < a → 0 < b → 0 < a * b
mul_pos a b some_a some_b = omega (arith, le-mul_of_pos_right a some_b)

-- a common factor of a number and its divisor leaves the quotient
div-times : (z : ℤ) (d k : ℕ) → 0 < d * k → d ∣ unsigned_abs z → int_div (pos k *ℤ z) (pos (d * k)) ≡ int_div z (pos d)
div-times z d k above divides =
    let q = int_div z (pos d) in
    let product : pos (d * k) ≡ pos k *ℤ pos d = ap pos (omega arith) in
    let whole : q *ℤ pos (d * k) ≡ pos k *ℤ z =
    ap (λ n. q *ℤ n) product ∙ mul_left_comm q (pos k) (pos d) ∙ ap (λ n. pos k *ℤ n) (div-exact z d divides) in
    div_from q (pos k *ℤ z) (d * k) above whole

-- scaled numbers have the same lowest terms
pub reduced-scaled : (k : ℕ) (p : Point) → 0 < k → pos 0 <ℤ p.w → reduced (scaled k p) ≡ reduced p
reduced-scaled k p some positive =
    let d = divisor_of p in
    let above : 0 < d * k = mul_pos d k (divisor_above_0 p positive) some in
    let each = (divisor_is p).common in
    let P : ℕ → Type 0 = λ e. divided e (scaled k p) ≡ reduced p in
    subst P (sym (divisor_of-scaled k p some)) (same_point (divided (d * k) (scaled k p)) (reduced p)
    (div-times p.x d k above each.x)
    (div-times p.y d k above each.y)
    (div-times p.z d k above each.z)
    (div-times p.s d k above each.s)
    (div-times p.w d k above each.w))

-- ---- places

-- equal places with equal scalars have the same lowest terms
pub reduced-same_place : (p q : Point) → pos 0 <ℤ p.w → pos 0 <ℤ q.w → IsSamePlace p q → reduced p ≡ reduced q
reduced-same_place p q positive_p positive_q same =
    let m = unsigned_abs p.w in
    let n = unsigned_abs q.w in
    let m_is : p.w ≡ pos m = omega (arith, ints) in
    let n_is : q.w ≡ pos n = omega (arith, ints) in
    let some_m : 0 < m = omega (arith, ints) in
    let some_n : 0 < n = omega (arith, ints) in
    let turned : (a b : ℤ) → a *ℤ q.w ≡ b *ℤ p.w → pos n *ℤ a ≡ pos m *ℤ b =
    λ a b e. ap (λ w. w *ℤ a) (sym n_is) ∙ *ℤ_comm q.w a ∙ e ∙ *ℤ_comm b p.w ∙ ap (λ w. w *ℤ b) m_is in
    let both : scaled n p ≡ scaled m q = same_point (scaled n p) (scaled m q)
    (turned p.x q.x same.x) (turned p.y q.y same.y) (turned p.z q.z same.z) (turned p.s q.s same.s) (turned p.w q.w (*ℤ_comm p.w q.w)) in
    sym (reduced-scaled n p some_n positive_p) ∙ ap reduced both ∙ reduced-scaled m q some_m positive_q

-- lowest terms have the place and the scalar of the five numbers
pub reduced_same_place : (p : Point) → IsSamePlace (reduced p) p
reduced_same_place p =
    let d = divisor_of p in
    let each = (divisor_is p).common in
    let w = int_div p.w (pos d) in
    let cross : (z : ℤ) → d ∣ unsigned_abs z → int_div z (pos d) *ℤ p.w ≡ z *ℤ w =
    λ z divides.
    let q = int_div z (pos d) in
    ap (λ n. q *ℤ n) (sym (div-exact p.w d each.w)) ∙ mul_left_comm q w (pos d) ∙ ap (λ n. w *ℤ n) (div-exact z d divides) ∙ *ℤ_comm w z in
    record { x = cross p.x each.x; y = cross p.y each.y; z = cross p.z each.z; s = cross p.s each.s }

-- a divisor of five numbers isn't wide where they aren't
pub divisor_le : (p : Point) → pos 0 <ℤ p.w → IsNarrowPoint p → divisor_of p ≤ 2 ^ 120
divisor_le p positive narrow =
    let least = le_of_dvd (weight_above_0 p.w positive) (divisor_is p).common.w in
    let most : unsigned_abs p.w ≤ 2 ^ 120 = narrow.w in
    omega arith
