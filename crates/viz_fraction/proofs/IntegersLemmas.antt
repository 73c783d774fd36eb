-- Whole numbers with a sign: their ring, their divisors and their exact quotients.
use Rattle.std.proofs.Common.{◌≡◌, ℕ, suc, ◌+◌, ◌*◌, ◌/◌, ◌<◌, ◌≤◌, ℤ, pos, negsuc, refl, sym, ap, subst, ◌∙◌, arith}
use Rattle.std.specs.Prelude.{◌+ℤ◌, ◌-ℤ◌, ◌*ℤ◌, neg_ℤ, unsigned_abs, int_div}
use Rattle.std.proofs.Math.IntN.{*ℤ_comm}
use Rattle.std.proofs.Math.Nat.{dvd-mul_left, dvd-mul_left_of_dvd, eq_of_mul-eq-mul_right}
use Rattle.std.proofs.lemmas.Int.{ints, unsigned_abs-mul}
use Rattle.std.proofs.lemmas.Nat.{div-add-mod'}
use Rattle.std.proofs.lemmas.Nat.Gcd.{mod-eq-zero_of_dvd}
use Prim.Native.Nat.{◌∣◌}
use borrow.Author.Differences.{up, down, sum_is_lem, neg_is, product_is}

-- ---- the ring

pub mul-+ℤ : (c a b : ℤ) → c *ℤ (a +ℤ b) ≡ c *ℤ a +ℤ c *ℤ b
mul-+ℤ c a b =
    let parts = sum_is_lem a b in
    omega (arith, ints, ap (λ n. up c * n) parts, ap (λ n. down c * n) parts)

pub mul-neg : (c b : ℤ) → c *ℤ neg_ℤ b ≡ neg_ℤ (c *ℤ b)
mul-neg c b =
    let parts = neg_is b in
    omega (arith, ints, ap (λ n. up c * n) parts.0, ap (λ n. down c * n) parts.0, ap (λ n. up c * n) parts.1, ap (λ n. down c * n) parts.1)

pub mul--ℤ : (c a b : ℤ) → c *ℤ (a -ℤ b) ≡ c *ℤ a -ℤ c *ℤ b
mul--ℤ c a b = mul-+ℤ c a (neg_ℤ b) ∙ ap (λ n. c *ℤ a +ℤ n) (mul-neg c b)

pub mul_left_comm : (a b c : ℤ) → a *ℤ (b *ℤ c) ≡ b *ℤ (a *ℤ c)
mul_left_comm a b c =
    let bc = product_is b c in
    let ac = product_is a c in
    omega (arith, ints, ap (λ n. up a * n) bc.0, ap (λ n. down a * n) bc.0, ap (λ n. up a * n) bc.1, ap (λ n. down a * n) bc.1, ap (λ n. up b * n) ac.0, ap (λ n. down b * n) ac.0, ap (λ n. up b * n) ac.1, ap (λ n. down b * n) ac.1)

-- a factor above 0 cancels
pub cancel : (a b : ℤ) (d : ℕ) → 0 < d → a *ℤ pos d ≡ b *ℤ pos d → a ≡ b
cancel a b d some e =
    let product : (up a + down b) * d ≡ (up b + down a) * d = omega (arith, ints, e) in
    let same : up a + down b ≡ up b + down a = eq_of_mul-eq-mul_right d some _ _ product in
    omega (arith, ints, same)

-- ---- magnitudes

pub abs-neg : (z : ℤ) → unsigned_abs (neg_ℤ z) ≡ unsigned_abs z
abs-neg z = omega (arith, ints)

pub abs-pos_mul : (k : ℕ) (z : ℤ) → unsigned_abs (pos k *ℤ z) ≡ unsigned_abs z * k
abs-pos_mul k z = omega (arith, unsigned_abs-mul (pos k) z)

pub abs-sum_le : (a b : ℤ) → unsigned_abs (a +ℤ b) ≤ unsigned_abs a + unsigned_abs b
abs-sum_le a b = omega (arith, ints)

-- ---- divisors

-- what divides the magnitude is a factor
pub factor : (d : ℕ) (z : ℤ) → d ∣ unsigned_abs z → (k : ℤ) × (z ≡ k *ℤ pos d)
factor d (pos n) divides =
    let parts : n ≡ n / d * d = omega (arith, div-add-mod' n d, mod-eq-zero_of_dvd d divides) in
    (pos (n / d), ap pos parts)
factor d (negsuc n) divides =
    let parts : suc n ≡ suc n / d * d = omega (arith, div-add-mod' (suc n) d, mod-eq-zero_of_dvd d divides) in
    (neg_ℤ (pos (suc n / d)), ap (λ m. neg_ℤ (pos m)) parts ∙ sym (*ℤ_comm (neg_ℤ (pos (suc n / d))) (pos d) ∙ mul-neg (pos d) (pos (suc n / d)) ∙ ap (λ m. neg_ℤ (pos m)) (omega arith)))

pub divides_factor : (d : ℕ) (k : ℤ) → d ∣ unsigned_abs (k *ℤ pos d)
divides_factor d k =
    let P : ℕ → Type 0 = λ n. d ∣ n in
    subst P (sym (unsigned_abs-mul k (pos d))) (dvd-mul_left d (unsigned_abs k))

pub divides_product : (d : ℕ) (k z : ℤ) → d ∣ unsigned_abs z → d ∣ unsigned_abs (k *ℤ z)
divides_product d k z divides =
    let P : ℕ → Type 0 = λ n. d ∣ n in
    subst P (sym (unsigned_abs-mul k z)) (dvd-mul_left_of_dvd d divides (unsigned_abs k))

pub divides_sum : (d : ℕ) (a b : ℤ) → d ∣ unsigned_abs a → d ∣ unsigned_abs b → d ∣ unsigned_abs (a +ℤ b)
divides_sum d a b in_a in_b =
    let fa = factor d a in_a in
    let fb = factor d b in_b in
    let whole : a +ℤ b ≡ (fa.0 +ℤ fb.0) *ℤ pos d =
    sym (*ℤ_comm (fa.0 +ℤ fb.0) (pos d) ∙ mul-+ℤ (pos d) fa.0 fb.0 ∙ omega (arith, ints, fa.1, fb.1, *ℤ_comm fa.0 (pos d), *ℤ_comm fb.0 (pos d))) in
    let P : ℤ → Type 0 = λ n. d ∣ unsigned_abs n in
    subst P (sym whole) (divides_factor d (fa.0 +ℤ fb.0))

pub divides_neg : (d : ℕ) (a : ℤ) → d ∣ unsigned_abs a → d ∣ unsigned_abs (neg_ℤ a)
divides_neg d a in_a = let P : ℕ → Type 0 = λ n. d ∣ n in subst P (sym (abs-neg a)) in_a

pub divides_difference : (d : ℕ) (a b : ℤ) → d ∣ unsigned_abs a → d ∣ unsigned_abs b → d ∣ unsigned_abs (a -ℤ b)
divides_difference d a b in_a in_b = divides_sum d a (neg_ℤ b) in_a (divides_neg d b in_b)

-- ---- exact quotients

pub abs-div : (z : ℤ) (d : ℕ) → unsigned_abs (int_div z (pos d)) ≡ unsigned_abs z / d
abs-div (pos n) d = refl
abs-div (negsuc n) d = abs-neg (pos (suc n / d))

-- a divisor times the quotient
pub div-exact : (z : ℤ) (d : ℕ) → d ∣ unsigned_abs z → int_div z (pos d) *ℤ pos d ≡ z
div-exact (pos n) d divides = ap pos (omega (arith, div-add-mod' n d, mod-eq-zero_of_dvd d divides))
div-exact (negsuc n) d divides =
    let parts : d * (suc n / d) ≡ suc n = omega (arith, div-add-mod' (suc n) d, mod-eq-zero_of_dvd d divides) in
    *ℤ_comm (neg_ℤ (pos (suc n / d))) (pos d) ∙ mul-neg (pos d) (pos (suc n / d)) ∙ ap (λ m. neg_ℤ (pos m)) parts

-- the only number that gives it
pub div_from : (y z : ℤ) (d : ℕ) → 0 < d → y *ℤ pos d ≡ z → int_div z (pos d) ≡ y
div_from y z d some e =
    let P : ℤ → Type 0 = λ n. d ∣ unsigned_abs n in
    let divides : d ∣ unsigned_abs z = subst P e (divides_factor d y) in
    cancel (int_div z (pos d)) y d some (div-exact z d divides ∙ sym e)

pub div-one : (z : ℤ) → int_div z (pos 1) ≡ z
div-one z = div_from z z 1 (omega arith) (omega (arith, ints))
