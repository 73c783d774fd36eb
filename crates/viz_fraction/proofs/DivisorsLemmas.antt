-- Greatest common divisors: Euclid's steps, common factors, and odd numbers.
use Rattle.std.proofs.Common.{◌≡◌, ℕ, zero, suc, ◌+◌, ◌-◌, ◌*◌, ◌/◌, ◌%◌, ◌^◌, ◌<◌, ◌≤◌, min, ◌⊎◌, inl, inr, refl, sym, ap, subst, ◌∙◌, arith}
use Rattle.std.proofs.Math.Nat.{dvd-add_iff_right, dvd-mul_right, dvd-mul_right_of_dvd, one-dvd, pow-suc, mul-le-mul_right}
use Rattle.std.proofs.lemmas.Nat.{mod-mul-add, mod-pow-add, shr_split, pow-add, pow_pos, div-add-mod', mod_below}
use Rattle.std.proofs.lemmas.Nat.Bits.{bit_at-trailing_zeros}
use Rattle.std.proofs.lemmas.Nat.Gcd.{dvd_refl, dvd_trans, le_of_dvd, dvd_of_mod-eq-zero, mod-eq-zero_of_dvd, IsGcd-from_zero, IsGcd-from_mod, IsGcd-from_sub, IsGcd-swap, same_from_IsGcd}
use Rattle.std.specs.Int.{IsGcd, Width, abs_diff, bit_at, trailing_zeros}
use Rattle.std.proofs.lemmas.Bool.{cases_lt}
use Prim.Native.Nat.{◌∣◌}
use mir.Val.{bits}
use Rattle.viz_fraction.specs.Divisors.{gcd, gcd_within}

-- Euclid's steps find it, where there are enough of them
within_is : (n a b : ℕ) → b ≤ n → IsGcd a b (gcd_within n a b)
within_is zero a b few = IsGcd-from_zero a b (omega arith)
within_is (suc n) a zero few = IsGcd-from_zero a 0 refl
within_is (suc n) a (suc b) few = IsGcd-from_mod a (suc b) _ (within_is n (suc b) (a % suc b) (omega arith))

pub gcd_is : (a b : ℕ) → IsGcd a b (gcd a b)
unfolding gcd
gcd_is a b = within_is b a b (omega arith)

-- what divides both and is divided by what does is the greatest common divisor
pub gcd_from : (a b g : ℕ) → IsGcd a b g → g ≡ gcd a b
gcd_from a b g h = same_from_IsGcd a b g (gcd a b) h (gcd_is a b)

-- 0 changes nothing
pub gcd-zero : (n : ℕ) → n ≡ gcd 0 n
gcd-zero n = gcd_from 0 n n (IsGcd-swap n 0 n (IsGcd-from_zero n 0 refl))

-- nothing but 1 divides 1
pub gcd-one : (n : ℕ) → 1 ≡ gcd 1 n
gcd-one n = gcd_from 1 n 1 (dvd_refl 1, one-dvd n, λ d p q. p)

-- a common factor of both numbers is one of their remainder
mod-scaled : (a b c : ℕ) → 0 < b → 0 < c → (a * c) % (b * c) ≡ (a % b) * c
mod-scaled a b c some factor =
    let parts = ap (λ n. n * c) (div-add-mod' a b) in
    let whole : a * c ≡ (a / b) * (b * c) + (a % b) * c = omega (arith, parts) in
    let less : a % b + 1 ≤ b = omega (arith, mod_below a b some) in
    let below : (a % b) * c < b * c = omega (arith, mul-le-mul_right c less) in
    rw whole (mod-mul-add (a / b) (b * c) ((a % b) * c) below)

within-scaled : (n a b c : ℕ) → 0 < c → b ≤ n → IsGcd (a * c) (b * c) (gcd_within n a b * c)
within-scaled zero a b c factor few = IsGcd-from_zero (a * c) (b * c) (let none : b ≡ 0 = omega arith in rw none (omega arith))
within-scaled (suc n) a zero c factor few = IsGcd-from_zero (a * c) (0 * c) (omega arith)
within-scaled (suc n) a (suc b) c factor few =
    let rest = within-scaled n (suc b) (a % suc b) c factor (omega arith) in
    let P : ℕ → Type 0 = λ r. IsGcd (suc b * c) r (gcd_within n (suc b) (a % suc b) * c) in
    IsGcd-from_mod (a * c) (suc b * c) _ (subst P (sym (mod-scaled a (suc b) c (omega arith) factor)) rest)

-- a common factor comes out
pub gcd-scaled : (a b c : ℕ) → 0 < c → gcd (a * c) (b * c) ≡ gcd a b * c
unfolding gcd
gcd-scaled a b c factor = sym (gcd_from (a * c) (b * c) (gcd_within b a b * c) (within-scaled b a b c factor (omega arith)))

pub IsGcd-scaled : (a b g c : ℕ) → 0 < c → IsGcd a b g → IsGcd (a * c) (b * c) (g * c)
IsGcd-scaled a b g c factor h =
    let P : ℕ → Type 0 = λ d. IsGcd (a * c) (b * c) d in
    subst P (gcd-scaled a b c factor ∙ ap (λ d. d * c) (sym (gcd_from a b g h))) (gcd_is (a * c) (b * c))

-- a divisor of an odd number is odd
odd_divisor : (d n : ℕ) → d ∣ n → n % 2 ≡ 1 → d % 2 ≡ 1
odd_divisor d n divides odd = cases (d % 2) refl
  where
    cases : (r : ℕ) → d % 2 ≡ r → d % 2 ≡ 1
    cases zero even = absurd (omega (arith, mod-eq-zero_of_dvd 2 (dvd_trans 2 (dvd_of_mod-eq-zero 2 even) divides)))
    cases (suc r) is = omega arith

-- an odd number that divides a double divides the number
half_dvd : (d n : ℕ) → d % 2 ≡ 1 → d ∣ n * 2 → d ∣ n
half_dvd d n odd divides =
    let halves : d / 2 * 2 + 1 ≡ d = omega (arith, div-add-mod' d 2) in
    let parts = ap (λ m. n * m) halves in
    let whole : n * 2 * (d / 2) + n ≡ d * n = omega (arith, parts) in
    let P : ℕ → Type 0 = λ m. d ∣ m in
    (dvd-add_iff_right d (dvd-mul_right_of_dvd d divides (d / 2))).1 (subst P (sym whole) (dvd-mul_right d n))

odd_dvd : (k d n : ℕ) → d % 2 ≡ 1 → d ∣ n * 2 ^ k → d ∣ n
odd_dvd zero d n odd divides = let P : ℕ → Type 0 = λ m. d ∣ m in subst P (omega arith) divides
odd_dvd (suc k) d n odd divides =
    let P : ℕ → Type 0 = λ m. d ∣ m in
    let same : n * 2 ^ suc k ≡ (n * 2 ^ k) * 2 = omega (arith, ap (λ m. n * m) (pow-suc 2 k)) in
    odd_dvd k d n odd (half_dvd d (n * 2 ^ k) odd (subst P same divides))

-- powers of two in the other number don't change the greatest common divisor of an odd one
pub IsGcd-odd : (x y k g : ℕ) → x % 2 ≡ 1 → IsGcd x y g → IsGcd x (y * 2 ^ k) g
IsGcd-odd x y k g odd h =
    (h.0, dvd-mul_right_of_dvd g h.1 (2 ^ k), λ d p q. h.2 d p (odd_dvd k d y (odd_divisor d x p odd) q))

-- where the j lowest bits are 0, 2^j divides the number
low_bits : (j n : ℕ) → ((i : ℕ) → i < j → bit_at n i ≡ 0) → n % 2 ^ j ≡ 0
low_bits zero n bits = omega arith
low_bits (suc j) n bits =
    let below = low_bits j n (λ i h. bits i (omega arith)) in
    let here = bits j (omega arith) in
    let split = mod-pow-add n 1 j in
    let more : 1 + j ≡ suc j = omega arith in
    (rw more at split) ∙ ap (λ r. r * 2 ^ j + n % 2 ^ j) here ∙ omega (arith, below)

-- a number without its trailing zeros is odd, and they are its powers of two
pub trailing_split : (w : Width) (n : ℕ) → 0 < n → n < 2 ^ bits w
    → (n / 2 ^ trailing_zeros w n * 2 ^ trailing_zeros w n ≡ n) × (n / 2 ^ trailing_zeros w n % 2 ≡ 1) × (trailing_zeros w n < bits w)
trailing_split w n some fits =
    let t = trailing_zeros w n in
    let facts = bit_at-trailing_zeros w n some fits in
    let none = low_bits t n facts.2 in
    (omega (arith, shr_split n t), facts.1, facts.0)

-- the lesser and the difference have the greatest common divisor of both
lesser_and_difference : (m x g : ℕ) → IsGcd (min m x) (abs_diff m x) g → IsGcd x m g
lesser_and_difference m x g h = cases (cases_lt x m)
  where
    cases : ((x < m) ⊎ (m ≤ x)) → IsGcd x m g
    cases (inl less) =
        let least : min m x ≡ x = omega arith in
        let apart : abs_diff m x ≡ m - x = omega arith in
        let here : IsGcd x (m - x) g = rw apart at (rw least at h) in
        IsGcd-swap m x g (IsGcd-from_sub m x g (omega arith) (IsGcd-swap x (m - x) g here))
    cases (inr most) =
        let least : min m x ≡ m = omega arith in
        let apart : abs_diff m x ≡ x - m = omega arith in
        let here : IsGcd m (x - m) g = rw apart at (rw least at h) in
        IsGcd-from_sub x m g most (IsGcd-swap m (x - m) g here)

-- one step with an odd number x: y without its trailing zeros, then the lesser and the difference
pub IsGcd-odd_step : (w : Width) (x y g : ℕ) → x % 2 ≡ 1 → 0 < y → y < 2 ^ bits w
    → IsGcd (min (y / 2 ^ trailing_zeros w y) x) (abs_diff (y / 2 ^ trailing_zeros w y) x) g → IsGcd x y g
IsGcd-odd_step w x y g odd some fits h =
    let m = y / 2 ^ trailing_zeros w y in
    let P : ℕ → Type 0 = λ n. IsGcd x n g in
    subst P (trailing_split w y some fits).0 (IsGcd-odd x m (trailing_zeros w y) g odd (lesser_and_difference m x g h))

-- the lesser of two odd numbers is odd
pub lesser_is_odd : (m x : ℕ) → m % 2 ≡ 1 → x % 2 ≡ 1 → min m x % 2 ≡ 1
lesser_is_odd m x odd also = grind arith

-- where the first number has the fewer twos
fewer_twos : (m n i j g : ℕ) → m % 2 ≡ 1 → i ≤ j → IsGcd m n g → IsGcd (m * 2 ^ i) (n * 2 ^ j) (g * 2 ^ min i j)
fewer_twos m n i j g odd less h =
    let least : min i j ≡ i = omega arith in
    let more : j - i + i ≡ j = omega arith in
    let split : n * 2 ^ j ≡ n * 2 ^ (j - i) * 2 ^ i = omega (arith, ap (λ k. n * 2 ^ k) (sym more), ap (λ p. n * p) (pow-add 2 (j - i) i)) in
    let P : ℕ → Type 0 = λ y. IsGcd (m * 2 ^ i) y (g * 2 ^ i) in
    let here : IsGcd (m * 2 ^ i) (n * 2 ^ j) (g * 2 ^ i) =
    subst P (sym split) (IsGcd-scaled m (n * 2 ^ (j - i)) g (2 ^ i) (pow_pos i) (IsGcd-odd m n (j - i) g odd h)) in
    let Q : ℕ → Type 0 = λ k. IsGcd (m * 2 ^ i) (n * 2 ^ j) (g * 2 ^ k) in
    subst Q (sym least) here

powers_of_twos : (m n i j g : ℕ) → m % 2 ≡ 1 → n % 2 ≡ 1 → IsGcd m n g → IsGcd (m * 2 ^ i) (n * 2 ^ j) (g * 2 ^ min i j)
powers_of_twos m n i j g odd also h = cases (cases_lt i j)
  where
    cases : ((i < j) ⊎ (j ≤ i)) → IsGcd (m * 2 ^ i) (n * 2 ^ j) (g * 2 ^ min i j)
    cases (inl less) = fewer_twos m n i j g odd (omega arith) h
    cases (inr most) =
        let same : min j i ≡ min i j = omega arith in
        let Q : ℕ → Type 0 = λ k. IsGcd (m * 2 ^ i) (n * 2 ^ j) (g * 2 ^ k) in
        subst Q same (IsGcd-swap (n * 2 ^ j) (m * 2 ^ i) _ (fewer_twos n m j i g also most (IsGcd-swap m n g h)))

-- two numbers have the greatest common divisor of their odd parts, and the lesser power of two
pub IsGcd-twos : (w : Width) (a b g : ℕ) → 0 < a → a < 2 ^ bits w → 0 < b → b < 2 ^ bits w
    → IsGcd (a / 2 ^ trailing_zeros w a) (b / 2 ^ trailing_zeros w b) g
    → IsGcd a b (g * 2 ^ min (trailing_zeros w a) (trailing_zeros w b))
IsGcd-twos w a b g some_a fits_a some_b fits_b h =
    let i = trailing_zeros w a in
    let j = trailing_zeros w b in
    let split_a = trailing_split w a some_a fits_a in
    let split_b = trailing_split w b some_b fits_b in
    let both = powers_of_twos (a / 2 ^ i) (b / 2 ^ j) i j g split_a.1 split_b.1 h in
    let P : ℕ → Type 0 = λ x. IsGcd x (b / 2 ^ j * 2 ^ j) (g * 2 ^ min i j) in
    let Q : ℕ → Type 0 = λ y. IsGcd a y (g * 2 ^ min i j) in
    subst Q split_b.0 (subst P split_a.0 both)

-- a divisor of a number that isn't 0 fits where the number does
pub IsGcd_le : (a b g : ℕ) → 0 < a → IsGcd a b g → g ≤ a
IsGcd_le a b g some h = le_of_dvd some h.0

-- the numbers in the other order
pub gcd-swap : (a b : ℕ) → gcd a b ≡ gcd b a
gcd-swap a b = gcd_from b a (gcd a b) (IsGcd-swap a b (gcd a b) (gcd_is a b))
