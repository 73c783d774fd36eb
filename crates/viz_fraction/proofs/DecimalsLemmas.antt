-- Floors, and the decimal places of a fraction.
use Rattle.std.proofs.Common.{◌≡◌, ℕ, zero, suc, ◌+◌, ◌*◌, ◌/◌, ◌%◌, ◌^◌, ◌<◌, ◌≤◌, ℤ, pos, negsuc, sym, ap, subst, ◌∙◌, arith}
use Rattle.std.specs.Prelude.{◌+ℤ◌, ◌-ℤ◌, ◌*ℤ◌, ◌<ℤ◌, neg_ℤ, unsigned_abs, FitsSigned}
use Rattle.std.proofs.Math.IntN.{*ℤ_comm}
use Rattle.std.specs.Int.{int_div_euclid, w64}
use Rattle.std.proofs.Math.Nat.{lt_of_mul-lt-mul_right, mul-le-mul_right, le-mul_of_pos_right, pow-suc, pow-le-pow_right}
use Rattle.std.proofs.lemmas.Int.{ints}
use Rattle.std.proofs.lemmas.Nat.{div-add-mod', mod_below, div_below, div-mul-add, mod-mul-add}
use borrow.Author.Differences.{up, down}
use Rattle.viz_fraction.specs.Decimals.{IsFloor, fixed_of}
use Rattle.viz_fraction.proofs.IntegersLemmas.{mul-+ℤ, mul-neg, mul_left_comm}

-- the quotient rounds down
pub floor_is : (n w : ℤ) → pos 0 <ℤ w → IsFloor n w (int_div_euclid n w)
floor_is n (negsuc m) positive = absurd (omega (arith, ints))
floor_is (pos a) (pos m) positive =
    let some : 0 < m = omega (arith, ints) in
    let parts = div-add-mod' a m in
    let below = mod_below a m some in
    record { at_most = omega (arith, ints, parts, below); above = omega (arith, ints, parts, below) }
floor_is (negsuc a) (pos m) positive =
    let some : 0 < m = omega (arith, ints) in
    let parts = div-add-mod' a m in
    let below = mod_below a m some in
    let q = a / m in
    let next : negsuc q +ℤ pos 1 ≡ neg_ℤ (pos q) = omega (arith, ints) in
    let last : (negsuc q +ℤ pos 1) *ℤ pos m ≡ neg_ℤ (pos (m * q)) =
    ap (λ z. z *ℤ pos m) next ∙ *ℤ_comm (neg_ℤ (pos q)) (pos m) ∙ mul-neg (pos m) (pos q) in
    let less : negsuc a <ℤ neg_ℤ (pos (m * q)) = omega (arith, ints, parts) in
    let P : ℤ → Type 0 = λ z. negsuc a <ℤ z in
    record { at_most = omega (arith, ints, parts, below); above = subst P (sym last) less }

-- a number times a positive one is less only where the number is
pub less_by_product : (a b : ℤ) (m : ℕ) → (a *ℤ pos m) <ℤ (b *ℤ pos m) → a <ℤ b
less_by_product a b m less =
    let product : (up a + down b) * m < (up b + down a) * m = omega (arith, ints, less) in
    let below : up a + down b < up b + down a = lt_of_mul-lt-mul_right m product in
    omega (arith, ints, below)

-- there is only one floor
pub floor_unique : (n w a b : ℤ) → pos 0 <ℤ w → IsFloor n w a → IsFloor n w b → a ≡ b
floor_unique n (negsuc m) a b positive in_a in_b = absurd (omega (arith, ints))
floor_unique n (pos m) a b positive in_a in_b =
    let low : a <ℤ (b +ℤ pos 1) = less_by_product a (b +ℤ pos 1) m (omega (arith, ints, in_a.at_most, in_b.above)) in
    let high : b <ℤ (a +ℤ pos 1) = less_by_product b (a +ℤ pos 1) m (omega (arith, ints, in_b.at_most, in_a.above)) in
    omega (arith, ints)

-- ---- decimal places

-- one place more: the quotient times ten and the quotient of ten times the remainder
pub place_more : (n w : ℕ) → 0 < w → ((n * 10) / w ≡ n / w * 10 + n % w * 10 / w) × ((n * 10) % w ≡ n % w * 10 % w)
place_more n w some =
    let q = n / w in
    let m = n % w in
    let whole : n * 10 ≡ (q * 10 + m * 10 / w) * w + m * 10 % w =
    omega (arith, div-add-mod' n w, div-add-mod' (m * 10) w) in
    let below = mod_below (m * 10) w some in (
      rw whole (div-mul-add (q * 10 + m * 10 / w) w (m * 10 % w) below),
      rw whole (mod-mul-add (q * 10 + m * 10 / w) w (m * 10 % w) below),
    )

-- a proper fraction has fewer than 10^k parts of its place
pub places_below : (r w k : ℕ) → r < w → r * 10 ^ k / w < 10 ^ k
places_below r w k proper =
    let some : 0 < w = omega arith in
    let above : 0 < 10 ^ k = power_above k in
    let more : (r + 1) * 10 ^ k ≤ w * 10 ^ k = mul-le-mul_right (10 ^ k) (omega arith) in
    div_below (r * 10 ^ k) w (10 ^ k) some (omega (arith, more, above))
  where
    power_above : (k : ℕ) → 0 < 10 ^ k
    power_above zero = omega arith
    power_above (suc k) = omega (arith, pow-suc 10 k, power_above k)

-- a power of ten of at most nine places
pub power_most : (k : ℕ) → k ≤ 9 → 10 ^ k ≤ 1000000000
power_most k most = pow-le-pow_right (omega arith) most

-- ---- a whole and its places

expanded : (a : ℤ) (p f m : ℕ) → (a *ℤ pos p +ℤ pos f) *ℤ pos m ≡ a *ℤ pos (p * m) +ℤ pos (f * m)
expanded a p f m =
    let turned : m * p ≡ p * m = omega arith in
    let places : m * f ≡ f * m = omega arith in
    *ℤ_comm (a *ℤ pos p +ℤ pos f) (pos m)
    ∙ mul-+ℤ (pos m) (a *ℤ pos p) (pos f)
    ∙ ap (λ z. z +ℤ pos (m * f)) (mul_left_comm (pos m) a (pos p))
    ∙ ap (λ z. a *ℤ pos z +ℤ pos (m * f)) turned
    ∙ ap (λ z. a *ℤ pos (p * m) +ℤ pos z) places

-- the whole times 10^k and the places of the rest are the floor at k places
pub joined-fixed : (n w whole : ℤ) (rest places k : ℕ) → pos 0 <ℤ w → pos rest ≡ n -ℤ whole *ℤ w
    → places ≡ rest * 10 ^ k / unsigned_abs w → whole *ℤ pos (10 ^ k) +ℤ pos places ≡ fixed_of n w k
unfolding fixed_of
joined-fixed n (negsuc m) whole rest places k positive is_rest is_places = absurd (omega (arith, ints))
joined-fixed n (pos m) whole rest places k positive is_rest is_places =
    let p = 10 ^ k in
    let some : 0 < m = omega (arith, ints) in
    let n_is : n ≡ whole *ℤ pos m +ℤ pos rest = omega (arith, ints, is_rest) in
    let turned : m * p ≡ p * m = omega arith in
    let number : n *ℤ pos p ≡ whole *ℤ pos (p * m) +ℤ pos (rest * p) =
    ap (λ z. z *ℤ pos p) n_is ∙ expanded whole m rest p ∙ ap (λ z. whole *ℤ pos z +ℤ pos (rest * p)) turned in
    let low = expanded whole p places m in
    let next : whole *ℤ pos p +ℤ pos places +ℤ pos 1 ≡ whole *ℤ pos p +ℤ pos (places + 1) = omega (arith, ints) in
    let high = ap (λ z. z *ℤ pos m) next ∙ expanded whole p (places + 1) m in
    let parts = div-add-mod' (rest * p) m in
    let below = mod_below (rest * p) m some in
    let product : places * m ≡ rest * p / m * m = ap (λ z. z * m) is_places in
    floor_unique (n *ℤ pos p) (pos m) (whole *ℤ pos p +ℤ pos places) (int_div_euclid (n *ℤ pos p) (pos m)) positive
    (record {
      at_most = omega (arith, ints, number, low, parts, below, product);
      above = omega (arith, ints, number, high, parts, below, product);
    })
    (floor_is (n *ℤ pos p) (pos m) positive)

-- where a whole leaves 64 bits, so does the whole with places
pub whole_fits : (q : ℤ) (p f : ℕ) → f < p → FitsSigned w64 (q *ℤ pos p +ℤ pos f) → FitsSigned w64 q
whole_fits (pos a) p f below fits =
    let least : a ≤ a * p = le-mul_of_pos_right a (omega arith) in
    omega (arith, ints, least)
whole_fits (negsuc a) p f below fits =
    let least : a ≤ a * p = le-mul_of_pos_right a (omega arith) in
    omega (arith, ints, least)

-- a fixed-point number is the floor of its fraction
pub fixed_is_floor : (n w : ℤ) (k : ℕ) → pos 0 <ℤ w → IsFloor (n *ℤ pos (10 ^ k)) w (fixed_of n w k)
unfolding fixed_of
fixed_is_floor n w k positive = floor_is (n *ℤ pos (10 ^ k)) w positive
