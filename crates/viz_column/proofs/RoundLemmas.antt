-- Numbers and their bytes, both ways.
use Rattle.std.proofs.Common.{◌≡◌, ◌/◌, ◌%◌, ℕ, zero, suc, ◌+◌, ◌*◌, ◌^◌, ◌<◌, ◌≤◌, List, [], ◌∷◌, length, take, slice_index, refl, sym, ap, ◌∙◌, arith}
use Rattle.std.specs.Int.{byte_at, bytes_high_first}
use Rattle.std.proofs.Math.Nat.{add-zero, div-one, mod-eq_of_lt, mul-add-div_right, mul-add-mod_self_right, one-le-pow, pow-suc}
use Rattle.std.proofs.lemmas.Nat.{div-mul-add, pow-add}
use Rattle.byteorder.specs.Endian.{big_from}
use Rattle.byteorder.specs.Numbers.{big_from-cons, big_from-lt}

-- a byte of a number, by its place
byte_at-place : (k x : ℕ) → byte_at k x ≡ x / 256 ^ k % 256
byte_at-place zero x = ap (λ (y : ℕ). y % 256) (sym (div-one x))
byte_at-place (suc k) x = refl

-- a power of 256 is above zero
pow_above : (n : ℕ) → zero < 256 ^ n
pow_above n = let h = one-le-pow n 256 (omega arith) in omega arith

-- what stands above a byte doesn't change it
byte_at-above : (k d c r : ℕ) → byte_at k (c * 256 ^ (k + suc d) + r) ≡ byte_at k r
byte_at-above k d c r =
    let split : c * 256 ^ (k + suc d) ≡ c * 256 ^ d * 256 * 256 ^ k = rw (pow-add 256 k (suc d), pow-suc 256 d) (grind arith) in
    rw (byte_at-place k (c * 256 ^ (k + suc d) + r), byte_at-place k r, split, mul-add-div_right (pow_above k) (c * 256 ^ d * 256) r)
    (mul-add-mod_self_right (c * 256 ^ d) 256 (r / 256 ^ k))

-- what stands above the bytes doesn't change them
bytes-above : (n d c r : ℕ) → bytes_high_first n (c * 256 ^ (n + d) + r) ≡ bytes_high_first n r
bytes-above zero d c r = refl
bytes-above (suc n) d c r =
    let place : suc n + d ≡ n + suc d = omega arith in
    let first = byte_at-above n d c r in
    let rest = bytes-above n (suc d) c r in
    rw place (rw (first, rest) refl)

-- the bytes of the number in bytes are those bytes
pub bytes_again : (n : ℕ) (xs : List ℕ) → n ≤ length xs → ((i : ℕ) → slice_index xs i < 256) → bytes_high_first n (big_from 0 n xs) ≡ take n xs
bytes_again zero xs long small = refl
bytes_again (suc n) [] long small = absurd (omega arith)
bytes_again (suc n) (x ∷ xs) long small =
    let moved = big_from-cons 0 n x xs in
    let later : (i : ℕ) → slice_index xs i < 256 = λ i. small (suc i) in
    let below : big_from 0 n xs < 256 ^ n = big_from-lt 0 n xs later in
    let byte : x < 256 = small 0 in
    let first : byte_at n (x * 256 ^ n + big_from 0 n xs) ≡ x =
    byte_at-place n (x * 256 ^ n + big_from 0 n xs) ∙ ap (λ (y : ℕ). y % 256) (div-mul-add x (256 ^ n) (big_from 0 n xs) below) ∙ mod-eq_of_lt byte in
    let above : bytes_high_first n (x * 256 ^ n + big_from 0 n xs) ≡ bytes_high_first n (big_from 0 n xs) =
    rw add-zero at (bytes-above n 0 x (big_from 0 n xs)) in
    let rest = bytes_again n xs (omega arith) later in
    rw (moved, first, above, rest) refl
