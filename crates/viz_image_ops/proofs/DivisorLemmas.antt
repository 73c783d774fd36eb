-- A quotient as the upper part of a product.
use Rattle.std.proofs.Common.{◌≡◌, ℕ, ◌+◌, ◌*◌, ◌/◌, ◌<◌, ◌≤◌, arith}
use Rattle.std.proofs.Math.Nat.{div-eq_of_lt-le, div-mul-le_self, lt-mul-div-succ, lt_of_mul-lt-mul_left}
use Rattle.std.proofs.lemmas.Nat.{mul-le}

-- the factor is a unit by the divisor, rounded down, and one more
pub upper_part : (unit n d : ℕ) → 0 < d → n * d < unit → n * (unit / d + 1) / unit ≡ n / d
upper_part unit n d some small = div-eq_of_lt-le unit from to
  where
    from : n / d * unit ≤ n * (unit / d + 1)
    from =
        let q = n / d in
        let f = unit / d in
        let above : unit < d * (f + 1) = lt-mul-div-succ unit some in
        let one : q * unit ≤ q * (d * (f + 1)) = mul-le q unit q (d * (f + 1)) (omega arith) (omega (arith, above)) in
        let two : q * d * (f + 1) ≤ n * (f + 1) = mul-le (q * d) (f + 1) n (f + 1) (div-mul-le_self n d) (omega arith) in
        let same : q * (d * (f + 1)) ≡ q * d * (f + 1) = omega arith in
        omega (arith, one, two, same)

    to : n * (unit / d + 1) < (n / d + 1) * unit
    to =
        let q = n / d in
        let f = unit / d in
        let below : f * d ≤ unit = div-mul-le_self unit d in
        let next : n < d * (q + 1) = lt-mul-div-succ n some in
        let one : n * (f * d) ≤ n * unit = mul-le n (f * d) n unit (omega arith) below in
        let two : (n + 1) * unit ≤ d * (q + 1) * unit = mul-le (n + 1) unit (d * (q + 1)) unit (omega (arith, next)) (omega arith) in
        let left : d * (n * (f + 1)) ≡ n * (f * d) + n * d = omega arith in
        let right : d * ((q + 1) * unit) ≡ d * (q + 1) * unit = omega arith in
        let more : (n + 1) * unit ≡ n * unit + unit = omega arith in
        lt_of_mul-lt-mul_left d (omega (arith, one, two, left, right, more, small))

-- by a number below the factor the product is small enough
pub below_unit : (unit n d : ℕ) → 0 < d → n < unit / d → n * d < unit
below_unit unit n d some below =
    let next : (n + 1) * d ≤ unit / d * d = mul-le (n + 1) d (unit / d) d (omega (arith, below)) (omega arith) in
    let more : (n + 1) * d ≡ n * d + d = omega arith in
    omega (arith, next, more, div-mul-le_self unit d, some)
