use Rattle.std.proofs.Common.{◌≡◌, ℕ, suc, ◌+◌, ◌*◌, ◌/◌, ◌%◌, ◌^◌, ◌<◌, ◌≤◌, ap, sym, ◌∙◌, arith}
use Rattle.std.proofs.Math.Nat.{pow-suc}
use Rattle.viz_fraction.proofs.DecimalsLemmas.{place_more, places_below, power_most}
use Rattle.viz_fraction.proofs.decimals.digit_by_digit.Goals as goal

-- the places so far and one place more
next_place : (rest w i : ℕ) → 0 < w
    → (rest * 10 ^ i / w * 10 + rest * 10 ^ i % w * 10 / w ≡ rest * 10 ^ (i + 1) / w) × (rest * 10 ^ i % w * 10 % w ≡ rest * 10 ^ (i + 1) % w)
next_place rest w i some =
    let more = place_more (rest * 10 ^ i) w some in
    let next : i + 1 ≡ suc i = omega arith in
    let product : rest * 10 ^ i * 10 ≡ rest * 10 ^ (i + 1) =
    omega (arith, ap (λ n. rest * n) (pow-suc 10 i), ap (λ n. rest * 10 ^ n) next) in
    (sym more.0 ∙ ap (λ n. n / w) product, sym more.1 ∙ ap (λ n. n % w) product)

-- they stay below 10^9
next_fits : (rest w i : ℕ) → rest < w → i + 1 ≤ 9 → rest * 10 ^ i / w * 10 + rest * 10 ^ i % w * 10 / w < 1000000000
next_fits rest w i proper few =
    let next = (next_place rest w i (omega arith)).0 in
    let below = places_below rest w (i + 1) proper in
    let most = power_most (i + 1) few in
    omega (arith, next, below, most)

pub overflow_add-digits : goal.overflow_add-digits
overflow_add-digits c =
    let fits = next_fits c.args.rest c.args.w c.loop.counter c.requires.proper (omega arith) in
    rw (c.loop.invariant.value, c.loop.invariant.left) (omega (arith, fits))

pub loop-preserved : goal.loop-preserved
loop-preserved c =
    let next = next_place c.args.rest c.args.w c.loop.counter (omega arith) in
    rw (c.loop.invariant.value, c.loop.invariant.left) (record { value = next.0; left = next.1 })
