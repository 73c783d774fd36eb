use Rattle.std.proofs.Common.{◌≡◌, ℕ, ◌/◌, ◌<◌, pos, ap, sym, ◌∙◌, subst, rules, arith}
use Rattle.std.proofs.lemmas.Int.{ints, to_z-of_z}
use Rattle.std.specs.Int.{w128}
use Rattle.viz_fraction.specs.Divisors.{gcd}
use Rattle.viz_fraction.proofs.CrossingsLemmas.{divisor_above, weights_lowest}
use Rattle.viz_fraction.proofs.crossings.weights_of.Goals as goal

above : (d m n : ℕ) → d ≡ gcd m n → 0 < n → 0 < d
above d m n is some = let P : ℕ → Type 0 = λ k. 0 < k in subst P (sym is) (divisor_above m n some)

pub share-requires-clause-some : goal.share-requires-clause-some
share-requires-clause-some c =
    above _ _ c.magnitude-outside.result c.common_divisor-divisor.ensures (omega (arith, ints))

pub share-requires-2-clause-some : goal.share-requires-2-clause-some
share-requires-2-clause-some c =
    above _ _ c.magnitude-outside.result c.common_divisor-divisor.ensures (omega (arith, ints))

pub returns-clause-lowest : goal.returns-clause-lowest
returns-clause-lowest c =
    let m = c.magnitude-inside.result in
    let n = c.magnitude-outside.result in
    let some : 0 < n = omega (arith, ints) in
    weights_lowest _ m n some
    (to_z-of_z w128 c.share.result (search rules) ∙ c.share.ensures ∙ ap (λ d. pos (m / d)) c.common_divisor-divisor.ensures)
    (to_z-of_z w128 c.share-2.result (search rules) ∙ c.share-2.ensures ∙ ap (λ d. pos (n / d)) c.common_divisor-divisor.ensures)
