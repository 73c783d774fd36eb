use Rattle.std.proofs.Common.{◌≡◌, ℕ, ◌/◌, ◌<◌, pos, ap, sym, ◌∙◌, subst, arith}
use Rattle.std.specs.Prelude.{unsigned_abs}
use Rattle.std.specs.Int.{w64}
use Rattle.std.proofs.lemmas.Int.{ints, to_z-of_z}
use Rattle.viz_fraction.specs.Divisors.{gcd}
use Rattle.viz_fraction.proofs.CrossingsLemmas.{divisor_above, weights_lowest}
use Rattle.viz_fraction.proofs.DivisorsLemmas.{gcd-swap}
use Rattle.viz_fraction.proofs.small_crossings.shares_of.Goals as goal

above : (d m n : ℕ) → d ≡ gcd m n → 0 < n → 0 < d
above d m n is some = let P : ℕ → Type 0 = λ k. 0 < k in subst P (sym is) (divisor_above m n some)

pub share-requires : goal.share-requires
share-requires c =
    let m = c.unsigned_abs-inside.result in
    let n = c.unsigned_abs-outside.result in
    above _ m n (c.word_divisor-divisor.ensures ∙ gcd-swap n m) (omega (arith, ints))

pub share-requires-2 : goal.share-requires-2
share-requires-2 c =
    let m = c.unsigned_abs-inside.result in
    let n = c.unsigned_abs-outside.result in
    above _ m n (c.word_divisor-divisor.ensures ∙ gcd-swap n m) (omega (arith, ints))

share_is : (s k d m n a b : ℕ) → s ≡ k / d → d ≡ gcd m n → m ≡ a → n ≡ b → s ≡ k / gcd a b
share_is s k d m n a b is_s is_d is_m is_n =
    is_s ∙ ap (λ e. k / e) is_d ∙ ap (λ e. k / gcd e n) is_m ∙ ap (λ e. k / gcd a e) is_n

pub returns-clause-outside : goal.returns-clause-outside
returns-clause-outside c =
    let m = c.unsigned_abs-inside.result in
    let n = c.unsigned_abs-outside.result in
    let la = c.unsigned_abs-inside.ensures.value ∙ ap unsigned_abs (to_z-of_z w64 c.args.la c.ranges.la) in
    let lb = c.unsigned_abs-outside.ensures.value ∙ ap unsigned_abs (to_z-of_z w64 c.args.lb c.ranges.lb) in
    share_is _ _ _ m n _ _ c.share.ensures.value (c.word_divisor-divisor.ensures ∙ gcd-swap n m) la lb
    ∙ ap (λ k. k / gcd (unsigned_abs c.args.la) (unsigned_abs c.args.lb)) la

pub returns-clause-inside : goal.returns-clause-inside
returns-clause-inside c =
    let m = c.unsigned_abs-inside.result in
    let n = c.unsigned_abs-outside.result in
    let la = c.unsigned_abs-inside.ensures.value ∙ ap unsigned_abs (to_z-of_z w64 c.args.la c.ranges.la) in
    let lb = c.unsigned_abs-outside.ensures.value ∙ ap unsigned_abs (to_z-of_z w64 c.args.lb c.ranges.lb) in
    share_is _ _ _ m n _ _ c.share-2.ensures.value (c.word_divisor-divisor.ensures ∙ gcd-swap n m) la lb
    ∙ ap (λ k. k / gcd (unsigned_abs c.args.la) (unsigned_abs c.args.lb)) lb

pub returns-clause-lowest : goal.returns-clause-lowest
returns-clause-lowest c =
    let m = c.unsigned_abs-inside.result in
    let n = c.unsigned_abs-outside.result in
    let divisor = c.word_divisor-divisor.ensures ∙ gcd-swap n m in
    let some : 0 < n = omega (arith, ints) in
    weights_lowest _ m n some
    (ap pos (c.share.ensures.value ∙ ap (λ d. m / d) divisor))
    (ap pos (c.share-2.ensures.value ∙ ap (λ d. n / d) divisor))
