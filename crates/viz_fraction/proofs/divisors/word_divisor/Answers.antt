use Rattle.std.proofs.Common.{◌≡◌, ℕ, ◌/◌, ◌%◌, ◌^◌, ◌<◌, ◌≤◌, sym, ◌∙◌, subst, arith}
use Rattle.std.proofs.lemmas.Nat.Gcd.{IsGcd-from_zero}
use Rattle.std.specs.Int.{IsGcd, w64, trailing_zeros}
use Rattle.viz_fraction.proofs.DivisorsLemmas.{trailing_split, IsGcd-twos, IsGcd_le, gcd_from, gcd_is}
use Rattle.viz_fraction.proofs.divisors.word_divisor.Goals as goal

pub returns-then-b-eq0 : goal.returns-then-b-eq0
returns-then-b-eq0 c = gcd_from _ _ _ (IsGcd-from_zero _ _ c.if-b-eq0.true)

pub odd_divisor-odd-requires : goal.odd_divisor-odd-requires
odd_divisor-odd-requires c = (trailing_split w64 c.args.a c.requires (omega arith)).1

below_limit : (n a : ℕ) → n ≤ a → a < 18446744073709551616 → n % 18446744073709551616 ≡ n
below_limit n a most fits = omega arith

pub returns : goal.returns
returns c =
    let a = c.args.a in
    let b = c.args.b in
    let m = a / 2 ^ trailing_zeros w64 a in
    let n = b / 2 ^ trailing_zeros w64 b in
    let some : 0 < b = omega arith in
    let odd : IsGcd m n c.odd_divisor-odd.result =
    let P : ℕ → Type 0 = λ g. IsGcd m n g in subst P (sym c.odd_divisor-odd.ensures) (gcd_is m n) in
    let both = IsGcd-twos w64 a b c.odd_divisor-odd.result c.requires (omega arith) some (omega arith) odd in
    rw c.min.ensures (below_limit _ a (IsGcd_le a b _ c.requires both) (omega arith) ∙ gcd_from a b _ both)
