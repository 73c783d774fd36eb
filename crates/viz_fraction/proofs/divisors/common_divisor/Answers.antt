use Rattle.std.proofs.Common.{◌%◌}
use Rattle.std.proofs.lemmas.Nat.Gcd.{IsGcd-from_zero, IsGcd-from_mod, IsGcd-swap}
use Rattle.viz_fraction.proofs.DivisorsLemmas.{gcd_from, gcd_is}
use Rattle.viz_fraction.proofs.divisors.common_divisor.Goals as goal

pub loop-y-preserved : goal.loop-y-preserved
loop-y-preserved c = λ g h. c.loop-y.invariant g (IsGcd-from_mod c.loop-y.x c.loop-y.y g h)

pub returns-then-y-eq0 : goal.returns-then-y-eq0
returns-then-y-eq0 c = gcd_from _ _ _ (c.loop-y.invariant _ (IsGcd-from_zero c.loop-y.x c.loop-y.y c.if-y-eq0.true))

pub returns-then-x : goal.returns-then-x
returns-then-x c =
    rw c.word_divisor.ensures (gcd_from _ _ _ (c.loop-y.invariant _ (IsGcd-from_mod c.loop-y.x c.loop-y.y _ (gcd_is c.loop-y.y (c.loop-y.x % c.loop-y.y)))))

pub returns : goal.returns
returns c =
    rw c.word_divisor-2.ensures (gcd_from _ _ _ (c.loop-y.invariant _ (IsGcd-swap c.loop-y.y c.loop-y.x _ (gcd_is c.loop-y.y c.loop-y.x))))
