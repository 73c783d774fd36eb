use Rattle.std.proofs.Common.{◌<◌, arith}
use Rattle.std.proofs.lemmas.Nat.Gcd.{IsGcd-from_zero}
use Rattle.std.specs.Int.{w64}
use Rattle.viz_fraction.proofs.DivisorsLemmas.{trailing_split, lesser_is_odd, IsGcd-odd_step, gcd_from}
use Rattle.viz_fraction.proofs.divisors.odd_divisor.Goals as goal

pub loop-y-preserved : goal.loop-y-preserved
loop-y-preserved c =
    let some : 0 < c.loop-y.y = omega arith in
    let fits : c.loop-y.y < 18446744073709551616 = omega arith in
    let split = trailing_split w64 c.loop-y.y some fits in
    rw (c.min-x.ensures, c.abs_diff-y.ensures) (record {
      odd = lesser_is_odd _ _ split.1 c.loop-y.invariant.odd;
      same = λ g h. c.loop-y.invariant.same g (IsGcd-odd_step w64 c.loop-y.x c.loop-y.y g c.loop-y.invariant.odd some fits h);
    })

pub returns : goal.returns
returns c = gcd_from _ _ _ (c.loop-y.invariant.same _ (IsGcd-from_zero c.loop-y.x c.loop-y.y c.loop-y-test.false))
