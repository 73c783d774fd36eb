use Rattle.std.proofs.Common.{◌≡◌, ◌*◌, ◌%◌, ◌^◌, ◌<◌, arith}
use lib.Pow.{pow-lt}
use Rattle.viz_lanes.proofs.BitLemmas.{set_last, clear_last}
use Rattle.viz_lanes.proofs.bits.with_bit.Goals as goal

pub returns-then-bit-clause-value : goal.returns-then-bit-clause-value
returns-then-bit-clause-value c =
    let small : 2 ^ c.args.at < 2 ^ 64 = pow-lt c.requires.within in
    let kept : (1 * 2 ^ c.args.at) % 18446744073709551616 ≡ 2 ^ c.args.at = omega (arith, small) in
    rw (kept, c.if-bit.true) (set_last c.args.at c.args.word c.requires.low)

pub returns-else-bit-clause-value : goal.returns-else-bit-clause-value
returns-else-bit-clause-value c = rw c.if-bit.false (clear_last c.args.at c.args.word c.requires.low)
