use Rattle.std.proofs.Common.{◌+◌, ◌*◌, ◌^◌, ◌∙◌, ap₂}
use Rattle.std.specs.Int.{bit_at}
use Rattle.viz_lanes.proofs.BitLemmas.{bit_of_both}
use Rattle.viz_lanes.proofs.bits.joined.Goals as goal

pub returns : goal.returns
returns c t l =
    bit_of_both (c.from.result * 2 ^ 64 + c.from-2.result) c.args.shift t l
    ∙ ap₂ (λ high low. bit_at (high * 2 ^ 64 + low) (c.args.shift + t)) c.from.ensures c.from-2.ensures
