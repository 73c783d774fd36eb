use Rattle.std.proofs.Common.{refl, ◌∙◌, get_or}
use Rattle.viz_flags.specs.Flags.{flags_of}
use Rattle.viz_sheet.specs.Kept.{kept_rank}
use Rattle.viz_flags.proofs.BitLemmas.{starts_more}
use Rattle.viz_flags.proofs.starts.starts_of.Goals as goal

pub loop-mask-preserved : goal.loop-mask-preserved
loop-mask-preserved c =
    let both = starts_more c.args.flags.now c.loop-mask.mask-index c.loop-mask.before.items c.push.new.self.items c.loop-mask.count (kept_rank (flags_of (get_or c.args.flags.now c.loop-mask.mask-index 0)) 8)
    c.loop-mask-test.true c.loop-mask.invariant.list c.loop-mask.invariant.count c.in_ok-push.ensures.items refl in
    record { list = both.0; count = c.in_ok-count.ensures ∙ both.1 }
