use Rattle.std.proofs.Common.{◌≡◌, ◌+◌, arith}
use Rattle.std.proofs.lemmas.Grind.{common_steps}
use Rattle.std.proofs.lemmas.List.FromFn.{map-range_with_len_more}
use Rattle.viz_sheet.specs.Kept.{kept_rank}
use Rattle.viz_sheet.proofs.KeptLemmas.{more}
use Rattle.viz_merge.proofs.numbers.ranks_before.Goals as goal

pub loop-mark-preserved : goal.loop-mark-preserved
loop-mark-preserved c =
    let e : 0 + c.loop-mark.mark-index ≡ c.loop-mark.mark-index = omega arith in
    record {
      list = grind (arith, common_steps, map-range_with_len_more (kept_rank c.args.marks.now) 0 c.loop-mark.mark-index c.loop-mark.mark-index e);
      count = grind (arith, common_steps, more);
    }
