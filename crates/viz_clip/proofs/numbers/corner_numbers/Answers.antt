use Rattle.std.proofs.Common.{◌≡◌, ◌+◌, arith}
use Rattle.std.proofs.lemmas.Grind.{common_steps}
use Rattle.std.proofs.lemmas.List.FromFn.{map-range_with_len_more}
use Rattle.viz_sheet.specs.Kept.{kept_rank}
use Rattle.viz_sheet.proofs.KeptLemmas.{more}
use Rattle.viz_clip.proofs.numbers.corner_numbers.Goals as goal

pub loop-is_inside-preserved : goal.loop-is_inside-preserved
loop-is_inside-preserved c =
    let i = c.loop-is_inside.is_inside-index in
    let e : 0 + i ≡ i = omega arith in
    record {
      list = grind (arith, common_steps, map-range_with_len_more (kept_rank c.args.inside.now) 0 i i e);
      count = grind (arith, common_steps, more);
    }
