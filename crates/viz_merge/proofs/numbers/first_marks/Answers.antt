use Rattle.std.proofs.Common.{◌≡◌, ◌+◌, arith, get_or, nat_eq}
use Rattle.std.proofs.lemmas.Grind.{common_steps}
use Rattle.std.proofs.lemmas.List.FromFn.{map-range_with_len_more}
use Rattle.viz_merge.proofs.numbers.first_marks.Goals as goal

pub loop-j-preserved : goal.loop-j-preserved
loop-j-preserved c =
    let e : 0 + c.loop-j.j ≡ c.loop-j.j = omega arith in
    grind (arith, common_steps, map-range_with_len_more (λ j. nat_eq (get_or c.args.leads.now j 0) j) 0 c.loop-j.j c.loop-j.j e)
