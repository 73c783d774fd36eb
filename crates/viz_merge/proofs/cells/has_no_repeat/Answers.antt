use Rattle.std.proofs.Common.{◌≤◌, arith, length}
use Rattle.viz_merge.proofs.RepeatLemmas.{few-differ}
use Rattle.viz_merge.proofs.cells.has_no_repeat.Goals as goal

pub returns-in_default : goal.returns-in_default
returns-in_default c =
    let few : length c.args.leaves.now ≤ 1 = omega (arith, c.in_default.len_below) in
    few-differ c.args.leaves.now few
