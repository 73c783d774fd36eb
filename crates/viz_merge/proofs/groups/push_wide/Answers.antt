use Rattle.std.proofs.Common.{◌<◌, arith, length}
use Rattle.viz_sheet.specs.Arrays.{points_in}
use Rattle.viz_merge.proofs.PassLemmas.{one-kept}
use Rattle.viz_merge.proofs.groups.push_wide.Goals as goal

pub loop-rank-preserved : goal.loop-rank-preserved
loop-rank-preserved c =
    let ps = points_in c.args.places.now in
    let below : c.loop-rank.rank < length ps = omega (arith, c.loop-rank-test.true, c.len-rank-end.ensures.value) in
    one-kept c.args.marks.now c.args.at ps c.loop-rank.rank c.get.result c.args.points.now.items c.loop-rank.points.items c.push_if_wide.new.points.items c.requires.room below c.get.ensures.value c.loop-rank.invariant c.in_ok-push_if_wide.ensures
