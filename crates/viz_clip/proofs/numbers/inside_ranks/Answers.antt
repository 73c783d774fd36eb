use Rattle.std.proofs.Common.{◌≡◌, ◌<◌, ◌≤◌, length, arith}
use Rattle.viz_clip.proofs.MoreLemmas.{kept-all, kept-more}
use Rattle.viz_clip.proofs.numbers.inside_ranks.Goals as goal

pub loop-rank-preserved : goal.loop-rank-preserved
loop-rank-preserved c =
    let inside = c.args.inside.now in
    let i = c.loop-rank.rank in
    let l : i < length inside = omega (arith, c.loop-rank-test.true) in
    kept-more inside c.loop-rank.ranks.items c.push_if.new.ranks.items i l c.in_ok-push_if.ensures c.loop-rank.invariant

pub returns : goal.returns
returns c =
    let inside = c.args.inside.now in
    let whole : length inside ≤ c.loop-rank.rank = omega (arith, c.loop-rank-test.false) in
    kept-all inside c.loop-rank.ranks.items c.loop-rank.rank whole c.loop-rank.invariant
