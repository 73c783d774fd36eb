use Rattle.std.proofs.Common.{◌≡◌, ◌<◌, ◌∙◌, get_or, length}
use Rattle.std.proofs.lemmas.List.{get_or_default}
use Rattle.viz_sheet.specs.Arrays.{points_in}
use Rattle.viz_cells.specs.Steps.Crossings.{point_at}
use Rattle.viz_clip.proofs.MoreLemmas.{behind-more}
use Rattle.viz_clip.proofs.kept_points.push_small_corners.Goals as goal

pub loop-rank-preserved : goal.loop-rank-preserved
loop-rank-preserved c =
    let points = points_in c.args.places.now in
    let corners = c.args.corners.now in
    let i = c.loop-rank.rank-index in
    let x = get_or corners i 0 in
    let l : i < length corners = c.loop-rank-test.true in
    let e : x ≡ get_or corners i x = get_or_default corners i 0 x l in
    behind-more (point_at points) c.args.points.now.items c.loop-rank.points.items _ corners i x _ l e c.in_ok-push-in-Some.ensures.items c.loop-rank.invariant (c.in-Some.ensures.value ∙ c.corner_point.ensures)
