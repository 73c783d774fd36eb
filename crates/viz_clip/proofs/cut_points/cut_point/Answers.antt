use Rattle.std.proofs.Common.{ap, ◌∙◌}
use Rattle.viz_sheet.specs.Arrays.{points_in}
use Rattle.viz_cells.specs.Steps.Crossings.{point_at}
use Rattle.viz_clip.specs.Steps.Cuts.{value_at}
use Rattle.viz_clip.proofs.CutLemmas.{cut-by}
use Rattle.viz_clip.proofs.cut_points.cut_point.Goals as goal

pub returns-clause-value : goal.returns-clause-value
returns-clause-value c =
    let values = c.args.values.now in
    let points = points_in c.args.places.now in
    let a = c.end_at-low.result in
    let b = c.end_at-high.result in
    let low = c.end_at-low.ensures.value in
    let high = c.end_at-high.ensures.value in
    let same = cut-by values points c.args.key a.point b.point a.above b.above
    (low.above ∙ ap (value_at values) c.low.ensures.value) (high.above ∙ ap (value_at values) c.high.ensures.value)
    (low.point ∙ ap (point_at points) c.low.ensures.value) (high.point ∙ ap (point_at points) c.high.ensures.value) in
    rw same at c.cross.ensures.value
