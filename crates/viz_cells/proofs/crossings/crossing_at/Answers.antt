use Rattle.std.proofs.Common.{ap, ◌∙◌}
use Rattle.viz_fraction.specs.Forms.{value_of}
use Rattle.viz_sheet.specs.Arrays.{points_in}
use Rattle.viz_cells.specs.Steps.Crossings.{point_at}
use Rattle.viz_cells.specs.Steps.Keys.{low_of, high_of}
use Rattle.viz_cells.proofs.CrossingLemmas.{either-key, narrow_either}
use Rattle.viz_cells.proofs.crossings.crossing_at.Goals as goal

pub returns-clause-value : goal.returns-clause-value
returns-clause-value c =
    let f = c.args.form.now in
    let points = points_in c.args.places.now in
    let a = c.in_ok-low.low in
    let b = c.in_ok-high.high in
    let low = c.in_ok-low.ensures.value in
    let high = c.in_ok-high.ensures.value in
    let P = point_at points in
    let same = either-key f points c.args.key a.point b.point a.above b.above
    (low.above ∙ ap (λ r. value_of f (P r)) c.low.ensures.value) (high.above ∙ ap (λ r. value_of f (P r)) c.high.ensures.value)
    (low.point ∙ ap P c.low.ensures.value) (high.point ∙ ap P c.high.ensures.value) in
    rw same at c.cross.ensures.value

pub returns-clause-succeeds : goal.returns-clause-succeeds
returns-clause-succeeds c =
    let f = c.args.form.now in
    let points = points_in c.args.places.now in
    let a = c.in_ok-low.low in
    let b = c.in_ok-high.high in
    let low = c.in_ok-low.ensures.value in
    let high = c.in_ok-high.ensures.value in
    let P = point_at points in
    let same = narrow_either f (P (low_of c.args.key)) (P (high_of c.args.key)) a.point b.point a.above b.above
    (low.above ∙ ap (λ r. value_of f (P r)) c.low.ensures.value) (high.above ∙ ap (λ r. value_of f (P r)) c.high.ensures.value)
    (low.point ∙ ap P c.low.ensures.value) (high.point ∙ ap P c.high.ensures.value) in
    (λ ok. same.0 (c.cross.ensures.succeeds.0 ok), λ narrow. c.cross.ensures.succeeds.1 (same.1 narrow))
