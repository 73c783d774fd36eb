use Rattle.std.proofs.Common.{◌≡◌, ◌*◌, ◌++◌, ℕ, ℤ, List, pos, map, get_or, ap, ◌∙◌, subst, arith}
use Rattle.viz_column.specs.Kinds.{fits}
use Rattle.viz_extent.specs.Numbering.{index_at}
use Rattle.viz_extent.specs.Parts.{grown}
use Rattle.viz_meaning.specs.ImageFilters.{mean_on, box_round}
use Rattle.viz_image_ops.specs.declared.window.Axes.{Axes}
use Rattle.viz_image_ops.specs.Joined.{values_on}
use Rattle.viz_image_ops.specs.Sums.{IsWithin, place_mean, round_axes, reach_below, reach_above}
use Rattle.viz_image_ops.proofs.KeptLemmas.{passes_at, with_kind}
use Rattle.viz_image_ops.proofs.MeanLemmas.{within_fits}
use Rattle.viz_image_ops.proofs.SmoothLemmas.{values_same, place_mean_is}
use Rattle.viz_image_ops.proofs.smoothing.means_column.Goals as goal

pub push_planes-requires-clause-range : goal.push_planes-requires-clause-range
push_planes-requires-clause-range g c = λ p below.
    let kind = g.T.Number.kind in
    let xs = map g.T.Number.value c.args.numbers.now in
    let low : reach_below kind ≡ 1 * reach_below kind = omega arith in
    let high : reach_above kind ≡ 1 * reach_above kind = omega arith in
    subst (λ (b : ℕ). IsWithin b (1 * reach_above kind) (get_or xs p (pos 0))) low
    (subst (λ (a : ℕ). IsWithin (reach_below kind) a (get_or xs p (pos 0))) high
    (within_fits kind (get_or xs p (pos 0)) (passes_at (fits kind) xs p c.requires.own below)))

pub returns : goal.returns
returns g c =
    let value = g.T.Number.value in
    let xs = map value c.args.numbers.now in
    let radius = c.args.radius in
    let whole = c.args.whole.now in
    let out = c.args.out.now in
    let none = ap (map value) c.in_ok-means.ensures.items in
    let items = c.in_ok-push_planes.ensures
    ∙ ap (λ (old : List ℤ). old ++ values_on (place_mean xs c.axes_of-axes.result) out) none
    ∙ ap (λ (a : Axes). values_on (place_mean xs a) out) c.axes_of-axes.ensures.value
    ∙ values_same (place_mean xs (round_axes radius whole out)) (λ i j k. mean_on (λ i j k. get_or xs (index_at (grown radius whole out) i j k) (pos 0)) (box_round radius whole i j k)) out
    c.axes_of-axes.ensures.valid (λ i j k has. place_mean_is xs radius whole out i j k c.requires.whole c.axes_of-axes.ensures.valid has) in
    c.of.ensures.value ∙ ap (λ (ys : List ℤ). with_kind g.T.Number.kind ys) items
