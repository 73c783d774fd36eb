use Rattle.std.proofs.Common.{◌≡◌, Some, Ok, sym, ap, subst, ◌∙◌}
use Rattle.viz_dataset.specs.declared.dataset.Dataset.TheVariants.{Image}
use Rattle.viz_extent.specs.Parts.{IsPart, grown}
use Rattle.viz_meaning.specs.ImageFilters.{smooth_of, smooth_within}
use Rattle.viz_meaning.specs.WholeImages.{whole_of, IsOn}
use Rattle.viz_image_ops.proofs.PartLemmas.{on_itself}
use Rattle.viz_node_meaning.specs.Data.{radius_with}
use Rattle.viz_node_rules.specs.Steps.Made.{IsFromOne}
use Rattle.viz_node_rules.proofs.FilterLemmas.{one_on, own_part, grown_part}
use Rattle.viz_node_rules.proofs.filters.smooth_input.Goals as goal

pub smooth-requires-clause-whole : goal.smooth-requires-clause-whole
smooth-requires-clause-whole c = own_part c.extent-whole.result

pub smooth-requires-clause-within : goal.smooth-requires-clause-within
smooth-requires-clause-within c =
    subst (λ b. IsPart b (grown c.radius_with.result c.extent-whole.result c.extent-whole.result)) c.extent-whole.ensures.value (grown_part c.radius_with.result c.extent-whole.result)

pub returns-clause-value : goal.returns-clause-value
returns-clause-value c =
    let i = c.in_ok-image.image.now in
    let o = c.in_ok-smooth.field-0 in
    let whole = c.extent-whole.result in
    let same = c.extent-whole.ensures.value in
    let filter = smooth_of (radius_with c.args.radius) in
    let on = c.in_ok-smooth.ensures.value (whole_of i) (on_itself i c.extent-whole.ensures.valid) in
    let on-whole = subst (λ b. IsOn (smooth_within c.radius_with.result b (whole_of i)) whole o) same on in
    let on-radius = subst (λ r. IsOn (smooth_within r i.extent (whole_of i)) whole o) c.radius_with.ensures.value on-whole in
    subst (λ d. IsFromOne (λ g. Ok g) filter d (Ok c.whole_image.result)) (sym c.in_ok-image.ensures.value)
    (subst (λ r. IsFromOne (λ g. Ok g) filter (Some (Image i)) (Ok r)) (sym c.whole_image.ensures.value)
    (one_on filter i o whole (sym same) on-radius))
