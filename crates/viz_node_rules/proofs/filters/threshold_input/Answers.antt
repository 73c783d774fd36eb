use Rattle.std.proofs.Common.{◌≡◌, Some, Ok, refl, sym, ap, subst, ◌∙◌}
use Rattle.viz_dataset.specs.declared.dataset.Dataset.TheVariants.{Image}
use Rattle.viz_extent.specs.Parts.{IsPart}
use Rattle.viz_meaning.specs.ImageFilters.{threshold_of}
use Rattle.viz_meaning.specs.WholeImages.{whole_of}
use Rattle.viz_image_ops.proofs.PartLemmas.{on_itself}
use Rattle.viz_node_rules.specs.Steps.Made.{IsFromOne}
use Rattle.viz_node_rules.proofs.FilterLemmas.{one_on, own_part}
use Rattle.viz_node_rules.proofs.filters.threshold_input.Goals as goal

pub threshold-requires : goal.threshold-requires
threshold-requires c = record { within = subst (IsPart c.in_ok-image.image.now.extent) (sym c.extent.ensures.value) (own_part c.in_ok-image.image.now.extent) }

pub returns-clause-value : goal.returns-clause-value
returns-clause-value c =
    let i = c.in_ok-image.image.now in
    let o = c.in_ok-threshold.field-0 in
    let filter = threshold_of c.args.lo.now c.args.hi.now in
    subst (λ d. IsFromOne (λ g. Ok g) filter d (Ok c.whole_image.result)) (sym c.in_ok-image.ensures.value)
    (subst (λ r. IsFromOne (λ g. Ok g) filter (Some (Image i)) (Ok r)) (sym c.whole_image.ensures.value)
    (one_on filter i o c.extent.result (sym c.extent.ensures.value) (c.in_ok-threshold.ensures.value (whole_of i) (on_itself i c.extent.ensures.valid))))
