use Rattle.std.proofs.Common.{ap, ◌∙◌, sym, subst}
use Rattle.viz_extent.specs.Parts.{rate_of}
use Rattle.viz_dataset.specs.Images.{Vector, IsSpacing}
use Rattle.viz_meaning.specs.ImageFilters.{wider_steps}
use Rattle.viz_image_tests.proofs.image_ops.are_longer_steps.Goals as goal

pub wider-requires : goal.wider-requires
wider-requires c = record {
  rate = c.requires;
  steps = subst (λ (v : Vector). IsSpacing v) (sym c.spacing.ensures.value) c.spacing.ensures.valid.spacing;
}

pub returns : goal.returns
returns c = λ holds.
    subst (λ (v : Vector). IsSpacing v) (c.wider.ensures ∙ ap (wider_steps (rate_of c.args.rate)) c.spacing.ensures.value) (c.is_spacing.ensures.value.0 holds)
