use Rattle.std.proofs.Common.{length, ap, ◌∙◌}
use Rattle.viz_column.specs.Numbers.{Numbers}
use Rattle.viz_extent.specs.Extent.{Bounds}
use Rattle.viz_extent.specs.Parts.{rate_of}
use Rattle.viz_dataset.specs.Images.{ImageData}
use Rattle.viz_meaning.specs.ImageFilters.{wider_steps}
use Rattle.viz_image_ops.specs.Joined.{values_on}
use Rattle.viz_image_ops.specs.Steps.{sampled_at}
use Rattle.viz_image_ops.proofs.JoinedLemmas.{length-values_on}
use Rattle.viz_image_ops.proofs.SampleLemmas.{sampled-on}
use Rattle.viz_image_ops.proofs.sampling.sample.Goals as goal

pub new-requires-clause-count : goal.new-requires-clause-count
new-requires-clause-count c =
    ap (λ (n : Numbers). length n.items) c.in_ok-column.ensures
    ∙ length-values_on (sampled_at c.column.result.now.items c.extent.result (rate_of c.args.rate)) c.args.out.now

pub returns : goal.returns
returns c =
    let input = c.args.input.now in
    let out = c.args.out.now in
    let rate = rate_of c.args.rate in
    let made = c.new.ensures.value in
    let items = ap (λ (i : ImageData). i.values.items) made ∙ ap (λ (n : Numbers). n.items) c.in_ok-column.ensures
    ∙ ap (λ (n : Numbers). values_on (sampled_at n.items c.extent.result rate) out) c.column.ensures.value
    ∙ ap (λ (e : Bounds). values_on (sampled_at input.values.items e rate) out) c.extent.ensures.value in
    record {
      value =
          sampled-on rate input c.new.result out c.requires.rate c.requires.within (ap (λ (i : ImageData). i.extent) made)
          (ap (λ (i : ImageData). i.origin) made ∙ c.origin.ensures.value)
          (ap (λ (i : ImageData). i.spacing) made ∙ c.wider-spacing.ensures ∙ ap (wider_steps rate) c.spacing.ensures.value)
          (ap (λ (i : ImageData). i.values.kind) made ∙ ap (λ (n : Numbers). n.kind) c.in_ok-column.ensures
          ∙ ap (λ (n : Numbers). n.kind) c.column.ensures.value) items c.new.ensures.valid;
    }
