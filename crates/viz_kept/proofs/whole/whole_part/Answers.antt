use Rattle.std.proofs.Common.{subst, sym}
use Rattle.viz_dataset.specs.declared.dataset.Dataset.TheVariants as dataset
use Rattle.viz_parts.specs.declared.request.Part.TheVariants as part
use Rattle.viz_parts.specs.declared.request.Request.TheVariants.{Block}
use Rattle.viz_kept.specs.Whole.{IsWholePart}
use Rattle.viz_kept.proofs.WholeLemmas.{image_is_whole}
use Rattle.viz_kept.proofs.whole.whole_part.Goals as goal

pub returns-in-Image-clause-part : goal.returns-in-Image-clause-part
returns-in-Image-clause-part c =
    let image = c.in-Image.image in
    let some = c.datasets_are_divided.ensures.some in
    let only = c.divisions_share_out.ensures.only in
    let whole =
    subst (λ e. IsWholePart (dataset.Image image) (Block e) (part.Image image))
    (sym c.extent.ensures.value) (image_is_whole some only image c.extent.ensures.valid) in
    subst (λ d. IsWholePart d (Block c.extent.result) (part.Image image)) (sym c.in-Image.is) whole
