use Rattle.std.proofs.Common.{◌≡◌, Some, Ok, sym, ap, subst, ◌∙◌}
use Rattle.std.specs.Option.{option_copied}
use Rattle.viz_dataset.specs.declared.dataset.Dataset.TheVariants.{Image}
use Rattle.viz_extent.specs.Extent.{bounds_of}
use Rattle.viz_meaning.specs.ImageFilters.{crop_of}
use Rattle.viz_node_meaning.specs.Information.{cropped}
use Rattle.viz_node_rules.specs.Steps.Made.{IsFromOne}
use Rattle.viz_node_rules.proofs.FilterLemmas.{image_grid, one_made, crop_extent}
use Rattle.viz_node_rules.proofs.filters.crop_input.Goals as goal

pub returns-clause-value : goal.returns-clause-value
returns-clause-value c =
    let box = bounds_of c.args.bounds in
    let i = c.in_ok-image.image.now in
    let g = c.in_ok-grid.grid in
    let o = c.in_ok-crop.field-0 in
    let e : cropped box (image_grid i) ≡ Ok g = ap (cropped box) (sym c.grid_of_image.ensures.value) ∙ sym c.cropped.ensures ∙ c.in_ok-grid.was in
    subst (λ d. IsFromOne (cropped box) (crop_of box) d (Ok c.whole_image.result)) (sym c.in_ok-image.ensures.value)
    (subst (λ r. IsFromOne (cropped box) (crop_of box) (Some (Image i)) (Ok r)) (sym c.whole_image.ensures.value)
    (one_made (cropped box) (crop_of box) i o g c.grid_of_image.ensures.valid e (crop_extent box (image_grid i) g e) (c.in_ok-crop.ensures.value box)))
