use Rattle.std.proofs.Common.{◌≡◌, Some, Ok, sym, ap, subst, ◌∙◌}
use Rattle.viz_dataset.specs.declared.dataset.Dataset.TheVariants.{Image}
use Rattle.viz_extent.specs.Parts.{rate_of}
use Rattle.viz_meaning.specs.ImageFilters.{sample_of}
use Rattle.viz_node_meaning.specs.Information.{thinned}
use Rattle.viz_node_rules.specs.Steps.Made.{IsFromOne}
use Rattle.viz_node_rules.proofs.FilterLemmas.{image_grid, one_made, thinned_is, sampled_is}
use Rattle.viz_node_rules.proofs.filters.sample_input.Goals as goal

pub sample-requires-clause-within : goal.sample-requires-clause-within
sample-requires-clause-within c =
    let rate = rate_of c.args.rate in
    let i = c.in_ok-image.image.now in
    let g = c.in_ok-grid.grid in
    let e : thinned rate (image_grid i) ≡ Ok g = ap (thinned rate) (sym c.grid_of_image.ensures.value) ∙ sym c.thinned.ensures ∙ c.in_ok-grid.was in
    (sampled_is rate i g c.requires c.grid_of_image.ensures.valid e).part

pub sample-requires-clause-steps : goal.sample-requires-clause-steps
sample-requires-clause-steps c =
    let rate = rate_of c.args.rate in
    let i = c.in_ok-image.image.now in
    let g = c.in_ok-grid.grid in
    let e : thinned rate (image_grid i) ≡ Ok g = ap (thinned rate) (sym c.grid_of_image.ensures.value) ∙ sym c.thinned.ensures ∙ c.in_ok-grid.was in
    (sampled_is rate i g c.requires c.grid_of_image.ensures.valid e).steps

pub returns-clause-value : goal.returns-clause-value
returns-clause-value c =
    let rate = rate_of c.args.rate in
    let i = c.in_ok-image.image.now in
    let g = c.in_ok-grid.grid in
    let o = c.in_ok-sample.field-0 in
    let e : thinned rate (image_grid i) ≡ Ok g = ap (thinned rate) (sym c.grid_of_image.ensures.value) ∙ sym c.thinned.ensures ∙ c.in_ok-grid.was in
    subst (λ d. IsFromOne (thinned rate) (sample_of rate) d (Ok c.whole_image.result)) (sym c.in_ok-image.ensures.value)
    (subst (λ r. IsFromOne (thinned rate) (sample_of rate) (Some (Image i)) (Ok r)) (sym c.whole_image.ensures.value)
    (one_made (thinned rate) (sample_of rate) i o g c.grid_of_image.ensures.valid e (thinned_is rate (image_grid i) g e).extent c.in_ok-sample.ensures.value))
