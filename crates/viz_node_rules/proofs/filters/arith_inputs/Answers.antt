use Rattle.std.proofs.Common.{◌≡◌, Some, Ok, sym, ap, subst, ◌∙◌}
use Rattle.std.specs.Option.{option_copied}
use Rattle.viz_dataset.specs.declared.dataset.Dataset.TheVariants.{Image}
use Rattle.viz_meaning.specs.ImageFilters.{arith_of}
use Rattle.viz_meaning.specs.WholeImages.{GivesOnBoth}
use Rattle.viz_node_meaning.specs.Data.{op_with}
use Rattle.viz_node_meaning.specs.Information.{shared_grid}
use Rattle.viz_node_rules.specs.Steps.Made.{IsFromTwo}
use Rattle.viz_node_rules.proofs.FilterLemmas.{image_grid, two_made, two_parts}
use Rattle.viz_node_rules.proofs.filters.arith_inputs.Goals as goal

pub arith-requires-clause-first : goal.arith-requires-clause-first
arith-requires-clause-first c =
    let a = c.in_ok-a.a.now in
    let b = c.in_ok-b.b.now in
    let g = c.in_ok-grid.grid in
    let e : shared_grid (image_grid a) (image_grid b) ≡ Ok g =
    ap (λ h. shared_grid h (image_grid b)) (sym c.grid_of_image.ensures.value) ∙ ap (shared_grid c.grid_of_image.result) (sym c.grid_of_image-2.ensures.value) ∙ sym c.shared_grid.ensures ∙ c.in_ok-grid.was in
    (two_parts a b g e).0

pub arith-requires-clause-second : goal.arith-requires-clause-second
arith-requires-clause-second c =
    let a = c.in_ok-a.a.now in
    let b = c.in_ok-b.b.now in
    let g = c.in_ok-grid.grid in
    let e : shared_grid (image_grid a) (image_grid b) ≡ Ok g =
    ap (λ h. shared_grid h (image_grid b)) (sym c.grid_of_image.ensures.value) ∙ ap (shared_grid c.grid_of_image.result) (sym c.grid_of_image-2.ensures.value) ∙ sym c.shared_grid.ensures ∙ c.in_ok-grid.was in
    (two_parts a b g e).1

pub returns-clause-value : goal.returns-clause-value
returns-clause-value c =
    let a = c.in_ok-a.a.now in
    let b = c.in_ok-b.b.now in
    let g = c.in_ok-grid.grid in
    let o = c.in_ok-arith.field-0 in
    let op = op_with c.args.op in
    let e : shared_grid (image_grid a) (image_grid b) ≡ Ok g =
    ap (λ h. shared_grid h (image_grid b)) (sym c.grid_of_image.ensures.value) ∙ ap (shared_grid c.grid_of_image.result) (sym c.grid_of_image-2.ensures.value) ∙ sym c.shared_grid.ensures ∙ c.in_ok-grid.was in
    let gives = subst (λ p. GivesOnBoth (arith_of p) a b g.extent o) c.op_with.ensures.value c.in_ok-arith.ensures.value in
    subst (λ d. IsFromTwo (arith_of op) d (option_copied c.args.second) (Ok c.whole_image.result)) (sym c.in_ok-a.ensures.value)
    (subst (λ d. IsFromTwo (arith_of op) (Some (Image a)) d (Ok c.whole_image.result)) (sym c.in_ok-b.ensures.value)
    (subst (λ r. IsFromTwo (arith_of op) (Some (Image a)) (Some (Image b)) (Ok r)) (sym c.whole_image.ensures.value)
    (two_made op a b o g c.grid_of_image.ensures.valid c.grid_of_image-2.ensures.valid e gives)))
