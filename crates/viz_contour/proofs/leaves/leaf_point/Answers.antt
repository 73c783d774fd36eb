use Rattle.std.proofs.Common.{◌^◌, ◌≤◌, sym, subst, ◌∙◌}
use Rattle.std.specs.Prelude.{unsigned_abs}
use Rattle.viz_fraction.specs.Points.{Point}
use Rattle.viz_grid_section.proofs.LeafLemmas.{point-leaf, scalar_small, weight_small}
use Rattle.viz_contour.proofs.leaves.leaf_point.Goals as goal

pub returns-clause-value : goal.returns-clause-value
returns-clause-value c =
    let at = c.place_of-i.result in
    c.point_of.ensures
    ∙ point-leaf c.args.image.now c.extent.result at.0 at.1 at.2 c.args.leaf c.extent.ensures.value c.place_of-i.ensures.has (c.place_of-i.ensures.number ∙ c.from.ensures)

pub returns-clause-scalar : goal.returns-clause-scalar
returns-clause-scalar c =
    let P : Point → Type 0 = λ p. unsigned_abs p.s ≤ 2 ^ 96 in
    subst P (sym (returns-clause-value c)) (scalar_small c.args.image.now c.args.leaf c.extent.ensures.valid c.requires.within)

pub returns-clause-weight : goal.returns-clause-weight
returns-clause-weight c =
    let P : Point → Type 0 = λ p. unsigned_abs p.w ≤ 2 ^ 32 in
    subst P (sym (returns-clause-value c)) (weight_small c.args.image.now c.args.leaf)
