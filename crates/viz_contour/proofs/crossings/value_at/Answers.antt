use Rattle.std.proofs.Common.{ap, sym, ◌∙◌, rules}
use Rattle.std.specs.Prelude.{◌-ℤ◌, ◌*ℤ◌}
use Rattle.std.specs.Int.{w128}
use Rattle.std.proofs.lemmas.Int.{to_z-of_z}
use Rattle.viz_fraction.proofs.FieldsLemmas.{kept}
use Rattle.viz_grid_section.proofs.LeafLemmas.{value-contour}
use Rattle.viz_contour.proofs.crossings.value_at.Goals as goal

pub returns-clause-value : goal.returns-clause-value
returns-clause-value c =
    let level = c.args.level.now in
    let p = c.args.point.now in
    let s = to_z-of_z w128 c.s.result (search rules) ∙ c.s.ensures.value in
    let w = to_z-of_z w128 c.w.result (search rules) ∙ c.w.ensures.value in
    let r = to_z-of_z w128 c.weighted.result (search rules) ∙ c.weighted.ensures.value ∙ ap (λ n. level *ℤ n) w in
    to_z-of_z w128 c.above.result (search rules) ∙ c.above.ensures.value
    ∙ ap (λ n. n -ℤ kept c.weighted.result) s ∙ ap (λ n. p.s -ℤ n) r ∙ sym (value-contour level p.x p.y p.z p.s p.w)
