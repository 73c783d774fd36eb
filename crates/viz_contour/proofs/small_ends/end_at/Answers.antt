use Rattle.std.proofs.Common.{ap, ◌∙◌, rules}
use Rattle.std.specs.Prelude.{◌-ℤ◌}
use Rattle.std.specs.Int.{w64}
use Rattle.std.proofs.lemmas.Int.{to_z-of_z}
use Rattle.viz_contour.proofs.EndLemmas.{small_above}
use Rattle.viz_contour.proofs.small_ends.end_at.Goals as goal

pub returns-clause-end : goal.returns-clause-end
returns-clause-end c =
    let level = c.args.level.now in
    let scalar = to_z-of_z w64 c.in_ok-scalar.scalar (search rules) in
    let above = to_z-of_z w64 c.in_ok-above.above (search rules) ∙ c.in_ok-above.ensures ∙ ap (λ n. n -ℤ level) scalar in
    let at = c.small_leaf_point-point.ensures in
    record {
      point = at.value;
      above = small_above _ _ level c.small_leaf_point-point.result _ above (at.scalar ∙ scalar) at.weight at.value;
    }
