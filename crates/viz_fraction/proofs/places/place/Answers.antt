use Rattle.std.proofs.Common.{ap, ◌∙◌, rules}
use Rattle.std.proofs.lemmas.Int.{to_z-of_z}
use Rattle.std.specs.Int.{w128}
use Rattle.viz_fraction.specs.Points.{reduced}
use Rattle.viz_fraction.proofs.PlacesLemmas.{bare, four, four_are, place-bare}
use Rattle.viz_fraction.proofs.places.place.Goals as goal

pub returns : goal.returns
returns c =
    record {
      value =
          four_are _ _ _ _ c.without_scalar-bare.result
          (to_z-of_z w128 c.x.result (search rules) ∙ c.x.ensures.value)
          (to_z-of_z w128 c.y.result (search rules) ∙ c.y.ensures.value)
          (to_z-of_z w128 c.z.result (search rules) ∙ c.z.ensures.value)
          (to_z-of_z w128 c.w.result (search rules) ∙ c.w.ensures.value)
          ∙ ap four c.without_scalar-bare.ensures
          ∙ ap (λ p. four (reduced (bare p))) c.numbers.ensures.value
          ∙ place-bare c.args.p.now;
    }
