use Rattle.std.proofs.Common.{◌≡◌, ℤ, ap, sym, ◌∙◌, subst, rules}
use Rattle.std.proofs.lemmas.Int.{to_z-of_z}
use Rattle.std.specs.Int.{w128, int_div_euclid}
use Rattle.viz_fraction.specs.Decimals.{IsFloor}
use Rattle.viz_fraction.proofs.FieldsLemmas.{kept}
use Rattle.viz_fraction.proofs.DecimalsLemmas.{floor_is}
use Rattle.viz_fraction.proofs.decimals.floor.Goals as goal

pub returns : goal.returns
returns c =
    let n = c.args.n.now in
    let w = c.args.w.now in
    let same : kept c.div_euclid.result ≡ int_div_euclid n w =
    to_z-of_z w128 c.div_euclid.result (search rules) ∙ c.div_euclid.ensures
    ∙ ap (λ z. int_div_euclid z (kept w)) (to_z-of_z w128 n (search rules)) ∙ ap (λ z. int_div_euclid n z) (to_z-of_z w128 w (search rules)) in
    let P : ℤ → Type 0 = λ z. IsFloor n w z in
    subst P (sym same) (floor_is n w c.requires.positive)
