use Rattle.std.proofs.Common.{◌≡◌, pos, ap, ◌∙◌, rules, arith}
use Rattle.std.specs.Prelude.{◌-ℤ◌}
use Rattle.std.proofs.lemmas.Int.{ints, to_z-of_z}
use Rattle.std.specs.Int.{w128}
use Rattle.viz_fraction.proofs.FieldsLemmas.{kept}
use Rattle.viz_fraction.proofs.PlacesLemmas.{neg_order}
use Rattle.viz_fraction.proofs.places.is_at_most.Goals as goal

pub returns : goal.returns
returns c =
    let n = c.args.n.now in
    let k = c.args.whole.now in
    let turned_n : kept (pos 0 -ℤ kept n) ≡ pos 0 -ℤ n =
    ap (λ z. kept (pos 0 -ℤ z)) (to_z-of_z w128 n (search rules)) ∙ to_z-of_z w128 (pos 0 -ℤ n) (omega (arith, ints)) in
    let turned_k : kept (pos 0 -ℤ kept k) ≡ pos 0 -ℤ k =
    ap (λ z. kept (pos 0 -ℤ z)) (to_z-of_z w128 k (search rules)) ∙ to_z-of_z w128 (pos 0 -ℤ k) (omega (arith, ints)) in
    let least = rw (turned_n, turned_k) at c.is_at_least.ensures in
    let order = neg_order k c.args.w.now n in
    (λ yes. order.0 (least.0 yes), λ most. least.1 (order.1 most))
