use Rattle.std.proofs.Common.{◌≡◌, ◌^◌, ap, ap₂, ◌∙◌, rules, arith}
use Rattle.std.specs.Prelude.{◌*ℤ◌}
use Rattle.std.proofs.lemmas.Int.{ints, to_z-of_z, fits_signed_mul}
use Rattle.std.specs.Int.{w128}
use Rattle.viz_fraction.proofs.FieldsLemmas.{kept}
use Rattle.viz_fraction.proofs.PlacesLemmas.{floor_at_least}
use Rattle.viz_fraction.proofs.places.is_at_least.Goals as goal

pub returns-then-is_word : goal.returns-then-is_word
returns-then-is_word c =
    let k = c.args.whole.now in
    let w = c.args.w.now in
    let whole : kept (kept k *ℤ kept w) ≡ k *ℤ w =
    ap kept (ap₂ (λ a b. a *ℤ b) (to_z-of_z w128 k (search rules)) (to_z-of_z w128 w (search rules)))
    ∙ to_z-of_z w128 (k *ℤ w) (fits_signed_mul w128 k w (2 ^ 63) (2 ^ 63) c.requires.word (omega (arith, ints)) (omega arith)) in
    rw whole at c.is_in_order.ensures

pub returns : goal.returns
returns c =
    let same = floor_at_least c.args.n.now c.args.w.now c.floor.result c.args.whole.now c.requires.positive c.floor.ensures in
    let floor = to_z-of_z w128 c.floor.result (search rules) in
    let order = rw floor at c.is_in_order-2.ensures in
    (λ yes. same.0 (order.0 yes), λ least. order.1 (same.1 least))
