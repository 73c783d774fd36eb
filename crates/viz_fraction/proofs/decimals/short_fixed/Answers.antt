use Rattle.std.proofs.Common.{◌≡◌, ℕ, ℤ, pos, ◌^◌, ap, ◌∙◌, rules}
use Rattle.std.specs.Prelude.{◌*ℤ◌}
use Rattle.std.specs.Int.{w64, int_div_euclid}
use Rattle.std.proofs.lemmas.Int.{to_z-of_z}
use Rattle.viz_fraction.specs.Decimals.{fixed_of}
use Rattle.viz_fraction.proofs.decimals.short_fixed.Goals as goal

made : (n w product given q : ℤ) (k : ℕ) → q ≡ int_div_euclid given w → given ≡ product → product ≡ n *ℤ pos (10 ^ k) → q ≡ fixed_of n w k
unfolding fixed_of
made n w product given q k is same places = is ∙ ap (λ z. int_div_euclid z w) (same ∙ places)

pub returns : goal.returns
returns c =
    let product = c.in_ok-product.product in
    to_z-of_z w64 c.quotient_down.result (search rules)
    ∙ made c.args.n.now c.args.w.now product _ c.quotient_down.result c.args.k c.quotient_down.ensures (to_z-of_z w64 product (search rules)) c.in_ok-product.ensures
