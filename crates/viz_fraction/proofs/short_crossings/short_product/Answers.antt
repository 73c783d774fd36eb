use Rattle.std.proofs.Common.{ap, ap₂, ◌∙◌, rules}
use Rattle.std.specs.Prelude.{◌*ℤ◌}
use Rattle.std.specs.Int.{w64}
use Rattle.std.proofs.lemmas.Int.{to_z-of_z}
use mir.Val.{to_z, of_z}
use Rattle.viz_fraction.proofs.ShortLemmas.{product_fits}
use Rattle.viz_fraction.proofs.short_crossings.short_product.Goals as goal

pub returns : goal.returns
returns c =
    let m = to_z-of_z w64 c.as_word.result (search rules) ∙ c.as_word.ensures in
    let n = to_z-of_z w64 c.as_word-2.result (search rules) ∙ c.as_word-2.ensures in
    ap (λ z. to_z w64 (of_z w64 z)) (ap₂ (λ a b. a *ℤ b) m n)
    ∙ to_z-of_z w64 _ (product_fits c.args.m.now c.args.n.now c.requires.first c.requires.second)
