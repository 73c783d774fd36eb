use Rattle.std.proofs.Common.{ap₂, sym, ◌∙◌, subst, rules}
use Rattle.std.specs.Prelude.{◌+ℤ◌, FitsSigned}
use Rattle.std.specs.Int.{w64}
use Rattle.std.proofs.lemmas.Int.{to_z-of_z}
use mir.Val.{to_z, of_z}
use Rattle.viz_fraction.specs.Words.{weights_of}
use Rattle.viz_fraction.proofs.ShortLemmas.{mix_fits}
use Rattle.viz_fraction.proofs.small_crossings.mixed_word.Goals as goal

pub overflow_add-result : goal.overflow_add-result
overflow_add-result c =
    let k = weights_of c.args.shares.now in
    let outside = to_z-of_z w64 c.word_product-outside.result (search rules) ∙ c.word_product-outside.ensures in
    let inside = to_z-of_z w64 c.word_product-inside.result (search rules) ∙ c.word_product-inside.ensures in
    subst (FitsSigned w64) (sym (ap₂ (λ x y. x +ℤ y) outside inside))
    (mix_fits k.outside k.inside c.args.a.now c.args.b.now c.requires.near c.requires.inside c.requires.outside)

pub returns : goal.returns
returns c =
    let k = weights_of c.args.shares.now in
    let outside = to_z-of_z w64 c.word_product-outside.result (search rules) ∙ c.word_product-outside.ensures in
    let inside = to_z-of_z w64 c.word_product-inside.result (search rules) ∙ c.word_product-inside.ensures in
    let fits = mix_fits k.outside k.inside c.args.a.now c.args.b.now c.requires.near c.requires.inside c.requires.outside in
    ap₂ (λ x y. to_z w64 (of_z w64 (x +ℤ y))) outside inside ∙ to_z-of_z w64 _ fits
