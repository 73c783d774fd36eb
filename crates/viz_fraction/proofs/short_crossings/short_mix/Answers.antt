use Rattle.std.proofs.Common.{ap, ap₂, sym, ◌∙◌, subst, rules, arith}
use Rattle.std.specs.Prelude.{◌+ℤ◌, FitsSigned}
use Rattle.std.specs.Int.{w64, w128}
use Rattle.std.proofs.lemmas.Int.{ints, to_z-of_z}
use Rattle.viz_fraction.specs.Mixes.{mix_of}
use Rattle.viz_fraction.proofs.FieldsLemmas.{kept}
use Rattle.viz_fraction.proofs.ShortLemmas.{mix_fits}
use Rattle.viz_fraction.proofs.short_crossings.short_mix.Goals as goal

pub returns-clause-value : goal.returns-clause-value
returns-clause-value c =
    let k = c.args.weights.now in
    let outside = to_z-of_z w128 c.from.result (search rules) ∙ c.from.ensures ∙ to_z-of_z w64 c.short_product-outside.result (search rules) ∙ c.short_product-outside.ensures in
    let inside = to_z-of_z w128 c.from-2.result (search rules) ∙ c.from-2.ensures ∙ to_z-of_z w64 c.short_product-inside.result (search rules) ∙ c.short_product-inside.ensures in
    let word : FitsSigned w64 (mix_of k c.args.a.now c.args.b.now) = mix_fits k.outside k.inside c.args.a.now c.args.b.now c.requires.near c.requires.inside c.requires.outside in
    ap kept (ap₂ (λ x y. x +ℤ y) outside inside)
    ∙ to_z-of_z w128 (mix_of k c.args.a.now c.args.b.now) (omega (arith, ints))

pub returns-clause-word : goal.returns-clause-word
returns-clause-word c =
    let k = c.args.weights.now in
    let word : FitsSigned w64 (mix_of k c.args.a.now c.args.b.now) = mix_fits k.outside k.inside c.args.a.now c.args.b.now c.requires.near c.requires.inside c.requires.outside in
    subst (FitsSigned w64) (sym (returns-clause-value c)) word
