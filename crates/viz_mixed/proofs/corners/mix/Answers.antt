use Rattle.std.proofs.Common.{◌-◌, ◌^◌, ◌<◌, ap, ap₂, arith, max, min, ◌∙◌}
use Rattle.std.specs.Int.{bit_not, w64}
use Rattle.std.proofs.lemmas.Nat.Bits.{bit_at_and, bit_at_not}
use Rattle.viz_mixed.proofs.MixLemmas.{mixed-bits}
use Rattle.viz_mixed.proofs.corners.mix.Goals as goal

pub returns : goal.returns
returns c t l =
    let each = c.all-each.result in
    let below : each < 2 ^ 64 = omega arith in
    bit_at_and c.some-one.result (bit_not w64 each) t
    ∙ ap₂ min
    (c.some-one.ensures t ∙ ap₂ max (c.some-3.ensures t ∙ ap₂ max (c.some.ensures t) (c.some-2.ensures t)) (c.some-6.ensures t ∙ ap₂ max (c.some-4.ensures t) (c.some-5.ensures t)))
    (bit_at_not w64 each t below l
    ∙ ap (λ k. 1 - k)
    (c.all-each.ensures t ∙ ap₂ min (c.all-3.ensures t ∙ ap₂ min (c.all.ensures t) (c.all-2.ensures t)) (c.all-6.ensures t ∙ ap₂ min (c.all-4.ensures t) (c.all-5.ensures t))))
    ∙ mixed-bits c.args.a c.args.b c.args.c c.args.d c.args.e c.args.f c.args.g c.args.h t
