use Rattle.std.proofs.Common.{pos, ap, ap₂, ◌∙◌}
use Rattle.std.specs.Int.{w64}
use Rattle.std.proofs.lemmas.Int.{to_z-of_z}
use Rattle.viz_fraction.specs.Crossings.{outside_weight, inside_weight}
use Rattle.viz_fraction.specs.Words.{numbers_of, weights_of}
use Rattle.viz_fraction.proofs.ShortLemmas.{short_crossing}
use Rattle.viz_fraction.proofs.small_crossings.small_crossing.Goals as goal

pub returns-clause-some : goal.returns-clause-some
returns-clause-some c =
    let la = to_z-of_z w64 c.args.la c.ranges.la in
    let lb = to_z-of_z w64 c.args.lb c.ranges.lb in
    let outside = ap pos (c.shares_of.ensures.outside ∙ ap₂ outside_weight la lb) in
    let inside = ap pos (c.shares_of.ensures.inside ∙ ap₂ inside_weight la lb) in
    let same = short_crossing (weights_of c.shares_of.result) (numbers_of c.words.result) (numbers_of c.words-2.result) c.args.la c.args.a.now c.args.lb c.args.b.now outside inside c.words.ensures.value c.words-2.ensures.value in
    (λ some. same.0 (c.small_crossing_at.ensures.some.0 some), λ short. c.small_crossing_at.ensures.some.1 (same.1 short))
