use Rattle.std.proofs.Common.{◌∙◌, rules}
use Rattle.std.proofs.lemmas.Int.{to_z-of_z}
use Rattle.std.specs.Int.{w64, w128}
use Rattle.viz_fraction.proofs.places.within.Goals as goal

pub returns : goal.returns
returns c =
    let lo = to_z-of_z w128 c.from.result (search rules) ∙ c.from.ensures ∙ to_z-of_z w64 c.args.lo c.ranges.lo in
    let hi = to_z-of_z w128 c.from-2.result (search rules) ∙ c.from-2.ensures ∙ to_z-of_z w64 c.args.hi c.ranges.hi in
    record { value = rw (lo, hi, c.numbers.ensures.value) at c.is_within.ensures }
