use Rattle.std.proofs.Common.{rules}
use Rattle.std.proofs.lemmas.Int.{to_z-of_z}
use Rattle.std.specs.Int.{w64}
use Rattle.viz_contour.proofs.EndLemmas.{short_is_narrow, on_some}
use Rattle.viz_contour.proofs.small_ends.crossing_from.Goals as goal

pub returns-clause-narrow : goal.returns-clause-narrow
returns-clause-narrow c =
    let la = to_z-of_z w64 c.args.la.now (search rules) in
    let lb = to_z-of_z w64 c.args.lb.now (search rules) in
    on_some c.small_crossing.result (λ some. short_is_narrow _ _ _ _ _ _ la lb (c.small_crossing.ensures.some.0 some))
