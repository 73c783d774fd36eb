use Rattle.std.proofs.Common.{rules}
use Rattle.std.proofs.lemmas.Int.{to_z-of_z}
use Rattle.std.specs.Int.{w128}
use mir.Val.{SFits}
use Rattle.viz_clip.proofs.cut_points.crossing_from.Goals as goal

pub returns-clause-value : goal.returns-clause-value
returns-clause-value c =
    let fits_a : SFits w128 c.args.la.now = search rules in
    let fits_b : SFits w128 c.args.lb.now = search rules in
    simp to_z-of_z at c.crossing.ensures.value

pub returns-clause-succeeds : goal.returns-clause-succeeds
returns-clause-succeeds c =
    let fits_a : SFits w128 c.args.la.now = search rules in
    let fits_b : SFits w128 c.args.lb.now = search rules in
    simp to_z-of_z at c.crossing.ensures.succeeds
