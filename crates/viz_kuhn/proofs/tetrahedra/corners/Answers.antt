use Rattle.std.proofs.Common.{◌≡◌, arith}
use Rattle.viz_kuhn.specs.declared.tetrahedra.TheConstants.{CORNERS}
use Rattle.viz_kuhn.proofs.StandardFacts.{corners_match}
use Rattle.viz_kuhn.proofs.RowLemmas.{corners-in_table}
use Rattle.viz_kuhn.proofs.tetrahedra.corners.Goals as goal

pub returns-clause-value : goal.returns-clause-value
returns-clause-value c =
    let p_is : c.from.result ≡ c.args.p = omega arith in
    rw p_is (corners-in_table CORNERS corners_match c.args.p c.requires)
