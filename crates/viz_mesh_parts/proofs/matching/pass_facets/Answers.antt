use Rattle.std.proofs.Common.{arith, map, subst}
use Rattle.viz_mesh_meaning.specs.Facets.{facets_of}
use Rattle.viz_sheet.specs.Ranked.{names_at}
use Rattle.viz_mesh_parts.specs.Steps.{Passes}
use Rattle.viz_mesh_parts.proofs.MatchLemmas.{four-items, three-items}
use Rattle.viz_mesh_parts.proofs.matching.pass_facets.Goals as goal

pub returns-in-len3-clause-value : goal.returns-in-len3-clause-value
returns-in-len3-clause-value c =
    subst (λ cell. Passes c.args.made.now.cells c.args.at (map (names_at c.args.sheet.now.names) (facets_of cell)) c.pass_three.result)
    (three-items c.args.cell.now (omega (arith, c.in-len3.len_at_least)) (omega (arith, c.in-len3.len_below))) c.pass_three.ensures.value

pub returns-in-len4-clause-value : goal.returns-in-len4-clause-value
returns-in-len4-clause-value c =
    subst (λ cell. Passes c.args.made.now.cells c.args.at (map (names_at c.args.sheet.now.names) (facets_of cell)) c.pass_four.result)
    (four-items c.args.cell.now (omega (arith, c.in-len4.len_at_least)) (omega (arith, c.in-len4.len_below))) c.pass_four.ensures.value
