use Rattle.std.proofs.Common.{◌<◌, ◌≤◌, [], length, subst, arith, rules}
use Rattle.std.proofs.lemmas.List.Elements.{All-more}
use Rattle.viz_sheet.proofs.RuleLemmas.{all_seen}
use Rattle.viz_surface_law.specs.Surfaces.{IsEdgeName}
use Rattle.viz_surface_law.proofs.surfaces.are_edge_names.Goals as goal

pub loop-rank-preserved : goal.loop-rank-preserved
loop-rank-preserved c =
    let names = c.args.sheet.now.names in
    let l : c.loop-rank.rank < length names = omega (arith, c.loop-rank-test.true, c.point_count-rank-end.ensures.value) in
    All-more (IsEdgeName c.args.count) names c.loop-rank.rank [] l c.loop-rank.invariant
    (subst (IsEdgeName c.args.count) c.name.ensures.value (c.is_edge_name.ensures.0 c.if-not-is_edge_name.false))

pub returns : goal.returns
returns c =
    let names = c.args.sheet.now.names in
    let l : length names ≤ c.loop-rank.rank = omega (arith, c.loop-rank-test.false, c.point_count-rank-end.ensures.value) in
    (λ _. all_seen (IsEdgeName c.args.count) names c.loop-rank.rank l c.loop-rank.invariant, λ _. search rules)
