use Rattle.std.specs.List.{flat_map}
use Rattle.viz_grid_section.specs.Edges.{edges_of}
use Rattle.viz_grid_section.proofs.EdgeRanks.{rank-at}
use Rattle.viz_grid_section.proofs.EdgeSets.{sorted-from_ascending, ascending-from_sorted, sorted-each_once, in-each_once, of-each_once}
use Rattle.viz_grid_section.proofs.laws.edges_are_a_set.Goals as goal

pub returns-clause-ascending : goal.returns-clause-ascending
returns-clause-ascending c cells = ascending-from_sorted (edges_of cells) (sorted-each_once (flat_map (λ cell. cell) cells))

pub returns-clause-members : goal.returns-clause-members
returns-clause-members c cells n = (of-each_once (flat_map (λ cell. cell) cells) n, in-each_once (flat_map (λ cell. cell) cells) n)

pub returns-clause-rank : goal.returns-clause-rank
returns-clause-rank c edges i d ascending below = rank-at edges i d (sorted-from_ascending edges ascending) below
