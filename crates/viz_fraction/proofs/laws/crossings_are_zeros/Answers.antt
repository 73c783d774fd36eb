use Rattle.viz_fraction.proofs.ZerosLemmas.{crossing_zero, crossing_between, crossing_at_inside, edge_crossing-turned}
use Rattle.viz_fraction.proofs.laws.crossings_are_zeros.Goals as goal

pub returns-clause-zero : goal.returns-clause-zero
returns-clause-zero c = crossing_zero

pub returns-clause-between : goal.returns-clause-between
returns-clause-between c = crossing_between

pub returns-clause-inside_end : goal.returns-clause-inside_end
returns-clause-inside_end c = crossing_at_inside

pub returns-clause-edge : goal.returns-clause-edge
returns-clause-edge c = edge_crossing-turned
