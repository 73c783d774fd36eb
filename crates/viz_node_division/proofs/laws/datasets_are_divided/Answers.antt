use Rattle.viz_node_division.proofs.DividedLemmas.{
  are_divided,
  are_exact,
  are_one,
  data_exact,
  exact_divided,
}
use Rattle.viz_node_division.proofs.laws.datasets_are_divided.Goals as goal

pub returns : goal.returns
returns c = record {
  some = are_divided;
  exact = exact_divided;
  given = are_exact;
  narrow = data_exact;
  one = are_one c.rules_are_one.ensures.data;
}
