use Rattle.viz_kuhn.proofs.CubeLemmas.{length-tetrahedra_of, get_or-tetrahedra_of}
use Rattle.viz_kuhn.proofs.laws.list_is_in_order.Goals as goal

pub returns-clause-count : goal.returns-clause-count
returns-clause-count c = length-tetrahedra_of

pub returns-clause-order : goal.returns-clause-order
returns-clause-order c = get_or-tetrahedra_of
