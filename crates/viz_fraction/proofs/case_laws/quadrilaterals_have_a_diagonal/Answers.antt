use Rattle.viz_fraction.proofs.CaseDiagonals.{two_where_two_inside, shares_diagonals}
use Rattle.viz_fraction.proofs.case_laws.quadrilaterals_have_a_diagonal.Goals as goal

pub returns : goal.returns
returns c = record { two = two_where_two_inside; diagonal = shares_diagonals }
