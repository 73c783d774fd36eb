use Rattle.viz_piece_filters.proofs.OwnLemmas.{owns_hand_on, shares_are_all}
use Rattle.viz_piece_filters.proofs.laws.owns_hand_on.Goals as goal

pub returns-clause-shares : goal.returns-clause-shares
returns-clause-shares c = shares_are_all

pub returns-clause-made : goal.returns-clause-made
returns-clause-made c = owns_hand_on
