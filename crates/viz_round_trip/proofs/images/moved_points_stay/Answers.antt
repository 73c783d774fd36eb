use Rattle.viz_round_trip.proofs.MovedLemmas.{count_again}
use Rattle.viz_round_trip.proofs.PointLemmas.{point_again}
use Rattle.viz_round_trip.proofs.images.moved_points_stay.Goals as goal

pub returns-clause-point : goal.returns-clause-point
returns-clause-point c = point_again

pub returns-clause-count : goal.returns-clause-count
returns-clause-count c = λ i. count_again i.extent
