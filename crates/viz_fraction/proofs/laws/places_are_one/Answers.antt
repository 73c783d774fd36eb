use Rattle.viz_fraction.proofs.PlacesLemmas.{positions_have_one_place}
use Rattle.viz_fraction.proofs.laws.places_are_one.Goals as goal

pub returns : goal.returns
returns c = record { one = positions_have_one_place }
