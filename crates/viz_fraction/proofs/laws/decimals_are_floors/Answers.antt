use Rattle.viz_fraction.proofs.DecimalsLemmas.{fixed_is_floor}
use Rattle.viz_fraction.proofs.laws.decimals_are_floors.Goals as goal

pub returns : goal.returns
returns c = record { floor = fixed_is_floor }
