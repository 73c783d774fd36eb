use Rattle.viz_round_trip.proofs.SectionStanding.{type-wanted}
use Rattle.viz_round_trip.proofs.meshes.written_types_are_wanted.Goals as goal

pub returns : goal.returns
returns c = record { law = type-wanted }
