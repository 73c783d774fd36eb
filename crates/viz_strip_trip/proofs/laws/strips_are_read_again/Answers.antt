use Rattle.viz_strip_trip.proofs.TextStanding.{reads-strips}
use Rattle.viz_strip_trip.proofs.laws.strips_are_read_again.Goals as goal

pub returns : goal.returns
returns c = record { again = reads-strips }
