use Rattle.viz_strip_trip.proofs.TextStanding.{reads-no_fault, reads-only}
use Rattle.viz_strip_trip.proofs.laws.nothing_else_is_read_of_strips.Goals as goal

pub returns-clause-only : goal.returns-clause-only
returns-clause-only c = reads-only

pub returns-clause-no_fault : goal.returns-clause-no_fault
returns-clause-no_fault c = reads-no_fault
