use Rattle.viz_round_trip.proofs.OnlyLemmas.{reads-only, reads-no_fault}
use Rattle.viz_round_trip.proofs.images.nothing_else_is_read.Goals as goal

pub returns-clause-only : goal.returns-clause-only
returns-clause-only c = reads-only

pub returns-clause-no_fault : goal.returns-clause-no_fault
returns-clause-no_fault c = reads-no_fault
