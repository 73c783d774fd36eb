use Rattle.viz_round_trip.proofs.ImageStanding.{reads-same, reads-moved}
use Rattle.viz_round_trip.proofs.images.written_images_are_read_again.Goals as goal

pub returns-clause-same : goal.returns-clause-same
returns-clause-same c = reads-same

pub returns-clause-moved : goal.returns-clause-moved
returns-clause-moved c = reads-moved
