use Rattle.viz_scratch.proofs.ScratchLemmas.{files_are_one}
use Rattle.viz_scratch.proofs.laws.files_are_one.Goals as goal

pub returns : goal.returns
returns c = record { law = files_are_one c.scratch_is_one.ensures.cones }
