use Rattle.viz_piece_restrict.proofs.CutLemmas.{some-whole_image}
use Rattle.viz_piece_restrict.proofs.wholes.whole_image.Goals as goal

pub returns-clause-answers : goal.returns-clause-answers
returns-clause-answers c = some-whole_image c.args.image c.extent-extent.ensures.valid
