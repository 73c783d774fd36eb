use Rattle.viz_dataset.specs.declared.dataset.Dataset.TheVariants.{Image}
use Rattle.viz_piece_tests.proofs.slabs.all_slabs.Goals as goal

pub returns-clause-all : goal.returns-clause-all
returns-clause-all c = (Image c.args.whole.now, c.in_ok-parts.ensures.slabs)
