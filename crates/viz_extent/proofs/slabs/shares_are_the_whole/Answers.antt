use Rattle.viz_extent.proofs.SlabLemmas.{slabs_are_all, layers_are_all}
use Rattle.viz_extent.proofs.slabs.shares_are_the_whole.Goals as goal

pub returns-clause-planes : goal.returns-clause-planes
returns-clause-planes c = slabs_are_all

pub returns-clause-layers : goal.returns-clause-layers
returns-clause-layers c = layers_are_all
