use Rattle.viz_extent.specs.Extent.{bounds_of}
use Rattle.viz_node_rules.proofs.GridLemmas.{empty_crop}
use Rattle.viz_node_rules.proofs.information.cropped.Goals as goal

pub returns-in-None : goal.returns-in-None
returns-in-None c = empty_crop (bounds_of c.args.bounds) c.args.grid.now c.in-None.ensures.some.1
