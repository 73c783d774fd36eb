use Rattle.viz_extent.specs.Parts.{rate_of}
use Rattle.viz_node_rules.proofs.GridLemmas.{empty_sample}
use Rattle.viz_node_rules.proofs.information.thinned.Goals as goal

pub returns-in_default : goal.returns-in_default
returns-in_default c = empty_sample (rate_of c.args.rate) c.args.grid.now c.requires c.in_default.ensures.some.1
