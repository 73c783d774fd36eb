use Rattle.viz_network.proofs.EightLemmas.{each_of_eight}
use Rattle.viz_node_rules.specs.Places.{value_at}
use Rattle.viz_inform.proofs.headers.inputs_of.Goals as goal

pub returns : goal.returns
returns c = each_of_eight (value_at c.args.table.now) _ c.args.places.now c.told-places _ _ _ _ _ _ _ _
    c.information_at.ensures c.information_at-2.ensures c.information_at-3.ensures c.information_at-4.ensures
    c.information_at-5.ensures c.information_at-6.ensures c.information_at-7.ensures c.information_at-8.ensures
