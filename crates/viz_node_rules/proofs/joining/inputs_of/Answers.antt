use Rattle.std.proofs.Common.{◌≡◌, List, Option, map, ◌∙◌}
use Rattle.std.specs.Option.{option_map}
use Rattle.viz_dataset.specs.declared.dataset.Dataset.{Dataset}
use Rattle.viz_network.proofs.EightLemmas.{each_of_eight}
use Rattle.viz_node_meaning.specs.Information.{information_of}
use Rattle.viz_node_rules.specs.Places.{value_at}
use Rattle.viz_node_rules.proofs.JoinLemmas.{map-twice}
use Rattle.viz_node_rules.proofs.joining.inputs_of.Goals as goal

pub returns : goal.returns
returns c =
    each_of_eight (λ place. option_map information_of (value_at c.args.table.now place)) _ c.args.places.now c.told-places _ _ _ _ _ _ _ _
    c.information_at.ensures c.information_at-2.ensures c.information_at-3.ensures c.information_at-4.ensures
    c.information_at-5.ensures c.information_at-6.ensures c.information_at-7.ensures c.information_at-8.ensures
    ∙ map-twice (value_at c.args.table.now) (option_map information_of) c.args.places.now
