use Rattle.std.proofs.Common.{ap, sym, ◌∙◌}
use Rattle.std.specs.Option.{option_map}
use Rattle.viz_network.specs.Readers.{kind_at}
use Rattle.viz_batches.proofs.SetLemmas.{found_node}
use Rattle.viz_batches.proofs.sets.kind_named.Goals as goal

pub returns : goal.returns
returns c = c.kind.ensures.value ∙ ap (option_map kind_at) (found_node c.args.net.now c.args.node.now c.in_ok-find.field-0 c.requires (sym c.find.ensures.value ∙ c.in_ok-find.was))
