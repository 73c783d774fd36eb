use Rattle.std.proofs.Common.{sym, ◌∙◌, ap, is_some}
use Rattle.viz_network.specs.Edits.{valued}
use Rattle.viz_network.proofs.ChangeLemmas.{change_at, change_none}
use Rattle.viz_network.proofs.nodes.put_value.Goals as goal

pub returns-in_default : goal.returns-in_default
returns-in_default c = sym (change_none (valued c.args.at c.args.param c.args.value.now) c.args.nodes.now.entries c.args.name.now (sym c.get_index_of.ensures.found ∙ ap is_some c.in_default.is))

pub returns : goal.returns
returns c = rw (c.with-node.ensures.value, c.release_with-node.ensures.value) (sym (change_at (valued c.args.at c.args.param c.args.value.now) c.args.nodes.now.entries c.args.name.now c.in-Some.rank _ (sym c.get_index_of.ensures.index ∙ c.in-Some.is) c.index_mut-node.ensures.value))
