use Rattle.std.proofs.Common.{sym, ◌∙◌, ap, is_some}
use Rattle.viz_network.specs.Edits.{loaded}
use Rattle.viz_network.proofs.ChangeLemmas.{change_at, change_none}
use Rattle.viz_network.proofs.nodes.put_file.Goals as goal

pub returns-in_default : goal.returns-in_default
returns-in_default c = sym (change_none (loaded c.args.at c.args.file) c.args.nodes.now.entries c.args.name.now (sym c.get_index_of.ensures.found ∙ ap is_some c.in_default.is))

pub returns : goal.returns
returns c = sym (change_at (loaded c.args.at c.args.file) c.args.nodes.now.entries c.args.name.now c.in-Some.rank _ (sym c.get_index_of.ensures.index ∙ c.in-Some.is) c.index_mut-node.ensures.value)
