use Rattle.std.proofs.Common.{sym, ◌∙◌}
use Rattle.viz_network.proofs.UsedLemmas.{used_here, used_next}
use Rattle.viz_network.proofs.nodes.feeds_another.Goals as goal

pub returns-then-is_input_of : goal.returns-then-is_input_of
returns-then-is_input_of c = sym (used_here c.args.id.0 c.args.nodes.now.entries c.loop-rank.rank _ c.index.ensures (sym c.is_input_of.ensures ∙ c.if-is_input_of.true)) ∙ c.loop-rank.invariant

pub loop-rank-preserved : goal.loop-rank-preserved
loop-rank-preserved c = used_next c.args.id.0 c.args.nodes.now.entries c.loop-rank.rank _ c.index.ensures (sym c.is_input_of.ensures ∙ c.if-is_input_of.false) ∙ c.loop-rank.invariant
