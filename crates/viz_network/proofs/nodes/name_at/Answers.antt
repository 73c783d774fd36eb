use Rattle.std.proofs.Common.{sym, ap, ◌∙◌}
use Rattle.std.specs.Option.{option_copied}
use Rattle.viz_network.proofs.RankLemmas.{at_rank, none_at_rank}
use Rattle.viz_network.proofs.nodes.name_at.Goals as goal

pub returns-in_err-rank : goal.returns-in_err-rank
returns-in_err-rank c = ap option_copied c.from_residual.ensures ∙ sym (none_at_rank c.args.nodes.now.entries c.args.id.0 (sym c.rank_of.ensures.value ∙ c.in_err-rank.was)).1

pub returns : goal.returns
returns c = sym (at_rank c.args.nodes.now.entries c.args.id.0 c.in_ok-rank.rank _ (sym c.rank_of.ensures.value ∙ c.in_ok-rank.was) (sym c.in_ok-name.ensures.entry)).2
