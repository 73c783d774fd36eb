use Rattle.std.proofs.Common.{sym, ◌∙◌}
use Rattle.std.proofs.lemmas.Bool.{eqb-true}
use Rattle.viz_network.proofs.RankLemmas.{rank_at_value}
use Rattle.viz_network.proofs.nodes.guessed_rank.Goals as goal

pub returns-then-eq-clause-value : goal.returns-then-eq-clause-value
returns-then-eq-clause-value c = sym (rank_at_value c.args.nodes.now.entries c.requires _ c.args.id.0 _ c.index.ensures (eqb-true _ _ (sym c.eq.ensures ∙ c.if-eq.true)))
