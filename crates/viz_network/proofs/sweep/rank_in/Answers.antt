use Rattle.std.proofs.Common.{sym, subst, IsSome}
use Rattle.viz_network.proofs.OrderLemmas.{ranks_there}
use Rattle.viz_network.proofs.sweep.rank_in.Goals as goal

pub unwrap-requires : goal.unwrap-requires
unwrap-requires c = subst IsSome (sym c.guessed_rank.ensures.value) (ranks_there c.args.nodes.now.entries c.args.id.0 c.requires.there)
