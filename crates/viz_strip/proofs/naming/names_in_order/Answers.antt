use Rattle.viz_strip.proofs.NameLemmas.{names-ascend}
use Rattle.viz_strip.proofs.naming.names_in_order.Goals as goal

pub returns : goal.returns
returns c = names-ascend _ _ c.sort_unstable.ensures.sorted c.dedup.ensures.filtered
