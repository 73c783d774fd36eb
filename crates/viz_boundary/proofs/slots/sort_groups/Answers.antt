use Rattle.std.proofs.lemmas.List.Sorted.{IsPermutation-trans}
use Rattle.viz_boundary.proofs.slots.sort_groups.Goals as goal

pub loop-end-preserved : goal.loop-end-preserved
loop-end-preserved c = IsPermutation-trans _ c.loop-end.keys _ c.loop-end.invariant c.sort_part.ensures
