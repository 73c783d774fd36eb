use Rattle.viz_image_ops.specs.Sums.{ArePlaceSums}
use Rattle.viz_image_ops.proofs.sums.move_terms.Given as goal

-- the lists that are added
abbrev pub invariant-loop-c : goal.invariant-loop-c
invariant-loop-c l = ArePlaceSums l.terms l.first l.c l.sums

-- the lists that are left
abbrev pub invariant-loop-c-2 : goal.invariant-loop-c-2
invariant-loop-c-2 l = ArePlaceSums l.terms l.c l.next_behind l.sums
