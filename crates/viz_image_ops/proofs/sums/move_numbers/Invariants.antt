use Rattle.std.proofs.Common.{map}
use Rattle.viz_image_ops.specs.Sums.{ArePlaceSums}
use Rattle.viz_image_ops.proofs.sums.move_numbers.Given as goal

-- the lists that are added
abbrev pub invariant-loop-c : goal.invariant-loop-c
invariant-loop-c g l = ArePlaceSums (map g.T.Number.value l.numbers) l.first l.c l.sums

-- the lists that are left
abbrev pub invariant-loop-c-2 : goal.invariant-loop-c-2
invariant-loop-c-2 g l = ArePlaceSums (map g.T.Number.value l.numbers) l.c l.next_behind l.sums
