use Rattle.std.proofs.Common.{◌≡◌, ◌+◌, ◌++◌, map}
use Rattle.std.specs.List.{range_with_len}
use Rattle.viz_mixed.specs.Mixed.{mixed_from}
use Rattle.viz_mixed.proofs.cubes.push_word.Given as goal

abbrev pub invariant-loop-t : goal.invariant-loop-t
invariant-loop-t l = l.out ≡ l.initial.out ++ map (λ i. mixed_from l.flags l.row l.plane (l.lowest + i)) (range_with_len 0 l.t)
