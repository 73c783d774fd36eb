use Rattle.std.proofs.Common.{◌≡◌, get_or, map, nat_eq}
use Rattle.std.specs.List.{range_with_len}
use Rattle.viz_merge.proofs.numbers.first_marks.Given as goal

abbrev pub invariant-loop-j : goal.invariant-loop-j
invariant-loop-j l = l.marks.items ≡ map (λ j. nat_eq (get_or l.leads j 0) j) (range_with_len 0 l.j)
