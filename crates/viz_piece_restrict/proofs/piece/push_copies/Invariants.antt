use Rattle.std.proofs.Common.{◌≡◌, ◌++◌, replicate}
use Rattle.viz_piece_restrict.proofs.piece.push_copies.Given as goal

abbrev pub invariant-loop-k : goal.invariant-loop-k
invariant-loop-k l = l.marks.items ≡ l.initial.marks.items ++ replicate l._k l.mark
