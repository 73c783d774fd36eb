use Rattle.std.proofs.Common.{◌≡◌, ◌++◌, replicate}
use Rattle.viz_mesh_parts.proofs.levels.push_copies.Given as goal

abbrev pub invariant-loop-k : goal.invariant-loop-k
invariant-loop-k l = l.levels.items ≡ l.initial.levels.items ++ replicate l._k l.level
