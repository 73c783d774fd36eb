use Rattle.std.proofs.Common.{◌≡◌, replicate, take}
use Rattle.viz_mesh_parts.proofs.levels.are_own.Given as goal

abbrev pub invariant-loop-i : goal.invariant-loop-i
invariant-loop-i l = take l.i l.part.levels ≡ replicate l.i 0
