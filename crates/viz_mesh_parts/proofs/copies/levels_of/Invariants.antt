use Rattle.std.proofs.Common.{◌≡◌, take}
use Rattle.viz_mesh_parts.proofs.copies.levels_of.Given as goal

abbrev pub invariant-loop-i : goal.invariant-loop-i
invariant-loop-i l = l.levels.items ≡ take l.i l.part.levels
