use Rattle.std.proofs.Common.{◌≡◌, map, take}
use Rattle.std.specs.Prelude.{nat_le}
use Rattle.viz_mesh_parts.proofs.bounding.near_marks.Given as goal

abbrev pub invariant-loop-level : goal.invariant-loop-level
invariant-loop-level l = l.marks.items ≡ map (λ m. nat_le m l.ghosts) (take l.level-index l.levels)
