use Rattle.std.proofs.Common.{◌≡◌, take}
use Rattle.viz_sheet.specs.Kept.{kept}
use Rattle.viz_mesh_parts.proofs.bounding.near_levels.Given as goal

abbrev pub invariant-loop-i : goal.invariant-loop-i
invariant-loop-i l = l.left.items ≡ kept (take l.i l.marks) (take l.i l.levels)
