use Rattle.std.proofs.Common.{◌≡◌, take}
use Rattle.viz_sheet.specs.Arrays.{ranks_in}
use Rattle.viz_mesh_write.specs.Cells.{of_size}
use Rattle.viz_strip_write.proofs.cells.triangles_of.Given as goal

abbrev pub invariant-loop-index : goal.invariant-loop-index
invariant-loop-index l = l.triangles.items ≡ of_size 3 (take l.index (ranks_in l.ranks))
