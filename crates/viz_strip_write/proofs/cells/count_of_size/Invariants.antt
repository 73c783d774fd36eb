use Rattle.std.proofs.Common.{◌≡◌, ◌≤◌, length, take}
use Rattle.viz_sheet.specs.Arrays.{ranks_in}
use Rattle.viz_mesh_write.specs.Cells.{of_size}
use Rattle.viz_strip_write.proofs.cells.count_of_size.Given as goal

abbrev pub invariant-loop-index : goal.invariant-loop-index
invariant-loop-index l = record {
  is : l.count ≡ length (of_size l.size (take l.index (ranks_in l.ranks)));
  most : l.count ≤ l.index;
}
