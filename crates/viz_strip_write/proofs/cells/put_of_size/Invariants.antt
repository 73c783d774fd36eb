use Rattle.std.proofs.Common.{◌≡◌, ◌++◌, take}
use Rattle.viz_sheet.specs.Arrays.{ranks_in}
use Rattle.viz_mesh_write.specs.Cells.{of_size}
use Rattle.viz_strip_write.specs.Steps.Rows.{rows_of}
use Rattle.viz_strip_write.proofs.cells.put_of_size.Given as goal

abbrev pub invariant-loop-index : goal.invariant-loop-index
invariant-loop-index l = l.text.items ≡ l.fn.text.items ++ rows_of (of_size l.size (take l.index (ranks_in l.ranks)))
