use Rattle.std.proofs.Common.{◌≡◌, ◌<◌, ◌^◌, take}
use Rattle.viz_mesh_write.specs.MeshText.{size_of}
use Rattle.viz_strip_write.proofs.cells.size_of_rows.Given as goal

abbrev pub invariant-loop-index : goal.invariant-loop-index
invariant-loop-index l = record {
  is : l.size ≡ size_of (take l.index l.rows);
  few : l.size < 2 ^ 31;
}
