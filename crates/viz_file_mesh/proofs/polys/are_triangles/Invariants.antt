use Rattle.std.proofs.Common.{◌≡◌, true, take}
use Rattle.std.specs.List.{list_all}
use Rattle.viz_mesh_read.specs.Pieces.{is_triangle}
use Rattle.viz_file_mesh.proofs.polys.are_triangles.Given as goal

-- the corners of each so far differ
abbrev pub invariant-loop-corners : goal.invariant-loop-corners
invariant-loop-corners l = list_all is_triangle (take l.corners-index l.cells) ≡ true
