use Rattle.std.proofs.Common.{◌≡◌, map, take}
use Rattle.viz_piece_filters.specs.Filters.{boundary_part}
use Rattle.viz_mesh_parts.proofs.bounding.bounded_parts.Given as goal

abbrev pub invariant-loop-part : goal.invariant-loop-part
invariant-loop-part l = l.made.items ≡ map (boundary_part l.ghosts) (take l.part-index l.parts)
