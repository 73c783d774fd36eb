use Rattle.std.proofs.Common.{◌≡◌, map, take}
use Rattle.viz_piece_filters.specs.Filters.{selected_part}
use Rattle.viz_mesh_parts.proofs.selecting.selected_parts.Given as goal

abbrev pub invariant-loop-part : goal.invariant-loop-part
invariant-loop-part l = l.made.items ≡ map (selected_part l.all l.lo l.hi) (take l.part-index l.parts)
