use Rattle.std.proofs.Common.{◌≡◌, map, take}
use Rattle.viz_piece_filters.specs.Filters.{trimmed_part}
use Rattle.viz_piece_restrict.proofs.mesh.trimmed_parts.Given as goal

abbrev pub invariant-loop-part : goal.invariant-loop-part
invariant-loop-part l = l.cuts.items ≡ map (trimmed_part l.ghosts) (take l.part-index l.parts)
