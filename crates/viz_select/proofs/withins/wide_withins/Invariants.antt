use Rattle.std.proofs.Common.{◌≡◌, map, take}
use Rattle.viz_mesh_meaning.specs.Select.{has_scalar_within}
use Rattle.viz_select.proofs.withins.wide_withins.Given as goal

abbrev pub invariant-loop-point : goal.invariant-loop-point
invariant-loop-point l = l.found.items ≡ map (has_scalar_within l.lo l.hi) (take l.point-index l.points)
