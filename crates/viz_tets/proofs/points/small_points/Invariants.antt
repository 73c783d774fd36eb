use Rattle.std.proofs.Common.{◌≡◌, map}
use Rattle.std.specs.List.{range_with_len}
use Rattle.viz_meaning.specs.Tetrahedra.{point_of_leaf}
use Rattle.viz_tets.proofs.points.small_points.Given as goal

abbrev pub invariant-loop-leaf : goal.invariant-loop-leaf
invariant-loop-leaf l = l.points.items ≡ map (point_of_leaf l.image) (range_with_len 0 l.leaf)
