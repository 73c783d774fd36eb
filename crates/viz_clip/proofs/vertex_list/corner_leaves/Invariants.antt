use Rattle.std.proofs.Common.{◌≡◌, map, take}
use Rattle.viz_sheet.specs.Arrays.{names_in}
use Rattle.viz_clip.specs.Steps.Vertices.{leaf_at}
use Rattle.viz_clip.proofs.vertex_list.corner_leaves.Given as goal

abbrev pub invariant-loop-rank : goal.invariant-loop-rank
invariant-loop-rank l = l.out.items ≡ map (leaf_at (names_in l.leaves)) (take l.rank-index l.corners)
