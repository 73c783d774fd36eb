use Rattle.std.proofs.Common.{◌≡◌, map, take}
use Rattle.viz_sheet.specs.Arrays.{names_in}
use Rattle.viz_clip.specs.Steps.Vertices.{cut_leaves}
use Rattle.viz_clip.proofs.vertex_list.cut_leaves.Given as goal

abbrev pub invariant-loop-key : goal.invariant-loop-key
invariant-loop-key l = l.out.items ≡ map (cut_leaves (names_in l.leaves)) (take l.key-index l.keys)
