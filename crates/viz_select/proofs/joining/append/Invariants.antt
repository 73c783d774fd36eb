use Rattle.std.proofs.Common.{◌≡◌, ◌++◌, length, reverse}
use Rattle.viz_mesh_meaning.specs.Append.{appended}
use Rattle.viz_select.proofs.joining.append.Given as goal

abbrev pub invariant-loop-mesh : goal.invariant-loop-mesh
invariant-loop-mesh l = l.sheets.items ++ appended (reverse l.left.items) ≡ appended l.fn.meshes.items

abbrev pub decreases-loop-mesh : goal.decreases-loop-mesh
decreases-loop-mesh l = length l.left.items
