use Rattle.std.proofs.Common.{◌≡◌, map}
use Rattle.viz_file_mesh.specs.Steps.Placed.{all_placed}
use Rattle.viz_file_mesh.proofs.points.wide_points.Given as goal

-- the points so far
abbrev pub invariant-loop-i : goal.invariant-loop-i
invariant-loop-i g l = l.points.items ≡ all_placed l.scale l.i (map g.T.Number.value l.numbers) l.picked
