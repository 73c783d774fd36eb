use Rattle.std.proofs.Common.{◌≡◌, length, take}
use Rattle.viz_mesh_write.specs.Cells.{points_of}
use Rattle.viz_scratch.proofs.counts.points_in.Given as goal

-- the sheets so far
abbrev pub invariant-loop-sheet : goal.invariant-loop-sheet
invariant-loop-sheet l = l.count ≡ length (points_of (take l.sheet-index l.sheets))
