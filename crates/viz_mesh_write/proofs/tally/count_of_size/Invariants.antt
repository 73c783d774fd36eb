use Rattle.std.proofs.Common.{◌≡◌, length, take}
use Rattle.viz_mesh_write.specs.Cells.{cells_of, of_size}
use Rattle.viz_mesh_write.specs.Steps.Tallies.{capped}
use Rattle.viz_mesh_write.proofs.tally.count_of_size.Given as goal

-- the sheets so far
abbrev pub invariant-loop-sheet : goal.invariant-loop-sheet
invariant-loop-sheet l = l.count ≡ capped (length (of_size l.size (cells_of (take l.sheet-index l.sheets))))
