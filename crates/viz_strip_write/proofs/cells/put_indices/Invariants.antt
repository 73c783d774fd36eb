use Rattle.std.proofs.Common.{◌≡◌, ◌++◌, take}
use Rattle.std.specs.List.{flat_map}
use Rattle.viz_strip_write.specs.Steps.Rows.{spaced}
use Rattle.viz_strip_write.proofs.cells.put_indices.Given as goal

abbrev pub invariant-loop-index : goal.invariant-loop-index
invariant-loop-index l = l.text.items ≡ l.fn.text.items ++ flat_map spaced (take l.index-index l.cell)
