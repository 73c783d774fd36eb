use Rattle.std.proofs.Common.{◌≡◌, ◌++◌, take}
use Rattle.viz_strip_write.specs.Steps.Rows.{rows_of}
use Rattle.viz_strip_write.proofs.cells.put_rows.Given as goal

abbrev pub invariant-loop-index : goal.invariant-loop-index
invariant-loop-index l = l.text.items ≡ l.fn.text.items ++ rows_of (take l.index l.rows)
