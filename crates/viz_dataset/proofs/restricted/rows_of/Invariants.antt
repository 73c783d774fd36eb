use Rattle.std.proofs.Common.{map}
use Rattle.viz_dataset.specs.Rows.{AreRows}
use Rattle.viz_dataset.proofs.restricted.rows_of.Given as goal

-- the rows so far
abbrev pub invariant-loop-row : goal.invariant-loop-row
invariant-loop-row g l = AreRows l.whole l.part l.row (map g.T.Number.value l.numbers) (map g.T.Number.value l.copy.items)
