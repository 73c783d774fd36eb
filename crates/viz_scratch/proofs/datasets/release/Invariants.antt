use Rattle.viz_scratch.specs.Steps.Table.{IsReleased}
use Rattle.viz_scratch.proofs.datasets.release.Given as goal

abbrev pub invariant-loop-place : goal.invariant-loop-place
invariant-loop-place l = record { released : IsReleased l.last l.k l.fn.table.items l.table.items }
