use Rattle.viz_legacy_read.specs.Reading.{IsSound}
use Rattle.viz_node_meaning.specs.Data.{DataRule}
use Rattle.viz_inform.specs.Table.{IsTable}
use Rattle.viz_scratch.specs.Steps.Table.{is_read}
use Rattle.viz_scratch.proofs.datasets.data_pass.Given as goal

abbrev pub invariant-loop-k : goal.invariant-loop-k
invariant-loop-k l = record { table : IsTable DataRule IsSound (is_read l.last) l.net l.steps l.k l.table.items }
