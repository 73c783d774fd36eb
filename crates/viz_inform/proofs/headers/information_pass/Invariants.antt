use Rattle.viz_node_meaning.specs.Information.{InformationRule}
use Rattle.viz_inform.specs.Table.{IsTable, anything, always}
use Rattle.viz_inform.proofs.headers.information_pass.Given as goal

abbrev pub invariant-loop-step : goal.invariant-loop-step
invariant-loop-step l = record { table : IsTable InformationRule anything always l.net l.steps l.step-index l.table.items }
