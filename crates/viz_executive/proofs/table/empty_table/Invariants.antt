use Rattle.viz_executive.specs.Steps.Tables.{AreExact}
use Rattle.viz_executive.proofs.table.empty_table.Given as goal

abbrev pub invariant-loop : goal.invariant-loop
invariant-loop l = record { exact : AreExact l.ground.sites.net l.table.items }
