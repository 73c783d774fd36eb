use Rattle.viz_executive.specs.Steps.Tables.{AreExact}
use Rattle.viz_executive.proofs.table.kept_by_place.Given as goal

abbrev pub invariant-loop-item : goal.invariant-loop-item
invariant-loop-item l = record { exact : AreExact l.ground.sites.net l.table.items }
