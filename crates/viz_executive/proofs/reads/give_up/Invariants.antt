use Rattle.viz_network.specs.Network.{Network}
use Rattle.viz_executive.specs.Steps.Tables.{AreExact}
use Rattle.viz_executive.proofs.reads.give_up.Given as goal

abbrev pub invariant-loop-place : goal.invariant-loop-place
invariant-loop-place l = record { exact : (net : Network) → AreExact net l.initial.table.items → AreExact net l.table.items }
