use Rattle.viz_network.specs.Step.{nodes_of}
use Rattle.viz_plan.specs.Told.{known_with}
use Rattle.viz_plan.specs.Sites.{AreFirstSites}
use Rattle.viz_plan.proofs.sites.all_sites.Given as goal

abbrev pub invariant-loop-place : goal.invariant-loop-place
invariant-loop-place l = record { begun : AreFirstSites (known_with l.net l.told l.entries) (nodes_of l.steps) l.place l.sites.items }
