use Rattle.std.proofs.Common.{◌≡◌, drop}
use Rattle.viz_network.specs.Step.{nodes_of}
use Rattle.viz_plan.specs.ByNode.{extent_shown}
use Rattle.viz_plan.specs.Sites.{first_extent}
use Rattle.viz_plan.proofs.sites.whole_of.Given as goal

abbrev pub invariant-loop-place : goal.invariant-loop-place
invariant-loop-place l =
    first_extent (extent_shown l.shown) (nodes_of l.steps) l.places ≡ first_extent (extent_shown l.shown) (nodes_of l.steps) (drop l.place-index l.places)
