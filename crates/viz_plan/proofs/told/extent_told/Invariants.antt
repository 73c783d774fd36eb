use Rattle.std.proofs.Common.{◌≡◌, drop}
use Rattle.viz_plan.specs.Told.{extent_told}
use Rattle.viz_plan.proofs.told.extent_told.Given as goal

abbrev pub invariant-loop-one : goal.invariant-loop-one
invariant-loop-one l = extent_told l.told l.node.0 ≡ extent_told (drop l.one-index l.told) l.node.0
