use Rattle.std.proofs.Common.{◌≡◌, true, take}
use Rattle.std.specs.List.{list_all}
use Rattle.viz_lanes.proofs.plane.show_all.Given as goal

-- what is to be known of the numbers in front
abbrev pub invariant-loop-x : goal.invariant-loop-x
invariant-loop-x g l = list_all g.T.Lane.own (take l.x-index l.xs) ≡ true
