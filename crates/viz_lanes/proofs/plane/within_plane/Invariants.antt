use Rattle.std.proofs.Common.{◌≡◌, ◌-◌, ◌%◌, ◌≤◌, ◌&&◌, length, map, take, int_le}
use Rattle.viz_lanes.proofs.plane.within_plane.Given as goal

-- the plane of the numbers in front, in whole words
abbrev pub invariant-loop-at : goal.invariant-loop-at
invariant-loop-at g l = (l.at ≤ length l.xs) × (l.at % 64 ≡ 0) × (l.bits ≡ map (λ x. int_le (g.T.Lane.whole l.lo) (g.T.Lane.whole x) && int_le (g.T.Lane.whole x) (g.T.Lane.whole l.hi)) (take l.at l.xs))

abbrev pub decreases-loop-at : goal.decreases-loop-at
decreases-loop-at g l = length l.xs - l.at

-- the plane of the numbers in front
abbrev pub invariant-loop-at-2 : goal.invariant-loop-at-2
invariant-loop-at-2 g l = (l.at ≤ length l.xs) × (l.bits ≡ map (λ x. int_le (g.T.Lane.whole l.lo) (g.T.Lane.whole x) && int_le (g.T.Lane.whole x) (g.T.Lane.whole l.hi)) (take l.at l.xs))

abbrev pub decreases-loop-at-2 : goal.decreases-loop-at-2
decreases-loop-at-2 g l = length l.xs - l.at
