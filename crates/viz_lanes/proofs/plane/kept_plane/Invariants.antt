use Rattle.std.proofs.Common.{◌≡◌, ◌≤◌, length, map, take}
use Rattle.std.specs.Vec.{vec_len, vec_capacity}
use Rattle.viz_lanes.specs.Planes.{kept_within}
use Rattle.viz_lanes.proofs.plane.kept_plane.Given as goal

-- the numbers so far, and room for those that are left
abbrev pub invariant-loop-x : goal.invariant-loop-x
invariant-loop-x g l =
    (vec_len l.kept ≡ l.x-index) × (length l.xs ≤ vec_capacity l.kept)
    × (map g.T.Lane.whole l.kept.items ≡ kept_within (g.T.Lane.whole l.lo) (g.T.Lane.whole l.hi) (map g.T.Lane.whole (take l.x-index l.xs)))
