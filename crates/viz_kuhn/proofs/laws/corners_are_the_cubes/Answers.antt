use Rattle.std.proofs.Common.{ℕ, ◌<◌, refl, arith}
use Rattle.std.specs.Prelude.{All, Contains}
use Rattle.viz_kuhn.specs.Corners.{Corner, corner, IsCorner}
use Rattle.viz_kuhn.specs.Kuhn.{rows, corners_of}
use Rattle.viz_kuhn.proofs.RowLemmas.{below_six, all_four, each_corner}
use Rattle.viz_kuhn.proofs.laws.corners_are_the_cubes.Goals as goal

-- steps of 0 or 1 make a corner
bits : (x y z : ℕ) → x < 2 → y < 2 → z < 2 → IsCorner (corner x y z)
bits x y z x_below y_below z_below = record { x = x_below; y = y_below; z = z_below }

o : 0 < 2
o = omega arith

i : 1 < 2
i = omega arith

pub returns-clause-only : goal.returns-clause-only
unfolding rows
returns-clause-only c =
    below_six (λ p. All IsCorner (corners_of p))
    (all_four IsCorner _ _ _ _ (bits _ _ _ o o o) (bits _ _ _ i o o) (bits _ _ _ i i o) (bits _ _ _ i i i))
    (all_four IsCorner _ _ _ _ (bits _ _ _ o o o) (bits _ _ _ i o i) (bits _ _ _ i o o) (bits _ _ _ i i i))
    (all_four IsCorner _ _ _ _ (bits _ _ _ o o o) (bits _ _ _ i i o) (bits _ _ _ o i o) (bits _ _ _ i i i))
    (all_four IsCorner _ _ _ _ (bits _ _ _ o o o) (bits _ _ _ o i o) (bits _ _ _ o i i) (bits _ _ _ i i i))
    (all_four IsCorner _ _ _ _ (bits _ _ _ o o o) (bits _ _ _ o o i) (bits _ _ _ i o i) (bits _ _ _ i i i))
    (all_four IsCorner _ _ _ _ (bits _ _ _ o o o) (bits _ _ _ o i i) (bits _ _ _ o o i) (bits _ _ _ i i i))

pub returns-clause-every : goal.returns-clause-every
unfolding rows
returns-clause-every c =
    each_corner (λ (at : Corner). (p : ℕ) × (p < 6) × Contains (corners_of p) at)
    (0, omega arith, (0, omega arith, refl))
    (4, omega arith, (1, omega arith, refl))
    (3, omega arith, (1, omega arith, refl))
    (3, omega arith, (2, omega arith, refl))
    (0, omega arith, (1, omega arith, refl))
    (4, omega arith, (2, omega arith, refl))
    (0, omega arith, (2, omega arith, refl))
    (0, omega arith, (3, omega arith, refl))

pub returns-clause-diagonal : goal.returns-clause-diagonal
unfolding rows
returns-clause-diagonal c =
    below_six (λ p. Contains (corners_of p) (corner 0 0 0) × Contains (corners_of p) (corner 1 1 1))
    ((0, omega arith, refl), (3, omega arith, refl))
    ((0, omega arith, refl), (3, omega arith, refl))
    ((0, omega arith, refl), (3, omega arith, refl))
    ((0, omega arith, refl), (3, omega arith, refl))
    ((0, omega arith, refl), (3, omega arith, refl))
    ((0, omega arith, refl), (3, omega arith, refl))
