use Rattle.std.proofs.Common.{ℕ, ◌<◌, ◌+◌, arith}
use Rattle.std.specs.Prelude.{AllPairs}
use Rattle.viz_kuhn.specs.Corners.{Corner, corner, IsStep, IsEdge}
use Rattle.viz_kuhn.specs.Kuhn.{rows, corners_of}
use Rattle.viz_kuhn.proofs.RowLemmas.{below_six, pairs_of_four, up, down}
use Rattle.viz_kuhn.proofs.laws.edges_are_steps.Goals as goal

-- the seven vectors of zeros and ones
abbrev x : Corner
x = corner 1 0 0

abbrev y : Corner
y = corner 0 1 0

abbrev z : Corner
z = corner 0 0 1

abbrev xy : Corner
xy = corner 1 1 0

abbrev xz : Corner
xz = corner 1 0 1

abbrev yz : Corner
yz = corner 0 1 1

step : (x y z : ℕ) → x < 2 → y < 2 → z < 2 → 0 < x + y + z → IsStep (corner x y z)
step x y z x_below y_below z_below moves =
    record { bits = record { x = x_below; y = y_below; z = z_below }; moves = moves }

in_x : IsStep x
in_x = step 1 0 0 (omega arith) (omega arith) (omega arith) (omega arith)

in_y : IsStep y
in_y = step 0 1 0 (omega arith) (omega arith) (omega arith) (omega arith)

in_z : IsStep z
in_z = step 0 0 1 (omega arith) (omega arith) (omega arith) (omega arith)

in_xy : IsStep xy
in_xy = step 1 1 0 (omega arith) (omega arith) (omega arith) (omega arith)

in_xz : IsStep xz
in_xz = step 1 0 1 (omega arith) (omega arith) (omega arith) (omega arith)

in_yz : IsStep yz
in_yz = step 0 1 1 (omega arith) (omega arith) (omega arith) (omega arith)

in_xyz : IsStep (corner 1 1 1)
in_xyz = step 1 1 1 (omega arith) (omega arith) (omega arith) (omega arith)

abbrev o : Corner
o = corner 0 0 0

rows_are_steps : (p : ℕ) → p < 6 → AllPairs IsEdge (corners_of p)
unfolding rows
rows_are_steps =
    below_six (λ p. AllPairs IsEdge (corners_of p))
    (pairs_of_four IsEdge _ _ _ _ (up o in_x) (up o in_xy) (up o in_xyz) (up x in_y) (up x in_yz) (up xy in_z))
    (pairs_of_four IsEdge _ _ _ _ (up o in_xz) (up o in_x) (up o in_xyz) (down x in_z) (up xz in_y) (up x in_yz))
    (pairs_of_four IsEdge _ _ _ _ (up o in_xy) (up o in_y) (up o in_xyz) (down y in_x) (up xy in_z) (up y in_xz))
    (pairs_of_four IsEdge _ _ _ _ (up o in_y) (up o in_yz) (up o in_xyz) (up y in_z) (up y in_xz) (up yz in_x))
    (pairs_of_four IsEdge _ _ _ _ (up o in_z) (up o in_xz) (up o in_xyz) (up z in_x) (up z in_xy) (up xz in_y))
    (pairs_of_four IsEdge _ _ _ _ (up o in_yz) (up o in_z) (up o in_xyz) (down z in_y) (up yz in_x) (up z in_xy))

pub returns : goal.returns
returns c = record { steps = rows_are_steps }
