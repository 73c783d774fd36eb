-- The sides of the cells in one tetrahedron: the cuts of its four facets, and the diagonal both ways.
use Rattle.std.proofs.Common.{◌≡◌, ℕ, ◌+◌, ◌*◌, Bool, true, false, if◌then◌else◌, List, [], ◌∷◌, map, arith}
use Rattle.std.specs.Prelude.{count_by}
use Rattle.std.specs.List.{flat_map}
use Rattle.viz_fraction.specs.Cases.{cells_at}
use Rattle.viz_grid_section.specs.Edges.{Edge, edge_of}
use Rattle.viz_grid_section.specs.GridSection.{named}
use Rattle.viz_surface_law.specs.Sides.{Side, side, turned, sides_of}

-- the cut of a facet a, b, c that is run through in that direction, by which of its corners are inside
abbrev pub cut : Bool → Bool → Bool → Edge → Edge → Edge → List Side
cut true false false ab ac bc = side ab ac ∷ []
cut false true false ab ac bc = side bc ab ∷ []
cut false false true ab ac bc = side ac bc ∷ []
cut false true true ab ac bc = side ac ab ∷ []
cut true false true ab ac bc = side ab bc ∷ []
cut true true false ab ac bc = side bc ac ∷ []
cut true true true ab ac bc = []
cut false false false ab ac bc = []

-- and run through the other way
abbrev pub cut_back : Bool → Bool → Bool → Edge → Edge → Edge → List Side
cut_back w x y ab ac bc = map turned (cut w x y ab ac bc)

-- a diagonal both ways
abbrev pub both_ways : Side → List Side
both_ways s = s ∷ turned s ∷ []

-- the diagonal in a tetrahedron with two corners inside
abbrev pub diagonal : Bool → Bool → Bool → Bool → Side → Side → List Side
diagonal true true false false first second = both_ways first
diagonal false false true true first second = both_ways first
diagonal true false true false first second = both_ways second
diagonal true false false true first second = both_ways second
diagonal false true true false first second = both_ways second
diagonal false true false true first second = both_ways second
diagonal _ _ _ _ first second = []

abbrev pub bit : Bool → ℕ
bit w = if w then 1 else 0

-- the cells of four corners
abbrev pub cells_by : Bool → Bool → Bool → Bool → List ℕ → List (List Edge)
cells_by w x y z leaves = map (named leaves) (cells_at 4 (bit w + 2 * (bit x + 2 * (bit y + 2 * (bit z + 2 * 0)))))

abbrev pub LocalLaw : Bool → Bool → Bool → Bool → Type 0
LocalLaw w x y z =
    (P : Side → Bool) (a b c d : ℕ)
    → let n = edge_of in
    count_by P (flat_map sides_of (cells_by w x y z (a ∷ b ∷ c ∷ d ∷ [])))
    ≡ count_by P (cut w x y (n a b) (n a c) (n b c))
    + count_by P (cut_back w x z (n a b) (n a d) (n b d))
    + count_by P (cut w y z (n a c) (n a d) (n c d))
    + count_by P (cut_back x y z (n b c) (n b d) (n c d))
    + count_by P (diagonal w x y z (side (n a c) (n b d)) (side (n a b) (n c d)))

pub local_law : (w x y z : Bool) → LocalLaw w x y z
unfolding cells_at
local_law true true true true P a b c d = omega arith
local_law true true true false P a b c d = omega arith
local_law true true false true P a b c d = omega arith
local_law true true false false P a b c d = omega arith
local_law true false true true P a b c d = omega arith
local_law true false true false P a b c d = omega arith
local_law true false false true P a b c d = omega arith
local_law true false false false P a b c d = omega arith
local_law false true true true P a b c d = omega arith
local_law false true true false P a b c d = omega arith
local_law false true false true P a b c d = omega arith
local_law false true false false P a b c d = omega arith
local_law false false true true P a b c d = omega arith
local_law false false true false P a b c d = omega arith
local_law false false false true P a b c d = omega arith
local_law false false false false P a b c d = omega arith
