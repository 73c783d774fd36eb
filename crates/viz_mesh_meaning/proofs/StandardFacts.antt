-- Filters of small meshes by hand: the boundary, a selection, meshes joined and a merge.
use Rattle.std.proofs.Common.{◌≡◌, ℕ, true, false, pos, List, [], ◌∷◌, map, refl}
use Rattle.viz_fraction.specs.Points.{Point, numbers}
use Rattle.viz_fraction.specs.Divisors.{gcd}
use Rattle.viz_fraction.specs.Places.{place_divisor}
use Rattle.viz_sheet.specs.Sheet.{SheetData}
use Rattle.viz_mesh_meaning.specs.Append.{appended}
use Rattle.viz_mesh_meaning.specs.Cells.{Cell}
use Rattle.viz_mesh_meaning.specs.Facets.{boundary_of, facets_of}
use Rattle.viz_mesh_meaning.specs.Select.{has_scalar_within, selected}
use Rattle.viz_mesh_meaning.specs.Merge.{merged}

-- ---- facets and the boundary

-- each facet leaves one name out, and of every second one the first two are exchanged
of_four : facets_of {X = ℕ} (0 ∷ 1 ∷ 2 ∷ 3 ∷ [])
    ≡ (1 ∷ 2 ∷ 3 ∷ []) ∷ (2 ∷ 0 ∷ 3 ∷ []) ∷ (0 ∷ 1 ∷ 3 ∷ []) ∷ (1 ∷ 0 ∷ 2 ∷ []) ∷ []
of_four = refl

of_three : facets_of {X = ℕ} (0 ∷ 1 ∷ 2 ∷ []) ≡ (1 ∷ 2 ∷ []) ∷ (2 ∷ 0 ∷ []) ∷ (0 ∷ 1 ∷ []) ∷ []
of_three = refl

of_two : facets_of {X = ℕ} (0 ∷ 1 ∷ []) ≡ (1 ∷ []) ∷ (0 ∷ []) ∷ []
of_two = refl

of_one : facets_of {X = ℕ} (0 ∷ []) ≡ []
of_one = refl

-- names of one leaf
abbrev n0 : List ℕ
n0 = 0 ∷ []

abbrev n1 : List ℕ
n1 = 1 ∷ []

abbrev n2 : List ℕ
n2 = 2 ∷ []

abbrev n3 : List ℕ
n3 = 3 ∷ []

abbrev n4 : List ℕ
n4 = 4 ∷ []

-- a point on the axis x
abbrev at_x : ℕ → Point
at_x x = numbers (pos x) (pos 0) (pos 0) (pos 0) (pos 1)

-- cells of five points
abbrev of_five : List Cell → SheetData
of_five cells = record {
  names = n0 ∷ n1 ∷ n2 ∷ n3 ∷ n4 ∷ [];
  points = at_x 0 ∷ at_x 1 ∷ at_x 2 ∷ at_x 3 ∷ at_x 4 ∷ [];
  cells = cells;
}

-- a tetrahedron, and another one behind its facet 1 2 3
abbrev pair : SheetData
pair = of_five ((n0 ∷ n1 ∷ n2 ∷ n3 ∷ []) ∷ (n4 ∷ n1 ∷ n3 ∷ n2 ∷ []) ∷ [])

-- three facets of each are left
pair_cells : (boundary_of pair).cells
    ≡ (n2 ∷ n0 ∷ n3 ∷ []) ∷ (n0 ∷ n1 ∷ n3 ∷ []) ∷ (n1 ∷ n0 ∷ n2 ∷ [])
    ∷ (n3 ∷ n4 ∷ n2 ∷ []) ∷ (n4 ∷ n1 ∷ n2 ∷ []) ∷ (n1 ∷ n4 ∷ n3 ∷ []) ∷ []
pair_cells = refl

pair_names : (boundary_of pair).names ≡ pair.names
pair_names = refl

-- a tetrahedron, and a triangle with an edge of it
abbrev two_sizes : SheetData
two_sizes = of_five ((n0 ∷ n1 ∷ n2 ∷ n3 ∷ []) ∷ (n0 ∷ n1 ∷ n4 ∷ []) ∷ [])

-- that edge isn't counted with the tetrahedron, so all facets are left
two_sizes_cells : (boundary_of two_sizes).cells
    ≡ (n1 ∷ n2 ∷ n3 ∷ []) ∷ (n2 ∷ n0 ∷ n3 ∷ []) ∷ (n0 ∷ n1 ∷ n3 ∷ []) ∷ (n1 ∷ n0 ∷ n2 ∷ [])
    ∷ (n1 ∷ n4 ∷ []) ∷ (n4 ∷ n0 ∷ []) ∷ (n0 ∷ n1 ∷ []) ∷ []
two_sizes_cells = refl

-- two triangles with an edge: it is in both, and a line's ends are in one line each
abbrev flat : SheetData
flat = of_five ((n0 ∷ n1 ∷ n2 ∷ []) ∷ (n1 ∷ n3 ∷ n2 ∷ []) ∷ (n1 ∷ n4 ∷ []) ∷ [])

flat_cells : (boundary_of flat).cells
    ≡ (n2 ∷ n0 ∷ []) ∷ (n0 ∷ n1 ∷ []) ∷ (n3 ∷ n2 ∷ []) ∷ (n1 ∷ n3 ∷ []) ∷ (n4 ∷ []) ∷ (n1 ∷ []) ∷ []
flat_cells = refl

-- ---- selection

-- a tetrahedron with the scalars 0, 5, 5 and 9, the second 5 as 10 / 2
abbrev one : SheetData
one = record {
  names = n0 ∷ n1 ∷ n2 ∷ n3 ∷ [];
  points =
      numbers (pos 0) (pos 0) (pos 0) (pos 0) (pos 1)
      ∷ numbers (pos 1) (pos 0) (pos 0) (pos 5) (pos 1)
      ∷ numbers (pos 0) (pos 1) (pos 0) (pos 10) (pos 2)
      ∷ numbers (pos 0) (pos 0) (pos 1) (pos 9) (pos 1)
      ∷ [];
  cells = (n0 ∷ n1 ∷ n2 ∷ n3 ∷ []) ∷ [];
}

-- from 5 to 9, both included
from_5_to_9 : map (has_scalar_within (pos 5) (pos 9)) one.points ≡ false ∷ true ∷ true ∷ true ∷ []
from_5_to_9 = refl

-- not all corners are within, but some are
all_from_5 : (selected true (pos 5) (pos 9) one).cells ≡ []
all_from_5 = refl

any_from_5 : selected false (pos 5) (pos 9) one ≡ one
any_from_5 = refl

-- all are from 0 to 9, and none is from 6 to 8
all_from_0 : selected true (pos 0) (pos 9) one ≡ one
all_from_0 = refl

any_from_6 : (selected false (pos 6) (pos 8) one).names ≡ []
any_from_6 = refl

-- ---- meshes joined, and a merge

-- lines on the axis x, with the scalars 1 and 2
abbrev first : SheetData
first = record {
  names = n0 ∷ n1 ∷ [];
  points =
      numbers (pos 0) (pos 0) (pos 0) (pos 1) (pos 1)
      ∷ numbers (pos 1) (pos 0) (pos 0) (pos 2) (pos 1)
      ∷ [];
  cells = (n0 ∷ n1 ∷ []) ∷ [];
}

-- and with 7 at the place of that 2, then 3, and 3 / 2 at one place
abbrev second : SheetData
second = record {
  names = n0 ∷ n1 ∷ n2 ∷ [];
  points =
      numbers (pos 1) (pos 0) (pos 0) (pos 7) (pos 1)
      ∷ numbers (pos 2) (pos 0) (pos 0) (pos 3) (pos 1)
      ∷ numbers (pos 4) (pos 0) (pos 0) (pos 3) (pos 2)
      ∷ [];
  cells = (n1 ∷ n0 ∷ []) ∷ (n1 ∷ n2 ∷ []) ∷ [];
}

-- the sheets of the first mesh, then those of the next ones
joined : appended ((first ∷ one ∷ []) ∷ [] ∷ (second ∷ []) ∷ []) ≡ first ∷ one ∷ second ∷ []
joined = refl

-- each place has one leaf, with the point that comes first; the line that is left with one place goes
merged_points : (merged (first ∷ second ∷ [])).points
    ≡ numbers (pos 0) (pos 0) (pos 0) (pos 1) (pos 1)
    ∷ numbers (pos 1) (pos 0) (pos 0) (pos 2) (pos 1)
    ∷ numbers (pos 2) (pos 0) (pos 0) (pos 3) (pos 1)
    ∷ []
unfolding gcd place_divisor
merged_points = refl

merged_cells : (merged (first ∷ second ∷ [])).cells ≡ (n0 ∷ n1 ∷ []) ∷ (n2 ∷ n1 ∷ []) ∷ []
unfolding gcd place_divisor
merged_cells = refl

merged_names : (merged (first ∷ second ∷ [])).names ≡ n0 ∷ n1 ∷ n2 ∷ []
unfolding gcd place_divisor
merged_names = refl
