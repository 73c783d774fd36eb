-- The section of all tetrahedra of a grid, by which of its points are inside (Doi and Koide 1991).
use Rattle.std.specs.Prelude.{ℕ, ◌+◌, ◌*◌, Bool, false, List, [], ◌∷◌, map, slice_index}
use Rattle.std.specs.Prelude.{slice_index_or, if◌then◌else◌}
use Rattle.std.specs.List.{flat_map}
use Rattle.viz_extent.specs.Extent.{Bounds}
use Rattle.viz_kuhn.specs.Cubes.{tetrahedra_of}
use Rattle.viz_fraction.specs.CaseRows.{End}
use Rattle.viz_fraction.specs.Cases.{cells_at}
use Rattle.viz_grid_section.specs.Edges.{Edge, edge_of}

-- a bit that is set where the point of a leaf is inside
abbrev pub bit_of : List Bool → ℕ → ℕ
bit_of inside leaf = if slice_index_or inside leaf false then 1 else 0

-- which corners are inside, a bit for each, the first corner's lowest
abbrev pub mask_of : List Bool → List ℕ → ℕ
mask_of inside [] = 0
mask_of inside (leaf ∷ leaves) = bit_of inside leaf + 2 * mask_of inside leaves

-- a cell by the edges of its ends
abbrev pub named : List ℕ → List End → List Edge
named leaves cell = map (λ (e : End). edge_of (slice_index leaves e.low)
    (slice_index leaves e.high)) cell

-- the cells in one tetrahedron
abbrev pub cells_in : List Bool → List ℕ → List (List Edge)
cells_in inside leaves = map (named leaves) (cells_at 4 (mask_of inside leaves))

-- the cells in all tetrahedra, in their order
abbrev pub grid_cells : Bounds → List Bool → List (List Edge)
grid_cells b inside = flat_map (cells_in inside) (tetrahedra_of b)
