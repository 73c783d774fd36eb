-- Surfaces that are closed up to the boundary of a grid: no side ends one inside the grid (Doi and
-- Koide 1991).
use Rattle.std.specs.Prelude.{◌≡◌, ◌⊎◌, ◌↔◌, ℕ, ◌<◌, ◌&&◌, Bool, IsTrue, List, count_by}
use Rattle.std.specs.List.{list_any}
use Rattle.viz_extent.specs.Extent.{Bounds}
use Rattle.viz_surface_law.specs.Facets.{is_on_boundary}
use Rattle.viz_grid_section.specs.Edges.{Edge}
use Rattle.viz_grid_section.specs.GridSection.{grid_cells}
use Rattle.viz_surface_law.specs.Sides.{Side, turned, sides_of, same_side, shares, facet_of}

-- whether a side lies in a facet on the boundary of the grid
abbrev pub on_boundary : Bounds → Side → Bool
on_boundary b s = shares s && is_on_boundary b (facet_of s)

-- how many triangles run through a side in its direction
abbrev pub run_through : List (List Edge) → Side → ℕ
run_through cells s = count_by (λ cell. list_any (same_side s) (sides_of cell)) cells

-- a side lies in exactly two triangles, which run through it in opposite directions
abbrev pub LiesInTwo : List (List Edge) → Side → Type 0
LiesInTwo cells s = (run_through cells s ≡ 1) × (run_through cells (turned s) ≡ 1)

-- a side lies in exactly one triangle
abbrev pub LiesInOne : List (List Edge) → Side → Type 0
LiesInOne cells s = (run_through cells s ≡ 1) × (run_through cells (turned s) ≡ 0)

-- each side of a triangle lies in two triangles, or in one, and in one just where its facet lies
-- on the boundary
abbrev pub IsClosedUpToBoundary : Bounds → List (List Edge) → Type 0
IsClosedUpToBoundary b cells =
    (s : Side) → 0 < run_through cells s
    → (LiesInTwo cells s ⊎ LiesInOne cells s) × (LiesInOne cells s ↔ IsTrue (on_boundary b s))

-- the section of a grid is closed up to the boundary, whichever points are inside
abbrev pub SectionsAreClosed : Type 0
SectionsAreClosed = (b : Bounds) (inside : List Bool) → IsClosedUpToBoundary b (grid_cells b inside)
