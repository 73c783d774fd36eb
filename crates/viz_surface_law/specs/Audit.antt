-- The audit of a surface: how many sides it has, in two triangles, in one, and in one on the
-- boundary (Doi and Koide 1991).
use Rattle.std.specs.Prelude.{◌≡◌, ℕ, ◌+◌, ◌==◌, ◌&&◌, Bool, List, map, length, count_by}
use Rattle.std.specs.Prelude.{if◌then◌else◌}
use Rattle.std.specs.List.{flat_map}
use Rattle.std.specs.Set.{unique_keys}
use Rattle.viz_extent.specs.Extent.{Bounds}
use Rattle.viz_grid_section.specs.Edges.{Edge, is_before}
use Rattle.viz_grid_section.specs.GridSection.{grid_cells}
use Rattle.viz_surface_law.specs.Sides.{Side, turned, sides_of, same_side}
use Rattle.viz_surface_law.specs.Closed.{run_through, on_boundary}

-- a side without its direction: run through from the edge that comes first
abbrev pub undirected : Side → Side
undirected s = if is_before s.tail s.head then s else turned s

-- the sides of triangles, each once, without a direction
abbrev pub sides_in : List (List Edge) → List Side
sides_in cells = unique_keys same_side (map undirected (flat_map sides_of cells))

-- whether a side lies in exactly two triangles, which run through it in opposite directions
abbrev pub is_two : List (List Edge) → Side → Bool
is_two cells s = (run_through cells s == 1) && (run_through cells (turned s) == 1)

-- whether it lies in exactly one
abbrev pub is_lone : List (List Edge) → Side → Bool
is_lone cells s = run_through cells s + run_through cells (turned s) == 1

-- whether it does, and its facet lies on the boundary
abbrev pub is_border : Bounds → List (List Edge) → Side → Bool
is_border b cells s = is_lone cells s && on_boundary b s

-- how many sides triangles have
abbrev pub count_sides : List (List Edge) → ℕ
count_sides cells = length (sides_in cells)

-- how many of them lie in two triangles, which run through them in opposite directions
abbrev pub count_two : List (List Edge) → ℕ
count_two cells = count_by (is_two cells) (sides_in cells)

-- how many lie in one
abbrev pub count_lone : List (List Edge) → ℕ
count_lone cells = count_by (is_lone cells) (sides_in cells)

-- how many of these on the boundary
abbrev pub count_border : Bounds → List (List Edge) → ℕ
count_border b cells = count_by (is_border b cells) (sides_in cells)

-- every side of a section lies in two triangles or is a border side, and every lone one is a
-- border side
abbrev pub AuditsAgree : Type 0
AuditsAgree =
    (b : Bounds) (inside : List Bool)
    → let cells = grid_cells b inside in
    (count_sides cells ≡ count_two cells + count_border b cells)
    × (count_lone cells ≡ count_border b cells)
