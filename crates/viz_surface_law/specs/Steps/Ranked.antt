-- Private: triangles by the ranks of their names, and tests of a side by its two ranks.
use Rattle.std.specs.Prelude.{◌≢◌, ℕ, ◌+◌, ◌/◌, ◌%◌, ◌^◌, ◌<◌, ◌==◌, ◌&&◌, Bool, List, [], ◌∷◌}
use Rattle.std.specs.Prelude.{map, slice_index_or}
use Rattle.viz_extent.specs.Extent.{Bounds}
use Rattle.viz_grid_section.specs.Edges.{Edge}
use Rattle.viz_surface_law.specs.Sides.{side}
use Rattle.viz_surface_law.specs.Closed.{on_boundary}
use Rattle.viz_surface_law.specs.Surfaces.{edge_named}

-- the edge of the name of a rank
abbrev pub edge_at : List (List ℕ) → ℕ → Edge
edge_at names rank = edge_named (slice_index_or names rank [])

-- triangles of ranks by their edges
abbrev pub edges_by : List (List ℕ) → List (List ℕ) → List (List Edge)
edges_by names triangles = map (λ t. map (edge_at names) t) triangles

-- three different ranks of names
abbrev pub IsTriangle : ℕ → List ℕ → Type 0
IsTriangle count (p ∷ q ∷ r ∷ []) = (p < count) × (q < count) × (r < count) × (p ≢ q) × (q ≢ r)
    × (r ≢ p)
IsTriangle count _ = ⊥

-- whether a side lies on the boundary, by its number, which is that of its two ranks
abbrev pub is_at_border : Bounds → List (List ℕ) → ℕ → Bool
is_at_border b names u = on_boundary b (side (edge_at names (u / 2 ^ 31))
    (edge_at names (u % 2 ^ 31)))

-- in exactly one triangle, and on the boundary
abbrev pub in_border : Bounds → List (List ℕ) → ℕ → ℕ → ℕ → Bool
in_border b names u f n = (f + n == 1) && is_at_border b names u

-- both ranks of a side's number are those of names
abbrev pub HasRanks : ℕ → ℕ → Type 0
HasRanks count side = (side / 2 ^ 31 < count) × (side % 2 ^ 31 < count)
