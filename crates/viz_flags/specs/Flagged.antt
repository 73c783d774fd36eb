-- The edges whose flags are set, and that they are those of a section's cells (Doi and Koide 1991).
use Rattle.std.specs.Prelude.{◌≡◌, ℕ, ◌*◌, Bool, List, length, map}
use Rattle.std.specs.List.{range_with_len}
use Rattle.viz_extent.specs.Extent.{Bounds, size_x, plane_size, count_of}
use Rattle.viz_sheet.specs.Kept.{kept, kept_rank, AreMarks}
use Rattle.viz_grid_section.specs.Edges.{Edge, edges_of, rank_of}
use Rattle.viz_grid_section.specs.GridSection.{grid_cells}
use Rattle.viz_flags.specs.Edges.{edge, cells_by}

-- so many edges, by their numbers
abbrev pub all_edges : ℕ → ℕ → ℕ → List Edge
all_edges row plane n = map (edge row plane) (range_with_len 0 n)

-- the flagged edges
unfoldable pub flagged : ℕ → ℕ → List Bool → List Edge
flagged row plane bits = kept bits (all_edges row plane (length bits))

-- where just the ends of a section's cells are flagged, the flagged edges are the edges of the
-- cells
abbrev pub FlaggedAreEdges : Type 0
FlaggedAreEdges =
    (b : Bounds) (inside bits : List Bool) (out : List (List ℕ))
    → cells_by (size_x b) (plane_size b) out ≡ grid_cells b inside
    → AreMarks (8 * count_of b) out bits → flagged (size_x b) (plane_size b) bits
    ≡ edges_of (grid_cells b inside)

-- and the rank of an edge is the number of flags before its own
abbrev pub FlagsAreRanks : Type 0
FlagsAreRanks =
    (b : Bounds) (inside bits : List Bool) (out : List (List ℕ))
    → cells_by (size_x b) (plane_size b) out ≡ grid_cells b inside
    → AreMarks (8 * count_of b) out bits
    → map (λ cell. map (kept_rank bits) cell) out
    ≡ map (λ cell. map (rank_of (edges_of (grid_cells b inside))) cell) (grid_cells b inside)
