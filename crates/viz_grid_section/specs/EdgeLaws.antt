-- What the edges of cells are: the set of the cells' edges, in ascending order
-- (docs/FORMATS-OF-FILTERS.md, "Names of a section").
use Rattle.std.specs.Prelude.{◌≡◌, ℕ, ◌<◌, List, length, slice_index_or, ◌↔◌, Contains}
use Rattle.std.specs.List.{flat_map}
use Rattle.viz_grid_section.specs.Edges.{Edge, edges_of, rank_of, AreAscending}

-- the edges of cells ascend
abbrev pub EdgesAscend : Type 0
EdgesAscend = (cells : List (List Edge)) → AreAscending (edges_of cells)

-- an edge is among them just where it is an edge of a cell
abbrev pub EdgesAreThoseOfCells : Type 0
EdgesAreThoseOfCells = (cells : List (List Edge)) (n : Edge) → Contains (edges_of cells) n
    ↔ Contains (flat_map (λ cell. cell) cells) n

-- the rank of each edge of an ascending list is its index
abbrev pub RankIsIndex : Type 0
RankIsIndex = (edges : List Edge) (i : ℕ) (d : Edge) → AreAscending edges → i < length edges
    → rank_of edges (slice_index_or edges i d) ≡ i
