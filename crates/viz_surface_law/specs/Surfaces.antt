-- Sheets of triangles between edges of a grid, and their cells by edges
-- (docs/FORMATS-OF-FILTERS.md, "Names of a section").
use Rattle.std.specs.Prelude.{◌≡◌, ℕ, ◌<◌, List, map, length, slice_index, All}
use Rattle.viz_extent.specs.Extent.{Bounds, count_of}
use Rattle.viz_grid_section.specs.Edges.{Edge}
use Rattle.viz_sheet.specs.Sheet.{SheetData}

-- the edge of a name: its first leaf and its second
abbrev pub edge_named : List ℕ → Edge
edge_named name = record { low = slice_index name 0; high = slice_index name 1 }

-- cells by edges, from cells by names
abbrev pub by_edges : List (List (List ℕ)) → List (List Edge)
by_edges cells = map (map edge_named) cells

-- the name of an edge between two of so many points, the lesser leaf first
pub record IsEdgeName (count : ℕ) (name : List ℕ) : Type 0 where
  pub two : length name ≡ 2
  pub below : All (λ leaf. leaf < count) name
  pub apart : slice_index name 0 < slice_index name 1

-- a sheet of triangles between edges of a grid
pub record IsSurface (b : Bounds) (s : SheetData) : Type 0 where
  pub names : All (IsEdgeName (count_of b)) s.names
  pub triangles : All (λ cell. length cell ≡ 3) s.cells
