-- A clipped volume: the part of tetrahedra where a linear form is at least 0, as tetrahedra that
-- fit together (VTK's vtkClipDataSet; docs/FORMATS-OF-FILTERS.md, "Clipped volumes").
use Rattle.std.specs.Prelude.{◌≡◌, ℕ, List, [], ◌∷◌, length, map, count_by, All}
use Rattle.std.specs.List.{flat_map}
use Rattle.std.specs.Ordering.{is_lt}
use Rattle.viz_fraction.specs.declared.forms.Form.{Form}
use Rattle.viz_fraction.specs.Points.{Point}
use Rattle.viz_fraction.specs.Crossings.{edge_crossing}
use Rattle.viz_sheet.specs.Sheet.{SheetData}
use Rattle.viz_sheet.specs.Ranked.{leaf_names}
use Rattle.viz_meaning.specs.Names.{each_once}
use Rattle.viz_meaning.specs.Narrow.{IsNarrowCell}
use Rattle.viz_meaning.specs.Section.{is_inside_at, point_of}
use Rattle.viz_clip_meaning.specs.declared.vertex.Vertex.{Vertex}
use Rattle.viz_clip_meaning.specs.declared.vertex.Vertex.TheVariants.{Corner, Cut}
use Rattle.viz_clip_meaning.specs.Order.{ascending}
use Rattle.viz_clip_meaning.specs.Vertices.{vertex_cmp}
use Rattle.viz_clip_meaning.specs.Solids.{kept_tets}

-- what is seen of a clipped volume: its vertices, the point of each, and its tetrahedra
pub record ClippedData : Type 0 where
  pub vertices : List Vertex
  pub points : List Point
  pub tets : List (List Vertex)

-- the tetrahedra that are kept of a cell, its corners taken in the order of their names
abbrev pub tets_in : Form → SheetData → List (List ℕ) → List (List Vertex)
tets_in f s cell = kept_tets (map (λ n. is_inside_at f (point_of s n)) (each_once cell))
    (flat_map (λ n. n) (each_once cell))

-- those of all cells, in their order
abbrev pub clipped_tets : Form → SheetData → List (List Vertex)
clipped_tets f s = flat_map (tets_in f s) s.cells

-- the vertices of tetrahedra, each once, ascending
abbrev pub vertices_of : List (List Vertex) → List Vertex
vertices_of tets = ascending vertex_cmp (flat_map (λ tet. tet) tets)

-- the point of a corner, and the crossing of a cut edge
abbrev pub vertex_point : Form → SheetData → Vertex → Point
vertex_point f s (Corner a) = point_of s (a ∷ [])
vertex_point f s (Cut a b) = edge_crossing f (point_of s (a ∷ [])) (point_of s (b ∷ []))

-- the clipped volume of a sheet of tetrahedra
abbrev pub clipped_of : Form → SheetData → ClippedData
clipped_of f s = record {
  vertices = vertices_of (clipped_tets f s);
  points = map (vertex_point f s) (vertices_of (clipped_tets f s));
  tets = clipped_tets f s;
}

-- each cell is a tetrahedron
pub record AreTetrahedra (s : SheetData) : Type 0 where
  pub each : All (λ cell. length cell ≡ 4) s.cells

-- no number of the section in any cell is wide
pub record AreNarrowCells (f : Form) (s : SheetData) : Type 0 where
  pub each : All (IsNarrowCell f s) s.cells

-- the rank of a vertex: how many of the vertices come before it
abbrev pub rank_in : List Vertex → Vertex → ℕ
rank_in vertices v = count_by (λ w. is_lt (vertex_cmp w v)) vertices

-- a clipped volume as a sheet, each vertex a leaf by its rank
abbrev pub sheet_of : ClippedData → SheetData
sheet_of c = record {
  names = leaf_names (length c.vertices);
  points = c.points;
  cells = map (map (λ v. rank_in c.vertices v ∷ [])) c.tets;
}
