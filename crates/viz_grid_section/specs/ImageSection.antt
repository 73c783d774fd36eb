-- The contour of an image by the edges that it cuts, and that it is the section of the image's
-- tetrahedra (Doi and Koide 1991).
use Rattle.std.specs.Prelude.{◌≡◌, ◌≢◌, ◌↔◌, ℕ, ◌<◌, Bool, false, ℤ, List, map, slice_index_or}
use Rattle.std.specs.Prelude.{All, FitsSigned, int_le}
use Rattle.std.specs.Int.{w64}
use Rattle.viz_extent.specs.Extent.{count_of}
use Rattle.viz_fraction.specs.Points.{Point}
use Rattle.viz_fraction.specs.Forms.{contour_form}
use Rattle.viz_fraction.specs.Crossings.{edge_crossing}
use Rattle.viz_dataset.specs.Images.{ImageData, IsImage}
use Rattle.viz_sheet.specs.Sheet.{SheetData}
use Rattle.viz_meaning.specs.Narrow.{IsNarrowEdge, IsNarrowSection}
use Rattle.viz_meaning.specs.Section.{section_of}
use Rattle.viz_meaning.specs.Tetrahedra.{point_of_leaf, tetrahedra_sheet}
use Rattle.viz_grid_section.specs.Edges.{Edge, edge_leaves, edges_of}
use Rattle.viz_grid_section.specs.GridSection.{grid_cells}

-- which points are inside: those whose scalar is at least the level
abbrev pub insides : ℤ → List ℤ → List Bool
insides level values = map (λ n. int_le level n) values

-- the cells of the contour, by edges
abbrev pub contour_cells : ℤ → ImageData → List (List Edge)
contour_cells level image = grid_cells image.extent (insides level image.values.items)

-- the edges that it cuts
abbrev pub contour_edges : ℤ → ImageData → List Edge
contour_edges level image = edges_of (contour_cells level image)

-- the point of an edge: the crossing between its ends
abbrev pub edge_point : ℤ → ImageData → Edge → Point
edge_point level image e =
    edge_crossing (contour_form level) (point_of_leaf image e.low) (point_of_leaf image e.high)

-- the contour by edges: their names, a crossing for each, and the cells
abbrev pub edge_sheet : ℤ → ImageData → SheetData
edge_sheet level image = record {
  names = map edge_leaves (contour_edges level image);
  points = map (edge_point level image) (contour_edges level image);
  cells = map (map edge_leaves) (contour_cells level image);
}

-- the crossing on an edge isn't wide
abbrev pub IsNarrowAt : ℤ → ImageData → Edge → Type 0
IsNarrowAt level image e =
    IsNarrowEdge (contour_form level) (point_of_leaf image e.low) (point_of_leaf image e.high)

-- no crossing on the edges is wide
pub record AreNarrow (level : ℤ) (image : ImageData) (edges : List Edge) : Type 0 where
  pub each : All (IsNarrowAt level image) edges

-- one of the two ends of an edge is inside, and both are among so many points
pub record IsCutEdge (count : ℕ) (inside : List Bool) (e : Edge) : Type 0 where
  pub low : e.low < count
  pub high : e.high < count
  pub apart : slice_index_or inside e.low false ≢ slice_index_or inside e.high false

-- the section of an image's tetrahedra at a level is the contour by edges
abbrev pub ContourIsSection : Type 0
ContourIsSection =
    (level : ℤ) (image : ImageData) → IsImage image
    → section_of (contour_form level) (tetrahedra_sheet image) ≡ edge_sheet level image

-- at a level of 64 bits no number of that section is wide exactly where no crossing on its edges is
abbrev pub NarrowByEdges : Type 0
NarrowByEdges =
    (level : ℤ) (image : ImageData) → FitsSigned w64 level → IsImage image
    → IsNarrowSection (contour_form level) (tetrahedra_sheet image)
    ↔ AreNarrow level image (contour_edges level image)

-- the edges of a contour have one end inside
abbrev pub EdgesAreCut : Type 0
EdgesAreCut =
    (level : ℤ) (image : ImageData)
    → All (IsCutEdge (count_of image.extent) (insides level image.values.items))
    (contour_edges level image)
