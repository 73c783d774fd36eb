-- The geometry of an unstructured grid (VTK User's Guide, "Simple legacy formats";
-- docs/FORMATS-OF-FILES.md, "Grids and polydata").
use Rattle.std.specs.Prelude.{ℕ, ℤ, pos, negsuc, Bool, ◌==◌, List, [], ◌∷◌, length}
use Rattle.std.specs.Prelude.{codes, Option, Some, None, unwrap_or, if◌then◌else◌}
use Rattle.viz_lex.specs.declared.fault.FileKind.TheVariants.{Count, CellType}
use Rattle.viz_lex.specs.Reading.{fault_at}
use Rattle.viz_lex.specs.Steps.{has, is_next}
use Rattle.viz_lex.specs.Rules.{Rule, gives, demand, ◌>>=◌}
use Rattle.viz_lex.specs.Repeats.{skip}
use Rattle.viz_lex.specs.Items.{word, keyword}
use Rattle.viz_attr.specs.Counts.{same_count}
use Rattle.viz_attr.specs.Passed.{passed_field}
use Rattle.viz_mesh_read.specs.declared.coordinates.FilePoints.{FilePoints}
use Rattle.viz_mesh_read.specs.declared.grids.GridFile.{GridFile}
use Rattle.viz_mesh_read.specs.Points.{points}
use Rattle.viz_counted_cells.specs.Sections.{section_number, section_start, section_of}
use Rattle.viz_mesh_read.specs.CellSections.{cell_section, numbers_of_section}

-- a FIELD that is passed over
abbrev pub one_field : Bool → Rule (Unit {0})
one_field binary = do
  key ← word
  passed_field binary

-- FIELDs, as many as there are
abbrev pub fields : Bool → Rule (Unit {0})
fields binary = skip (is_next (codes "FIELD")) (one_field binary)

-- how many points a cell of a type has: a vertex, a line, a triangle or a tetrahedron
abbrev pub points_of_type : ℤ → Option ℕ
points_of_type (pos t) =
    if t == 1 then Some 1 else (if t == 3 then Some 2
    else (if t == 5 then Some 3 else (if t == 10 then Some 4 else None)))
points_of_type (negsuc t) = None

-- the type of a cell of so many points
abbrev pub cell_type : Bool → ℕ → Rule (Unit {0})
cell_type binary size = do
  t ← section_number binary
  demand (has (points_of_type t.1)) (fault_at (CellType t.1) t.0) (
      demand (unwrap_or (points_of_type t.1) 0 == size) (fault_at Count t.0) (gives tt))

-- the types of cells, one after the other
abbrev pub cell_types : Bool → List (List ℕ) → Rule (Unit {0})
cell_types binary [] = gives tt
cell_types binary (cell ∷ cells) = do
  first ← cell_type binary (length cell)
  cell_types binary cells

-- CELL_TYPES n, and the type of each cell
abbrev pub types : Bool → List (List ℕ) → Rule (Unit {0})
types binary cells = do
  key ← keyword (codes "CELL_TYPES")
  n ← same_count (length cells)
  started ← section_start binary
  cell_types binary cells

-- the points and the cells of a grid
pub record Grid : Type 0 where
  pub points : FilePoints
  pub cells : List (List ℕ)

-- the geometry of a grid, in front of whose keywords FIELDs may stand
abbrev pub grid : Bool → Bool → Rule Grid
grid binary later = do
  before ← fields binary
  p ← points binary
  between ← fields binary
  key ← keyword (codes "CELLS")
  cells ← cell_section later binary p.count
  behind ← fields binary
  all ← types binary cells
  gives (record { points = p; cells = cells })

-- a grid by the numbers of its cells as they stand in the file
abbrev pub grid_numbers : Bool → Bool → Rule (FilePoints × (ℕ × List ℕ))
grid_numbers binary later = do
  g ← grid binary later
  gives (g.points, numbers_of_section g.cells)

-- a grid, as the code holds it
abbrev pub grid_of : GridFile → FilePoints × (ℕ × List ℕ)
grid_of g = (g.points, section_of g.cells)
