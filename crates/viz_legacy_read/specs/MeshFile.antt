-- The file of a grid or of polydata, behind the word of its dataset (VTK User's Guide, "Simple
-- legacy formats"; docs/FORMATS-OF-FILES.md, "Grids and polydata").
use Rattle.std.specs.Prelude.{ℕ, ◌+◌, Bool, true, false, List, length}
use Rattle.viz_base.specs.declared.node.Pick.{Pick}
use Rattle.viz_attr.specs.Picks.{Given}
use Rattle.viz_attr.specs.Grammar.{attributes}
use Rattle.viz_lex.specs.Rules.{Rule, gives, choose, ◌>>=◌}
use Rattle.viz_mesh_read.specs.Grid.{grid}
use Rattle.viz_mesh_read.specs.Poly.{ByKind, polydata}
use Rattle.viz_mesh_read.specs.Pieces.{pieces_of}
use Rattle.viz_sheet.specs.Sheet.{SheetData}
use Rattle.viz_file_mesh.specs.FileMesh.{mesh_of}
use Rattle.viz_file_mesh.specs.GridPieces.{grid_pieces}
use Rattle.viz_legacy_read.specs.declared.front.DatasetWord.{DatasetWord}
use Rattle.viz_legacy_read.specs.declared.front.DatasetWord.TheVariants.{Points, Grid, Polydata}
use Rattle.viz_legacy_read.specs.declared.front.Preamble.{Preamble}

-- what is asked of the attributes of so many points and cells of the file
abbrev pub asked_of : Preamble → Pick → ℕ → ℕ → Given
asked_of p pick points cells =
    record { binary = p.binary; points = points; cells = cells; pick = pick }

-- a grid, and its attributes to the end
abbrev pub grid_behind : Pick → ℕ → Preamble → Rule (List SheetData)
grid_behind pick unit p = do
  g ← grid p.binary p.later
  picked ← attributes (asked_of p pick g.points.count (length g.cells))
  gives (mesh_of unit g.points picked (grid_pieces g.cells))

-- how many cells there are in all sections
abbrev pub cells_by_kind : ByKind (List (List ℕ)) → ℕ
cells_by_kind all = length all.vertices + length all.lines + length all.polygons + length all.strips

-- polydata, and its attributes to the end
abbrev pub poly_behind : Pick → ℕ → Preamble → Rule (List SheetData)
poly_behind pick unit p = do
  all ← polydata p.binary p.later
  picked ← attributes (asked_of p pick all.points.count (cells_by_kind all.cells))
  gives (mesh_of unit all.points picked (pieces_of all.cells))

-- the word of grids
abbrev pub is_grid_word : DatasetWord → Bool
is_grid_word Points = false
is_grid_word Grid = true
is_grid_word Polydata = false

-- the dataset is a grid
abbrev pub is_grid : Preamble → Bool
is_grid p = is_grid_word p.dataset

-- a grid or polydata
abbrev pub mesh_behind : Pick → ℕ → Preamble → Rule (List SheetData)
mesh_behind pick unit p = choose (is_grid p) (grid_behind pick unit p) (poly_behind pick unit p)
