-- The readers of a grid, which proofs compare with the rules (docs/FORMATS-OF-FILES.md, "Grids and
-- polydata").
use Rattle.std.specs.Prelude.{ℕ, zero, suc, ◌+◌, Bool, ◌==◌, List, length, codes, unwrap_or}
use Rattle.std.specs.Prelude.{Result, Ok}
use Rattle.viz_lex.specs.declared.fault.FileFault.{FileFault}
use Rattle.viz_lex.specs.declared.fault.FileKind.TheVariants.{Count, CellType}
use Rattle.viz_lex.specs.Reading.{Reading, ◌>>=◌}
use Rattle.viz_lex.specs.Steps.{guard, has, due_word, keyword_at, is_next}
use Rattle.viz_lex.specs.Readers.{skip_at}
use Rattle.viz_attr.specs.PassedSteps.{passed_field_at}
use Rattle.viz_attr.specs.Steps.{same_count_at}
use Rattle.viz_mesh_read.specs.declared.coordinates.FilePoints.{FilePoints}
use Rattle.viz_counted_cells.specs.Numbered.{first_count, behind_first}
use Rattle.viz_counted_cells.specs.Steps.{section_number_at, section_start_at}
use Rattle.viz_mesh_read.specs.Grid.{points_of_type}
use Rattle.viz_mesh_read.specs.Steps.{points_at, cell_section_at}

-- a FIELD
unfoldable pub one_field_at : Bool → Reading → Result (Unit {0} × Reading) FileFault
one_field_at binary r = due_word r >>= λ key. passed_field_at binary key.1

-- FIELDs, in at most so many steps
unfoldable pub fields_in_at : Bool → ℕ → Reading → Result (Unit {0} × Reading) FileFault
fields_in_at binary steps r = skip_at (is_next (codes "FIELD")) (one_field_at binary) steps r

-- FIELDs
unfoldable pub fields_at : Bool → Reading → Result (Unit {0} × Reading) FileFault
fields_at binary r = fields_in_at binary (length r.bytes + 1) r

-- the type of a cell
unfoldable pub cell_type_at : Bool → ℕ → Reading → Result (Unit {0} × Reading) FileFault
cell_type_at binary size r = do
  t ← section_number_at binary r
  known ← guard (has (points_of_type t.0.1)) (CellType t.0.1) t.0.0
  same ← guard (unwrap_or (points_of_type t.0.1) 0 == size) Count t.0.0
  Ok (tt, t.1)

-- the types of so many cells, whose numbers are these
unfoldable pub cell_types_at : Bool → ℕ → List ℕ → Reading → Result (Unit {0} × Reading) FileFault
cell_types_at binary zero numbers r = Ok (tt, r)
cell_types_at binary (suc n) numbers r = cell_type_at binary
    (first_count numbers) r >>= λ x. cell_types_at binary n (behind_first numbers) x.1

-- CELL_TYPES
unfoldable pub types_at : Bool → ℕ × List ℕ → Reading → Result (Unit {0} × Reading) FileFault
types_at binary cells r = do
  key ← keyword_at (codes "CELL_TYPES") r
  n ← same_count_at cells.0 key.1
  started ← section_start_at binary n.1
  cell_types_at binary cells.0 cells.1 started.1

-- the grid
unfoldable pub grid_at : Bool → Bool → Reading
    → Result ((FilePoints × (ℕ × List ℕ)) × Reading) FileFault
grid_at binary later r = do
  before ← fields_at binary r
  p ← points_at binary before.1
  between ← fields_at binary p.1
  key ← keyword_at (codes "CELLS") between.1
  cells ← cell_section_at later binary p.0.count key.1
  behind ← fields_at binary cells.1
  all ← types_at binary cells.0 behind.1
  Ok ((p.0, cells.0), all.1)
