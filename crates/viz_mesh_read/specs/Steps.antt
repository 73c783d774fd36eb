-- The readers of points and sections, which proofs compare with the rules
-- (docs/FORMATS-OF-FILES.md, "Grids and polydata").
use Rattle.std.specs.Prelude.{ℕ, ℤ, ◌*◌, Bool, true, List, codes, Result, Ok, if◌then◌else◌}
use Rattle.viz_column.specs.declared.kind.Kind8.{Kind8}
use Rattle.viz_column.specs.Kinds.{size_of, fits}
use Rattle.viz_column.specs.Bytes.{numbers_of}
use Rattle.viz_column.specs.Numbers.{Numbers}
use Rattle.viz_lex.specs.declared.fault.FileFault.{FileFault}
use Rattle.viz_lex.specs.declared.fault.FileKind.TheVariants.{ValueRange}
use Rattle.viz_lex.specs.Reading.{Reading, ◌>>=◌}
use Rattle.viz_lex.specs.Words.{line_end_at}
use Rattle.viz_lex.specs.Steps.{guard, due_number, keyword_at}
use Rattle.viz_lex.specs.Readers.{times_at, bytes_at, any_metadata_at}
use Rattle.viz_attr.specs.Values.{kind_of}
use Rattle.viz_attr.specs.Steps.{type_at, count_from_at}
use Rattle.viz_counted_cells.specs.Steps.{section_at}
use Rattle.viz_offset_cells.specs.Steps.{offset_section_at}
use Rattle.viz_mesh_read.specs.declared.coordinates.FilePoints.{FilePoints}

-- a number of an array
unfoldable pub value_at : Kind8 → Reading → Result (ℤ × Reading) FileFault
value_at kind r = do
  n ← due_number r
  within ← guard (fits kind n.0.1) ValueRange n.0.0
  Ok (n.0.1, n.1)

-- so many numbers in ASCII
unfoldable pub text_column_at : Kind8 → ℕ → Reading → Result (Numbers × Reading) FileFault
text_column_at kind n r = do
  items ← times_at (value_at kind) n r
  Ok (record { kind = kind; items = items.0 }, items.1)

-- so many numbers in BINARY
unfoldable pub block_column_at : Kind8 → ℕ → Reading → Result (Numbers × Reading) FileFault
block_column_at kind n r = do
  ended ← line_end_at r
  bytes ← bytes_at (n * size_of kind) ended.1
  Ok (numbers_of kind bytes.0, bytes.1)

-- so many numbers
unfoldable pub column_at : Bool → Kind8 → ℕ → Reading → Result (Numbers × Reading) FileFault
column_at binary kind n r = if binary then block_column_at kind n r else text_column_at kind n r

-- POINTS
unfoldable pub points_at : Bool → Reading → Result (FilePoints × Reading) FileFault
points_at binary r = do
  key ← keyword_at (codes "POINTS") r
  n ← count_from_at 0 key.1
  stored ← type_at true n.1
  numbers ← column_at binary (kind_of stored.0) (3 * n.0) stored.1
  passed ← any_metadata_at numbers.1
  Ok (record { count = n.0; coordinates = numbers.0 }, passed.1)

-- a section in either form
unfoldable pub cell_section_at : Bool → Bool → ℕ → Reading
    → Result ((ℕ × List ℕ) × Reading) FileFault
cell_section_at later binary points r =
    if later then offset_section_at binary points r else section_at binary points r
