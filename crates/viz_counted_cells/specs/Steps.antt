-- The readers of counted cells, which proofs compare with the rules (docs/FORMATS-OF-FILES.md,
-- "Grids and polydata").
use Rattle.std.specs.Prelude.{ℕ, ℤ, zero, suc, ◌-◌, ◌^◌, Bool, not, ◌||◌, ◌==◌, unsigned_abs, List}
use Rattle.std.specs.Prelude.{[], ◌∷◌, ◌++◌, length, Result, Ok, if◌then◌else◌}
use Rattle.viz_column.specs.declared.kind.Kind8.TheVariants.{I32}
use Rattle.viz_column.specs.Bytes.{number_in}
use Rattle.viz_lex.specs.declared.fault.FileFault.{FileFault}
use Rattle.viz_lex.specs.declared.fault.FileKind.TheVariants.{Count, Index, TooMany}
use Rattle.viz_lex.specs.Reading.{Reading, ◌>>=◌}
use Rattle.viz_lex.specs.Words.{line_end_at}
use Rattle.viz_lex.specs.Steps.{guard, due_number}
use Rattle.viz_lex.specs.Readers.{bytes_at}
use Rattle.viz_attr.specs.Counts.{is_number, is_at_least, is_below}
use Rattle.viz_attr.specs.Steps.{count_from_at}
use Rattle.viz_counted_cells.specs.Sections.{is_index, is_cell_count}

-- a number in BINARY
unfoldable pub block_number_at : Reading → Result ((ℕ × ℤ) × Reading) FileFault
block_number_at r = do
  bytes ← bytes_at 4 r
  Ok ((r.place, number_in I32 bytes.0), bytes.1)

-- the next number of a section
unfoldable pub section_number_at : Bool → Reading → Result ((ℕ × ℤ) × Reading) FileFault
section_number_at binary r = if binary then block_number_at r else due_number r

-- the end of the keyword's line
unfoldable pub section_start_at : Bool → Reading → Result (Unit {0} × Reading) FileFault
section_start_at binary r = if binary then line_end_at r else Ok (tt, r)

-- an index
unfoldable pub index_at : Bool → ℕ → Reading → Result (ℕ × Reading) FileFault
index_at binary points r = do
  n ← section_number_at binary r
  is ← guard (is_index points n.0.1) Index n.0.0
  Ok (unsigned_abs n.0.1, n.1)

-- so many indices, behind the numbers before
unfoldable pub indices_at : Bool → ℕ → ℕ → List ℕ → Reading → Result (List ℕ × Reading) FileFault
indices_at binary points zero numbers r = Ok (numbers, r)
indices_at binary points
    (suc n) numbers r = index_at binary points r >>= λ i. indices_at binary points n
    (numbers ++ i.0 ∷ []) i.1

-- a cell, behind the numbers before
unfoldable pub cell_at : Bool → ℕ → ℕ → ℕ → List ℕ → Reading → Result (List ℕ × Reading) FileFault
cell_at binary points cells left numbers r = do
  c ← section_number_at binary r
  is ← guard (is_cell_count cells left c.0.1) Count c.0.0
  indices_at binary points (unsigned_abs c.0.1) (numbers ++ unsigned_abs c.0.1 ∷ []) c.1

-- so many cells, behind the numbers before, of which all have so many
unfoldable pub cells_at : Bool → ℕ → ℕ → ℕ → List ℕ → Reading → Result (List ℕ × Reading) FileFault
cells_at binary points size zero numbers r = Ok (numbers, r)
cells_at binary points size (suc n) numbers r = cell_at binary points (suc n)
    (size - length numbers) numbers r >>= λ x. cells_at binary points size n x.0 x.1

-- how many numbers a section has
unfoldable pub section_size_at : ℕ → Reading → Result (ℕ × Reading) FileFault
section_size_at n r = do
  size ← due_number r
  some ← guard (is_at_least 0 size.0.1) Count size.0.0
  few ← guard (is_below (2 ^ 31) size.0.1) TooMany size.0.0
  none ← guard (not (n == 0) || is_number 0 size.0.1) Count size.0.0
  Ok (unsigned_abs size.0.1, size.1)

-- a section
unfoldable pub section_at : Bool → ℕ → Reading → Result ((ℕ × List ℕ) × Reading) FileFault
section_at binary points r = do
  n ← count_from_at 0 r
  size ← section_size_at n.0 n.1
  started ← section_start_at binary size.1
  numbers ← cells_at binary points size.0 n.0 [] started.1
  Ok ((n.0, numbers.0), numbers.1)
