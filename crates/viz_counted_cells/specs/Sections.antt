-- The cells of a grid or polydata file, section by section (VTK User's Guide, "Simple legacy
-- formats"; docs/FORMATS-OF-FILES.md, "Grids and polydata").
use Rattle.std.specs.Prelude.{◌≡◌, ◌<◌, ℕ, ℤ, pos, negsuc, zero, suc, ◌+◌, ◌-◌, ◌^◌, All, Bool}
use Rattle.std.specs.Prelude.{false, not, ◌&&◌, ◌||◌, ◌==◌, nat_le, nat_lt, unsigned_abs, List, []}
use Rattle.std.specs.Prelude.{◌∷◌, length}
use Rattle.viz_column.specs.declared.kind.Kind8.TheVariants.{I32}
use Rattle.viz_column.specs.Bytes.{number_in}
use Rattle.viz_lex.specs.declared.fault.FileKind.TheVariants.{Count, Index, TooMany}
use Rattle.viz_lex.specs.Reading.{fault_at}
use Rattle.viz_lex.specs.Rules.{Rule, gives, demand, choose, ◌>>=◌}
use Rattle.viz_lex.specs.Repeats.{times}
use Rattle.viz_lex.specs.Items.{number, line_end, block}
use Rattle.viz_attr.specs.Counts.{is_number, is_at_least, is_below, count_from}
use Rattle.viz_counted_cells.specs.declared.sections.CellSection.{CellSection}
pub use Rattle.viz_counted_cells.specs.Numbered.{cell_numbers, numbers_of_cells}

-- nothing stands there, and the place is the value
abbrev pub here : Rule ℕ
here = record { is = λ old new x. (new ≡ old) × (x ≡ old.place); isnt = λ old f. ⊥ }

-- a signed number of 32 bits in BINARY: its place and the number
abbrev pub block_number : Rule (ℕ × ℤ)
block_number = do
  place ← here
  bytes ← block 4
  gives (place, number_in I32 bytes)

-- the next number of a section, a word in ASCII: its place and the number
abbrev pub section_number : Bool → Rule (ℕ × ℤ)
section_number binary = choose binary block_number number

-- the end of the keyword's line, behind which the numbers stand in BINARY
abbrev pub section_start : Bool → Rule (Unit {0})
section_start binary = choose binary line_end (gives tt)

-- the number is the index of one of so many points
abbrev pub is_index : ℕ → ℤ → Bool
is_index points (pos i) = nat_lt i points
is_index points (negsuc i) = false

-- an index of a point
abbrev pub index : Bool → ℕ → Rule ℕ
index binary points = do
  n ← section_number binary
  demand (is_index points n.1) (fault_at Index n.0) (gives (unsigned_abs n.1))

-- with so many cells and so many numbers left, a cell of c indices leaves a number for each later
-- cell, and the last cell leaves none
abbrev pub is_cell_count : ℕ → ℕ → ℤ → Bool
is_cell_count cells left (pos c) = nat_le (c + cells) left
    && (not (cells == 1) || nat_le left (c + cells))
is_cell_count cells left (negsuc c) = false

-- a cell: its count, and so many indices
abbrev pub cell : Bool → ℕ → ℕ → ℕ → Rule (List ℕ)
cell binary points cells left = do
  c ← section_number binary
  demand (is_cell_count cells left c.1) (fault_at Count c.0)
      (times (unsigned_abs c.1) (index binary points))

-- so many cells, which fill so many numbers
abbrev pub cells : Bool → ℕ → ℕ → ℕ → Rule (List (List ℕ))
cells binary points zero left = gives []
cells binary points (suc n) left = do
  first ← cell binary points (suc n) left
  others ← cells binary points n (left - suc (length first))
  gives (first ∷ others)

-- how many numbers the cells of a section have, which is 0 where there is no cell
abbrev pub section_size : ℕ → Rule ℕ
section_size n = do
  size ← number
  demand (is_at_least 0 size.1) (fault_at Count size.0) (
      demand (is_below (2 ^ 31) size.1) (fault_at TooMany size.0) (
      demand (not (n == 0) || is_number 0 size.1) (fault_at Count size.0)
      (gives (unsigned_abs size.1))))

-- a section behind its keyword: n size, then n cells, each by its indices
abbrev pub section : Bool → ℕ → Rule (List (List ℕ))
section binary points = do
  n ← count_from 0
  size ← section_size n
  started ← section_start binary
  cells binary points n size

-- a section by its numbers as they stand in the file
abbrev pub section_numbers : Bool → ℕ → Rule (ℕ × List ℕ)
section_numbers binary points = do
  all ← section binary points
  gives (length all, numbers_of_cells all)

-- a section, as the code holds it
abbrev pub section_of : CellSection → ℕ × List ℕ
section_of s = (s.count, s.numbers.items)

-- each index is that of one of so many points
abbrev pub HasIndices : ℕ → List ℕ → Type 0
HasIndices points indices = All (λ i. i < points) indices

-- each index of each cell is that of one of so many points
abbrev pub HaveIndices : ℕ → List (List ℕ) → Type 0
HaveIndices points cells = All (HasIndices points) cells
