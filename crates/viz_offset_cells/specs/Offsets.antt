-- The cells of a section of version 5.1 (VTK's documentation, "VTK File Formats", legacy files of
-- version 5.1; docs/FORMATS-OF-FILES.md, "Sections of version 5.1").
use Rattle.std.specs.Prelude.{ℕ, ℤ, pos, negsuc, ◌+◌, ◌-◌, Bool, false, not, ◌&&◌, ◌||◌, ◌==◌}
use Rattle.std.specs.Prelude.{nat_le, unsigned_abs, get_or, List, [], length, codes, Option, Some}
use Rattle.std.specs.Prelude.{None, unwrap_or, if◌then◌else◌}
use Rattle.viz_column.specs.declared.kind.Kind8.{Kind8}
use Rattle.viz_column.specs.declared.kind.Kind8.TheVariants.{U8, I32, U32}
use Rattle.viz_column.specs.Kinds.{size_of, fits}
use Rattle.viz_column.specs.Bytes.{number_in}
use Rattle.viz_lex.specs.declared.fault.FileKind.TheVariants.{Keyword, ValueRange, Count, Index}
use Rattle.viz_lex.specs.declared.fault.FileKind.TheVariants.{Unsupported}
use Rattle.viz_lex.specs.Reading.{Reading, fault_at}
use Rattle.viz_lex.specs.Steps.{same_word, has, is_next}
use Rattle.viz_lex.specs.Rules.{Rule, gives, demand, choose, beside, ◌>>=◌}
use Rattle.viz_lex.specs.Repeats.{times, times_knowing}
use Rattle.viz_lex.specs.Items.{word, number, keyword, block}
use Rattle.viz_attr.specs.declared.types.Stored.{Stored}
use Rattle.viz_attr.specs.declared.types.Stored.TheVariants.{Whole, Float, Double}
use Rattle.viz_attr.specs.Types.{stored_of, is_left_out_type}
use Rattle.viz_attr.specs.Counts.{count_from}
use Rattle.viz_counted_cells.specs.Sections.{here, section_start, is_index, section_size}
use Rattle.viz_counted_cells.specs.Sections.{numbers_of_cells}
use Rattle.viz_offset_cells.specs.Runs.{runs_between}

-- the kind of whole numbers, where a type is one
abbrev pub whole_kind : Option Stored → Option Kind8
whole_kind None = None
whole_kind (Some (Whole kind)) = Some kind
whole_kind (Some Float) = None
whole_kind (Some Double) = None

-- the kind that a type word of offsets or indices names, in any case of letters
abbrev pub kind_named : List ℕ → Option Kind8
kind_named word =
    if same_word word (codes "vtktypeint32") then Some I32
    else (if same_word word (codes "vtktypeuint32") then Some U32 else whole_kind (stored_of word))

-- a type of whole numbers, which is due
abbrev pub index_type : Rule Kind8
index_type = do
  w ← word
  demand (not (is_left_out_type w.1)) (fault_at Unsupported w.0) (
      demand (has (kind_named w.1)) (fault_at Keyword w.0)
      (gives (unwrap_or (kind_named w.1) U8)))

-- a number of a kind in BINARY: its place and the number
abbrev pub block_number : Kind8 → Rule (ℕ × ℤ)
block_number kind = do
  place ← here
  bytes ← block (size_of kind)
  gives (place, number_in kind bytes)

-- a number of a kind in ASCII, which is in its range: its place and the number
abbrev pub word_number : Kind8 → Rule (ℕ × ℤ)
word_number kind = do
  n ← number
  demand (fits kind n.1) (fault_at ValueRange n.0) (gives n)

-- the next number of a kind: its place and the number
abbrev pub typed_number : Bool → Kind8 → Rule (ℕ × ℤ)
typed_number binary kind = choose binary (block_number kind) (word_number kind)

-- the last of a list, and 0 where there is none
abbrev pub last_of : List ℕ → ℕ
last_of list = get_or list (length list - 1) 0

-- an offset behind those before: the first is 0, and no other is less than the one before
abbrev pub is_in_order : List ℕ → ℕ → Bool
is_in_order before n = if length before == 0 then n == 0 else nat_le (last_of before) n

-- a number is an offset behind those before, and the last of so many offsets is how many indices
-- there are
abbrev pub is_offset : ℕ → ℕ → List ℕ → ℤ → Bool
is_offset most indices before (pos n) = is_in_order before n
    && (not (length before + 1 == most) || n == indices)
is_offset most indices before (negsuc n) = false

-- an offset behind those before
abbrev pub offset : Bool → Kind8 → ℕ → ℕ → List ℕ → Rule ℕ
offset binary kind most indices before = do
  n ← typed_number binary kind
  demand (is_offset most indices before n.1) (fault_at Count n.0) (gives (unsigned_abs n.1))

-- OFFSETS type, and so many offsets into so many indices
abbrev pub offsets : Bool → ℕ → ℕ → Rule (List ℕ)
offsets binary most indices = do
  key ← keyword (codes "OFFSETS")
  kind ← index_type
  started ← section_start binary
  times_knowing most (offset binary kind most indices)

-- an index of a point
abbrev pub index : Bool → Kind8 → ℕ → Rule ℕ
index binary kind points = do
  n ← typed_number binary kind
  demand (is_index points n.1) (fault_at Index n.0) (gives (unsigned_abs n.1))

-- CONNECTIVITY type, and so many indices
abbrev pub connectivity : Bool → ℕ → ℕ → Rule (List ℕ)
connectivity binary points indices = do
  key ← keyword (codes "CONNECTIVITY")
  kind ← index_type
  started ← section_start binary
  times indices (index binary kind points)

-- the cells of both: the runs of the connectivity between neighbouring offsets
abbrev pub cut_cells : Bool → ℕ → ℕ → ℕ → Rule (List (List ℕ))
cut_cells binary points most indices = do
  cuts ← offsets binary most indices
  list ← connectivity binary points indices
  gives (runs_between cuts list)

-- both stand there, where there is some offset or the word OFFSETS is next
abbrev pub has_cuts : ℕ → Reading → Bool
has_cuts most r = not (most == 0) || is_next (codes "OFFSETS") r

-- a section behind its keyword: how many offsets and how many indices, and then both
abbrev pub offset_section : Bool → ℕ → Rule (List (List ℕ))
offset_section binary points = do
  most ← count_from 0
  indices ← section_size most
  beside (has_cuts most) (cut_cells binary points most indices) (gives [])

-- a section by the numbers of its cells: of each its count and its indices
abbrev pub offset_numbers : Bool → ℕ → Rule (ℕ × List ℕ)
offset_numbers binary points = do
  all ← offset_section binary points
  gives (length all, numbers_of_cells all)
