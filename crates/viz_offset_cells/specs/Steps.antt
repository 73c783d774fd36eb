-- The readers of a section of version 5.1, which proofs compare with the rules
-- (docs/FORMATS-OF-FILES.md, "Sections of version 5.1").
use Rattle.std.specs.Prelude.{◌≡◌, ◌≤◌, ℕ, ℤ, ◌-◌, Bool, not, List, [], ◌∷◌, ◌++◌, length}
use Rattle.std.specs.Prelude.{codes, unwrap_or, unsigned_abs, Result, Ok, if◌then◌else◌}
use Rattle.viz_column.specs.declared.kind.Kind8.{Kind8}
use Rattle.viz_column.specs.declared.kind.Kind8.TheVariants.{U8}
use Rattle.viz_column.specs.Kinds.{size_of, fits}
use Rattle.viz_column.specs.Bytes.{number_in}
use Rattle.viz_lex.specs.declared.fault.FileFault.{FileFault}
use Rattle.viz_lex.specs.declared.fault.FileKind.TheVariants.{Keyword, ValueRange, Count, Index}
use Rattle.viz_lex.specs.declared.fault.FileKind.TheVariants.{Unsupported}
use Rattle.viz_lex.specs.Reading.{Reading, ◌>>=◌}
use Rattle.viz_lex.specs.Steps.{guard, has, due_word, due_number, keyword_at}
use Rattle.viz_lex.specs.Readers.{known_at, bytes_at}
use Rattle.viz_attr.specs.Types.{is_left_out_type}
use Rattle.viz_attr.specs.Steps.{count_from_at}
use Rattle.viz_counted_cells.specs.Sections.{is_index}
use Rattle.viz_counted_cells.specs.Steps.{section_start_at, section_size_at}
use Rattle.viz_offset_cells.specs.Offsets.{kind_named, is_offset, has_cuts}

-- a type
unfoldable pub index_type_at : Reading → Result (Kind8 × Reading) FileFault
index_type_at r = do
  word ← due_word r
  known ← guard (not (is_left_out_type word.0.1)) Unsupported word.0.0
  is ← guard (has (kind_named word.0.1)) Keyword word.0.0
  Ok (unwrap_or (kind_named word.0.1) U8, word.1)

-- a number in BINARY
unfoldable pub block_number_at : Kind8 → Reading → Result ((ℕ × ℤ) × Reading) FileFault
block_number_at kind r = do
  bytes ← bytes_at (size_of kind) r
  Ok ((r.place, number_in kind bytes.0), bytes.1)

-- a number in ASCII
unfoldable pub word_number_at : Kind8 → Reading → Result ((ℕ × ℤ) × Reading) FileFault
word_number_at kind r = do
  n ← due_number r
  within ← guard (fits kind n.0.1) ValueRange n.0.0
  Ok (n.0, n.1)

-- the next number
unfoldable pub typed_number_at : Bool → Kind8 → Reading → Result ((ℕ × ℤ) × Reading) FileFault
typed_number_at binary kind r = if binary then block_number_at kind r else word_number_at kind r

-- an offset behind those before
unfoldable pub offset_at : Bool → Kind8 → ℕ → ℕ → List ℕ → Reading
    → Result (ℕ × Reading) FileFault
offset_at binary kind most indices before r = do
  n ← typed_number_at binary kind r
  is ← guard (is_offset most indices before n.0.1) Count n.0.0
  Ok (unsigned_abs n.0.1, n.1)

-- OFFSETS
unfoldable pub offsets_at : Bool → ℕ → ℕ → Reading → Result (List ℕ × Reading) FileFault
offsets_at binary most indices r = do
  key ← keyword_at (codes "OFFSETS") r
  kind ← index_type_at key.1
  started ← section_start_at binary kind.1
  known_at (offset_at binary kind.0 most indices) most [] started.1

-- an index
unfoldable pub index_at : Bool → Kind8 → ℕ → Reading → Result (ℕ × Reading) FileFault
index_at binary kind points r = do
  n ← typed_number_at binary kind r
  is ← guard (is_index points n.0.1) Index n.0.0
  Ok (unsigned_abs n.0.1, n.1)

-- so many indices, behind the numbers before
abbrev pub run_at : Bool → Kind8 → ℕ → ℕ → List ℕ → Reading
    → Result (List ℕ × Reading) FileFault
run_at binary kind points n numbers r =
    known_at (λ before. index_at binary kind points) n numbers r

-- the cells from an offset on, each to the next, behind the numbers before
unfoldable pub runs_at : Bool → Kind8 → ℕ → ℕ → List ℕ → List ℕ → Reading
    → Result (List ℕ × Reading) FileFault
runs_at binary kind points first [] numbers r = Ok (numbers, r)
runs_at binary kind points first (next ∷ offsets) numbers r =
    run_at binary kind points (next - first) (numbers ++ (next - first) ∷ []) r
    >>= λ x. runs_at binary kind points next offsets x.0 x.1

-- the cells between offsets
abbrev pub all_runs_at : Bool → Kind8 → ℕ → List ℕ → Reading → Result (List ℕ × Reading) FileFault
all_runs_at binary kind points [] r = Ok ([], r)
all_runs_at binary kind points (first ∷ offsets) r = runs_at binary kind points first offsets [] r

-- CONNECTIVITY, of which the cells between offsets are kept
unfoldable pub connectivity_at : Bool → ℕ → List ℕ → Reading → Result (List ℕ × Reading) FileFault
connectivity_at binary points offsets r = do
  key ← keyword_at (codes "CONNECTIVITY") r
  kind ← index_type_at key.1
  started ← section_start_at binary kind.1
  all_runs_at binary kind.0 points offsets started.1

-- both
unfoldable pub cut_cells_at : Bool → ℕ → ℕ → ℕ → Reading
    → Result ((ℕ × List ℕ) × Reading) FileFault
cut_cells_at binary points most indices r = do
  cuts ← offsets_at binary most indices r
  numbers ← connectivity_at binary points cuts.0 cuts.1
  Ok ((length cuts.0 - 1, numbers.0), numbers.1)

-- both, where they stand there
unfoldable pub any_cells_at : Bool → ℕ → ℕ → ℕ → Reading
    → Result ((ℕ × List ℕ) × Reading) FileFault
any_cells_at binary points most indices r =
    if has_cuts most r then cut_cells_at binary points most indices r else Ok ((0, []), r)

-- a section
unfoldable pub offset_section_at : Bool → ℕ → Reading → Result ((ℕ × List ℕ) × Reading) FileFault
offset_section_at binary points r = do
  most ← count_from_at 0 r
  indices ← section_size_at most.0 most.1
  any_cells_at binary points most.0 indices.0 indices.1

-- offsets that don't fall, from one on to the last, which is n
abbrev pub AreCuts : ℕ → List ℕ → ℕ → Type 0
AreCuts first [] n = first ≡ n
AreCuts first (next ∷ offsets) n = (first ≤ next) × AreCuts next offsets n

-- the first is 0, and there is none exactly where there is no index
abbrev pub AreAllCuts : List ℕ → ℕ → Type 0
AreAllCuts [] n = n ≡ 0
AreAllCuts (first ∷ offsets) n = (first ≡ 0) × AreCuts first offsets n
