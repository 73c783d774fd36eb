-- The readers of a FIELD that is passed over, which proofs compare with the rules
-- (docs/FORMATS-OF-FILES.md, "Reading").
use Rattle.std.specs.Prelude.{ℕ, zero, suc, ◌*◌, Bool, true, false, not, ◌||◌, codes, Result, Ok}
use Rattle.std.specs.Prelude.{Err, if◌then◌else◌}
use Rattle.viz_lex.specs.declared.fault.FileKind.TheVariants.{Keyword}
use Rattle.viz_lex.specs.declared.fault.FileFault.{FileFault}
use Rattle.viz_lex.specs.Reading.{Reading, ◌>>=◌}
use Rattle.viz_lex.specs.Passing.{words_at}
use Rattle.viz_lex.specs.Steps.{guard, same_word, due_word}
use Rattle.viz_lex.specs.Readers.{any_metadata_at}
use Rattle.viz_attr.specs.declared.types.Stored.{Stored}
use Rattle.viz_attr.specs.Types.{bytes_of}
use Rattle.viz_attr.specs.Steps.{type_at, count_from_at, line_bytes_at}

-- values in BINARY that are passed over
unfoldable pub line_passed_at : ℕ → Reading → Result (Unit {0} × Reading) FileFault
line_passed_at n r = line_bytes_at n r >>= λ bytes. Ok (tt, bytes.1)

-- values that are passed over
unfoldable pub values_passed_at : Bool → Stored → ℕ → ℕ → Reading
    → Result (Unit {0} × Reading) FileFault
values_passed_at binary stored tuples components r =
    if binary then line_passed_at (tuples * components * bytes_of stored) r
    else words_at (tuples * components) r

-- c t type and the values
unfoldable pub passed_values_at : Bool → Reading → Result (Unit {0} × Reading) FileFault
passed_values_at binary r = do
  c ← count_from_at 1 r
  t ← count_from_at 0 c.1
  stored ← type_at false t.1
  none ← values_passed_at binary stored.0 t.0 c.0 stored.1
  any_metadata_at none.1

-- an array
unfoldable pub passed_array_at : Bool → Bool → Reading → Result (Unit {0} × Reading) FileFault
passed_array_at binary first r = do
  name ← due_word r
  is ← guard (first || not (same_word name.0.1 (codes "METADATA"))) Keyword name.0.0
  passed_values_at binary name.1

-- so many arrays, the first of them or not
unfoldable pub passed_arrays_at : Bool → Bool → ℕ → Reading → Result (Unit {0} × Reading) FileFault
passed_arrays_at binary first zero r = Ok (tt, r)
passed_arrays_at binary first
    (suc n) r = passed_array_at binary first r >>= λ x. passed_arrays_at binary false n x.1

-- behind the word FIELD
unfoldable pub passed_field_at : Bool → Reading → Result (Unit {0} × Reading) FileFault
passed_field_at binary r = do
  name ← due_word r
  k ← count_from_at 0 name.1
  passed_arrays_at binary true k.0 k.1
