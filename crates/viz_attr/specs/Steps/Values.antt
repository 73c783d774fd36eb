-- The readers of values, which proofs compare with the rules (docs/FORMATS-OF-FILES.md, "Attribute
-- parts").
use Rattle.std.specs.Prelude.{ℕ, ℤ, zero, suc, ◌-◌, ◌*◌, Bool, true, false, List, Option, Some}
use Rattle.std.specs.Prelude.{None, Result, Ok, if◌then◌else◌}
use Rattle.viz_column.specs.declared.kind.Kind8.{Kind8}
use Rattle.viz_column.specs.Kinds.{fits}
use Rattle.viz_column.specs.Numbers.{Numbers}
use Rattle.viz_lex.specs.declared.fault.FileKind.TheVariants.{ValueRange}
use Rattle.viz_lex.specs.declared.fault.FileFault.{FileFault}
use Rattle.viz_lex.specs.Reading.{Reading, ◌>>=◌}
use Rattle.viz_lex.specs.Words.{line_end_at}
use Rattle.viz_lex.specs.Passing.{words_at}
use Rattle.viz_lex.specs.Numbers.{whole_at}
use Rattle.viz_lex.specs.Steps.{guard, start_at}
use Rattle.viz_lex.specs.Readers.{times_at, bytes_at}
use Rattle.viz_attr.specs.declared.types.Stored.{Stored}
use Rattle.viz_attr.specs.Types.{bytes_of}
use Rattle.viz_attr.specs.Values.{kind_of, block_numbers}

-- one value
unfoldable pub value_at : Kind8 → Reading → Result (ℤ × Reading) FileFault
value_at kind r = do
  n ← whole_at r
  within ← guard (fits kind n.0) ValueRange (start_at r)
  Ok n

-- so many values, of which none is kept
unfoldable pub others_at : Kind8 → ℕ → Reading → Result (Unit {0} × Reading) FileFault
others_at kind zero r = Ok (tt, r)
others_at kind (suc n) r = value_at kind r >>= λ x. others_at kind n x.1

-- one tuple
unfoldable pub tuple_at : Kind8 → ℕ → Reading → Result (ℤ × Reading) FileFault
tuple_at kind components r = do
  first ← value_at kind r
  others ← others_at kind (components - 1) first.1
  Ok (first.0, others.1)

-- so many tuples
unfoldable pub tuples_at : Kind8 → ℕ → ℕ → Reading → Result (List ℤ × Reading) FileFault
tuples_at kind components tuples r = times_at (tuple_at kind components) tuples r

-- so many tuples, as a column
unfoldable pub column_at : Kind8 → ℕ → ℕ → Reading → Result (Numbers × Reading) FileFault
column_at kind components tuples r = do
  numbers ← tuples_at kind components tuples r
  Ok (record { kind = kind; items = numbers.0 }, numbers.1)

-- values in ASCII
unfoldable pub text_values_at : Bool → Stored → ℕ → ℕ → Reading
    → Result (Option Numbers × Reading) FileFault
text_values_at true stored tuples components r = do
  column ← column_at (kind_of stored) components tuples r
  Ok (Some column.0, column.1)
text_values_at false stored tuples components r = do
  passed ← words_at (tuples * components) r
  Ok (None, passed.1)

-- the bytes behind the end of the line
unfoldable pub line_bytes_at : ℕ → Reading → Result (List ℕ × Reading) FileFault
line_bytes_at n r = line_end_at r >>= λ ended. bytes_at n ended.1

-- values in BINARY
unfoldable pub block_values_at : Bool → Stored → ℕ → ℕ → Reading
    → Result (Option Numbers × Reading) FileFault
block_values_at picked stored tuples components r = do
  bytes ← line_bytes_at (tuples * components * bytes_of stored) r
  Ok (block_numbers picked stored tuples components bytes.0, bytes.1)

-- values
unfoldable pub values_at : Bool → Bool → Stored → ℕ → ℕ → Reading
    → Result (Option Numbers × Reading) FileFault
values_at binary picked stored tuples components r =
    if binary then block_values_at picked stored tuples components r
    else text_values_at picked stored tuples components r
