-- The readers of types and counts, which proofs compare with the rules (docs/FORMATS-OF-FILES.md,
-- "Attribute parts").
use Rattle.std.specs.Prelude.{ℕ, ◌^◌, Bool, not, ◌&&◌, Result, Ok, unsigned_abs, if◌then◌else◌}
use Rattle.viz_lex.specs.declared.fault.FileKind.TheVariants.{Keyword, Count, FloatArray, TooMany}
use Rattle.viz_lex.specs.declared.fault.FileKind.TheVariants.{Unsupported}
use Rattle.viz_lex.specs.declared.fault.FileFault.{FileFault}
use Rattle.viz_lex.specs.Reading.{Reading, ◌>>=◌}
use Rattle.viz_lex.specs.Steps.{guard, has, due_word, due_number, is_beside}
use Rattle.viz_attr.specs.declared.types.Stored.{Stored}
use Rattle.viz_attr.specs.Types.{stored_of, is_left_out_type, is_real, named_by}
use Rattle.viz_attr.specs.Counts.{is_number, is_at_least, is_below}

-- a type, which is due
unfoldable pub type_at : Bool → Reading → Result (Stored × Reading) FileFault
type_at read r = do
  word ← due_word r
  known ← guard (not (is_left_out_type word.0.1)) Unsupported word.0.0
  is ← guard (has (stored_of word.0.1)) Keyword word.0.0
  whole ← guard (not (read && is_real (named_by word.0.1))) FloatArray word.0.0
  Ok (named_by word.0.1, word.1)

-- a count
unfoldable pub count_from_at : ℕ → Reading → Result (ℕ × Reading) FileFault
count_from_at least r = do
  n ← due_number r
  enough ← guard (is_at_least least n.0.1) Count n.0.0
  few ← guard (is_below (2 ^ 31) n.0.1) TooMany n.0.0
  Ok (unsigned_abs n.0.1, n.1)

-- from 1 to 3
unfoldable pub dimension_at : Reading → Result (ℕ × Reading) FileFault
dimension_at r = do
  n ← due_number r
  is ← guard (is_at_least 1 n.0.1 && is_below 4 n.0.1) Count n.0.0
  Ok (unsigned_abs n.0.1, n.1)

-- the number of points or cells again
unfoldable pub same_count_at : ℕ → Reading → Result (Unit {0} × Reading) FileFault
same_count_at count r = do
  n ← due_number r
  same ← guard (is_number count n.0.1) Count n.0.0
  Ok (tt, n.1)

-- how many components
unfoldable pub components_at : Reading → Result (ℕ × Reading) FileFault
components_at r = if is_beside r then count_from_at 1 r else Ok (1, r)
