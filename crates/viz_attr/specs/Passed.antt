-- A FIELD that stands among the lines of a file's geometry: its arrays are passed over
-- (docs/FORMATS-OF-FILES.md, "Reading").
use Rattle.std.specs.Prelude.{ℕ, Bool, true, false, not, ◌||◌, List, [], ◌∷◌, codes}
use Rattle.viz_lex.specs.declared.fault.FileKind.TheVariants.{Keyword}
use Rattle.viz_lex.specs.Reading.{fault_at}
use Rattle.viz_lex.specs.Steps.{same_word}
use Rattle.viz_lex.specs.Rules.{Rule, gives, demand, ◌>>=◌}
use Rattle.viz_lex.specs.Repeats.{times_knowing}
use Rattle.viz_lex.specs.Items.{word, metadata}
use Rattle.viz_attr.specs.Types.{type_word}
use Rattle.viz_attr.specs.Counts.{count_from}
use Rattle.viz_attr.specs.Values.{values}

-- c t type and the values, and METADATA, which may stand behind them
abbrev pub passed_values : Bool → Rule (Unit {0})
passed_values binary = do
  c ← count_from 1
  t ← count_from 0
  stored ← type_word false
  none ← values binary false stored t c
  metadata

-- an array, whose name isn't METADATA where it isn't the first
abbrev pub passed_array : Bool → Bool → Rule (Unit {0})
passed_array binary first = do
  name ← word
  demand (first || not (same_word name.1 (codes "METADATA"))) (fault_at Keyword name.0)
      (passed_values binary)

-- nothing stands before
abbrev pub is_start : List (Unit {0}) → Bool
is_start [] = true
is_start (x ∷ xs) = false

-- name k, then k arrays: behind the word FIELD
abbrev pub passed_field : Bool → Rule (Unit {0})
passed_field binary = do
  name ← word
  k ← count_from 0
  arrays ← times_knowing k (λ before. passed_array binary (is_start before))
  gives tt
