-- The types of an array's values in a file (VTK User's Guide, "Simple legacy formats";
-- docs/FORMATS-OF-FILES.md, "Types").
use Rattle.std.specs.Prelude.{ℕ, Bool, true, false, not, ◌&&◌, ◌||◌, List, codes, Option, Some}
use Rattle.std.specs.Prelude.{None, unwrap_or, if◌then◌else◌}
use Rattle.viz_column.specs.declared.kind.Kind8.{Kind8}
use Rattle.viz_column.specs.declared.kind.Kind8.TheVariants.{I8, U8, I16, U16, I32, U32, I64, U64}
use Rattle.viz_column.specs.Kinds.{size_of}
use Rattle.viz_lex.specs.declared.fault.FileKind.TheVariants.{Keyword, FloatArray, Unsupported}
use Rattle.viz_lex.specs.Reading.{fault_at}
use Rattle.viz_lex.specs.Steps.{same_word, has}
use Rattle.viz_lex.specs.Rules.{Rule, gives, demand, ◌>>=◌}
use Rattle.viz_lex.specs.Items.{word}
use Rattle.viz_attr.specs.declared.types.Stored.{Stored}
use Rattle.viz_attr.specs.declared.types.Stored.TheVariants.{Whole, Float, Double}

-- the twelve type words, in any case of letters
abbrev pub stored_of : List ℕ → Option Stored
stored_of word =
    if same_word word (codes "char") then Some (Whole I8)
    else (if same_word word (codes "unsigned_char") then Some (Whole U8)
    else (if same_word word (codes "short") then Some (Whole I16)
    else (if same_word word (codes "unsigned_short") then Some (Whole U16)
    else (if same_word word (codes "int") then Some (Whole I32)
    else (if same_word word (codes "unsigned_int") then Some (Whole U32)
    else (if same_word word (codes "long") || same_word word (codes "vtktypeint64")
    then Some (Whole I64)
    else (if same_word word (codes "unsigned_long") || same_word word (codes "vtktypeuint64")
    then Some (Whole U64)
    else (if same_word word (codes "float") then Some Float
    else (if same_word word (codes "double") then Some Double
    else None)))))))))

-- the type words of the format that aren't read here
abbrev pub is_left_out_type : List ℕ → Bool
is_left_out_type word =
    same_word word (codes "bit") || same_word word (codes "vtkIdType")
    || same_word word (codes "string") || same_word word (codes "utf8_string")
    || same_word word (codes "variant")

-- float or double
abbrev pub is_real : Stored → Bool
is_real (Whole kind) = false
is_real Float = true
is_real Double = true

-- how many bytes a value has
abbrev pub bytes_of : Stored → ℕ
bytes_of (Whole kind) = size_of kind
bytes_of Float = 4
bytes_of Double = 8

-- the type that a word names, where the word was found to name one
abbrev pub named_by : List ℕ → Stored
named_by word = unwrap_or (stored_of word) Float

-- a type, which is due: no float and no double where numbers are to be read
abbrev pub type_word : Bool → Rule Stored
type_word read = do
  w ← word
  demand (not (is_left_out_type w.1)) (fault_at Unsupported w.0) (
      demand (has (stored_of w.1)) (fault_at Keyword w.0) (
      demand (not (read && is_real (named_by w.1))) (fault_at FloatArray w.0)
      (gives (named_by w.1))))
