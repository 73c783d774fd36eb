-- The steps of reading a file: a word, a number or a keyword that is due, a test (VTK User's
-- Guide, "Simple legacy formats"; docs/FORMATS-OF-FILES.md, "Reading").
use Rattle.std.specs.Prelude.{ℕ, ℤ, Bool, true, false, ◌||◌, List, [], ◌∷◌, ◌==◌, length, codes}
use Rattle.std.specs.Prelude.{Option, Some, None, option_map, unwrap_or, ok_or, Result, Ok, Err}
use Rattle.std.specs.Prelude.{if◌then◌else◌}
use Rattle.std.specs.Str.{str_eq_ignore_ascii_case}
use Rattle.viz_lex.specs.declared.fault.FileKind.{FileKind}
use Rattle.viz_lex.specs.declared.fault.FileKind.TheVariants.{Keyword, HeaderNumber, Truncated}
use Rattle.viz_lex.specs.declared.fault.FileKind.TheVariants.{Unsupported}
use Rattle.viz_lex.specs.declared.fault.FileFault.{FileFault}
use Rattle.viz_lex.specs.declared.span.Span.{Span}
use Rattle.viz_lex.specs.Reading.{Reading, rest_of, fault_at, ◌>>=◌}
use Rattle.viz_lex.specs.Words.{is_blank, word_at, text_of}
use Rattle.viz_lex.specs.Numbers.{number_at}
use Rattle.viz_lex.specs.Decimals.{decimal_of, limited}

-- a step that goes on where the test holds
abbrev pub guard : Bool → FileKind → ℕ → Result (Unit {0}) FileFault
guard test kind place = if test then Ok tt else Err (fault_at kind place)

-- where the next word starts, or the end where there is none
abbrev pub start_at : Reading → ℕ
start_at r = unwrap_or (option_map (λ (found : Span × Reading). found.0.start) (word_at r))
    (length r.bytes)

-- two words are the same but for the case of letters
abbrev pub same_word : List ℕ → List ℕ → Bool
same_word a b = str_eq_ignore_ascii_case a b

-- something was found
abbrev pub has : {A : Type 0} → Option A → Bool
has None = false
has (Some x) = true

-- the next word, which is due: its place and its bytes
unfoldable pub due_word : Reading → Result ((ℕ × List ℕ) × Reading) FileFault
due_word r = do
  found ← ok_or (word_at r) (fault_at Truncated (length r.bytes))
  Ok ((found.0.start, text_of r found.0), found.1)

-- the next word, which is due to be a whole number: its place and the number
unfoldable pub due_number : Reading → Result ((ℕ × ℤ) × Reading) FileFault
due_number r = do
  word ← due_word r
  n ← number_at word.0.1 word.0.0
  Ok ((word.0.0, n), word.1)

-- the next word, which is due to be a decimal: its place and its billionths
unfoldable pub due_decimal : Reading → Result ((ℕ × ℤ) × Reading) FileFault
due_decimal r = do
  word ← due_word r
  z ← ok_or (limited (decimal_of word.0.1)) (fault_at HeaderNumber word.0.0)
  Ok ((word.0.0, z), word.1)

-- the keywords of the format that aren't read here
abbrev pub is_left_out : List ℕ → Bool
is_left_out word =
    same_word word (codes "GLOBAL_IDS") || same_word word (codes "PEDIGREE_IDS")
    || same_word word (codes "TENSORS6") || same_word word (codes "EDGE_FLAGS")

-- what is wrong with a word that stands in the place of a keyword and is none that may stand there
abbrev pub keyword_kind : List ℕ → FileKind
keyword_kind word = if is_left_out word then Unsupported else Keyword

-- the next word is this keyword, in any case of letters
unfoldable pub keyword_at : List ℕ → Reading → Result (Unit {0} × Reading) FileFault
keyword_at keyword r = do
  word ← due_word r
  is ← guard (same_word word.0.1 keyword) (keyword_kind word.0.1) word.0.0
  Ok (tt, word.1)

-- the next word is this one, in any case of letters
abbrev pub is_next : List ℕ → Reading → Bool
is_next keyword r = unwrap_or
    (option_map (λ (found : Span × Reading). same_word (text_of r found.0) keyword)
    (word_at r)) false

-- a byte that is no blank stands before the next newline
abbrev pub continues : List ℕ → Bool
continues [] = false
continues (b ∷ bs) = if b == 10 then false else (if is_blank b then continues bs else true)

-- a word stands on the line of this place
abbrev pub is_beside : Reading → Bool
is_beside r = continues (rest_of r)
