-- What is passed over: words by their number, and the lines of METADATA (docs/FORMATS-OF-FILES.md,
-- "Reading").
use Rattle.std.specs.Prelude.{◌≡◌, ◌≢◌, ℕ, zero, suc, Bool, false, ◌&&◌, ◌==◌, nat_lt, List, []}
use Rattle.std.specs.Prelude.{◌∷◌, ◌++◌, length, All, ◌⊎◌, ok_or, Result, Ok, if◌then◌else◌}
use Rattle.viz_lex.specs.declared.fault.FileFault.{FileFault}
use Rattle.viz_lex.specs.declared.fault.FileKind.TheVariants.{Truncated}
use Rattle.viz_lex.specs.Reading.{Reading, rest_of, advanced, fault_at, ◌>>=◌}
use Rattle.viz_lex.specs.Words.{word_at, HasNoNewline, IsNextWord}

-- the next n words, one after the other, and the place behind the last of them
unfoldable pub words_at : ℕ → Reading → Result (Unit {0} × Reading) FileFault
words_at zero r = Ok (tt, r)
words_at (suc n) r = do
  found ← ok_or (word_at r) (fault_at Truncated (length r.bytes))
  words_at n found.1

-- whether a newline is the first byte
abbrev pub newline_first : List ℕ → Bool
newline_first [] = false
newline_first (b ∷ bs) = b == 10

-- how long the empty line in front is with its newline, and 0 where none stands there
abbrev pub empty_line : List ℕ → ℕ
empty_line [] = 0
empty_line (b ∷ bs) = if b == 10 then 1 else (if b == 13 && newline_first bs then 2 else 0)

-- how long the rest of a line and the lines behind it are, up to and with the first empty one
abbrev pub metadata_len : List ℕ → ℕ
metadata_len [] = 0
metadata_len (b ∷ bs) = if b == 10 && nat_lt 0 (empty_line bs) then suc (empty_line bs)
    else suc (metadata_len bs)

-- the place behind the lines of METADATA, whose word was read last
unfoldable pub metadata_at : Reading → Result (Unit {0} × Reading) FileFault
metadata_at r = Ok (tt, advanced r (metadata_len (rest_of r)))

-- n words stand in front, each the next one behind those before it
abbrev pub IsNextWords : ℕ → List ℕ → List ℕ → Type 0
IsNextWords zero text behind = text ≡ behind
IsNextWords (suc n) text behind =
    (gap : List ℕ) × (word : List ℕ) × (later : List ℕ) × IsNextWord text gap word later
    × IsNextWords n later behind

-- an empty line: no byte, or one carriage return alone
abbrev pub IsEmptyLine : List ℕ → Type 0
IsEmptyLine line = (line ≡ []) ⊎ (line ≡ 13 ∷ [])

-- a line that isn't empty
pub record IsFullLine (line : List ℕ) : Type 0 where
  pub one : HasNoNewline line
  pub some : line ≢ []
  pub more : line ≢ 13 ∷ []

-- lines, each with its newline
abbrev pub lines_text : List (List ℕ) → List ℕ
lines_text [] = []
lines_text (line ∷ lines) = line ++ 10 ∷ lines_text lines

-- the rest of a line, lines none of which is empty, and then an empty one stand in front
pub record EndsEmpty (text rest : List ℕ) (lines : List (List ℕ))
    (empty behind : List ℕ) : Type 0 where
  pub parts : text ≡ lines_text (rest ∷ lines) ++ (empty ++ 10 ∷ behind)
  pub one : HasNoNewline rest
  pub full : All IsFullLine lines
  pub is_empty : IsEmptyLine empty

-- none of the lines behind the first is empty, and no newline ends the last of them
abbrev pub NoneEmpty : List (List ℕ) → List ℕ → Type 0
NoneEmpty [] last = HasNoNewline last
NoneEmpty (rest ∷ lines) last = HasNoNewline rest × All IsFullLine lines × HasNoNewline last

-- METADATA runs to the end of the text
abbrev pub RunsOut : List ℕ → Type 0
RunsOut text = (lines : List (List ℕ)) × (last : List ℕ) × (text ≡ lines_text lines ++ last)
    × NoneEmpty lines last

-- behind METADATA: what follows the first empty line, or nothing where there is none
abbrev pub IsBehindMetadata : List ℕ → List ℕ → Type 0
IsBehindMetadata text behind =
    ((rest : List ℕ) × (lines : List (List ℕ)) × (empty : List ℕ)
    × EndsEmpty text rest lines empty behind)
    ⊎ (RunsOut text × (behind ≡ []))
