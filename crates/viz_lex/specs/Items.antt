-- The items of a file as rules: words, whole numbers and keywords that are due, the end of a line,
-- blocks of bytes, and what is passed over (docs/FORMATS-OF-FILES.md, "Reading").
use Rattle.std.specs.Prelude.{◌≡◌, ◌≢◌, ◌⊎◌, ℕ, ℤ, ◌+◌, ◌<◌, false, List, ◌∷◌, ◌++◌, length, codes}
use Rattle.std.specs.Prelude.{Option, Some, None}
use Rattle.viz_lex.specs.declared.fault.FileKind.TheVariants.{Keyword, Number, ValueRange}
use Rattle.viz_lex.specs.declared.fault.FileKind.TheVariants.{HeaderNumber, Truncated}
use Rattle.viz_lex.specs.Reading.{Reading, rest_of, advanced, fault_at}
use Rattle.viz_lex.specs.Words.{is_filler, IsBlank, IsNextWord, IsFiller, IsLineEnd}
use Rattle.viz_lex.specs.Numbers.{whole_of, fits_i128}
use Rattle.viz_lex.specs.Decimals.{decimal_of, limited}
use Rattle.viz_lex.specs.Steps.{same_word, keyword_kind, is_next}
use Rattle.viz_lex.specs.Passing.{lines_text, EndsEmpty, RunsOut}
use Rattle.viz_lex.specs.Rules.{Rule, gives, refuses, demand, beside, ◌>>=◌}
use Rattle.viz_lex.specs.Repeats.{times}

-- a word stands next: its place and its bytes
pub record IsWordHere (old new : Reading) (word : ℕ × List ℕ) : Type 0 where
  pub gap : List ℕ
  pub behind : List ℕ
  pub next : IsNextWord (rest_of old) gap word.1 behind
  pub place : word.0 ≡ old.place + length gap
  pub new_place : new ≡ advanced old (length gap + length word.1)

-- a word, which is due
abbrev pub word : Rule (ℕ × List ℕ)
word = record {
  is = IsWordHere;
  isnt = λ old fault. IsBlank (rest_of old) × (fault ≡ fault_at Truncated (length old.bytes));
}

-- so many words, whatever they are
abbrev pub words : ℕ → Rule (Unit {0})
words n = do
  ws ← times n word
  gives tt

-- a keyword, which is due, in any case of letters
abbrev pub keyword : List ℕ → Rule (Unit {0})
keyword text = do
  w ← word
  demand (same_word w.1 text) (fault_at (keyword_kind w.1) w.0) (gives tt)

-- the number of a word, where it is one of 128 bits
abbrev pub number_from : Option ℤ → ℕ → Rule (ℕ × ℤ)
number_from None place = refuses (fault_at Number place)
number_from (Some n) place = demand (fits_i128 n) (fault_at ValueRange place) (gives (place, n))

-- a whole number, which is due: its place and the number
abbrev pub number : Rule (ℕ × ℤ)
number = do
  w ← word
  number_from (whole_of w.1) w.0

-- the decimal of a word, where it is one within the limit
abbrev pub decimal_from : Option ℤ → ℕ → Rule (ℕ × ℤ)
decimal_from None place = refuses (fault_at HeaderNumber place)
decimal_from (Some z) place = gives (place, z)

-- a decimal, which is due: its place and its billionths
abbrev pub decimal : Rule (ℕ × ℤ)
decimal = do
  w ← word
  decimal_from (limited (decimal_of w.1)) w.0

-- spaces, tabs and carriage returns, and the newline that is due behind them
abbrev pub line_end : Rule (Unit {0})
line_end = record {
  is = λ old new x. (filler : List ℕ) × (behind : List ℕ) × IsLineEnd (rest_of old) filler behind
      × (new ≡ advanced old (length filler + 1));
  isnt = λ old f.
      (IsFiller (rest_of old) × (f ≡ fault_at Truncated (length old.bytes)))
      ⊎ ((filler : List ℕ) × (b : ℕ) × (behind : List ℕ) × (rest_of old ≡ filler ++ b ∷ behind)
      × IsFiller filler × (is_filler b ≡ false) × (b ≢ 10)
      × (f ≡ fault_at Keyword (old.place + length filler)));
}

-- so many bytes
abbrev pub block : ℕ → Rule (List ℕ)
block n = record {
  is = λ old new bytes. (behind : List ℕ) × (rest_of old ≡ bytes ++ behind) × (length bytes ≡ n)
      × (new ≡ advanced old n);
  isnt = λ old f. (length (rest_of old) < n) × (f ≡ fault_at Truncated (length old.bytes));
}

-- behind the word METADATA: the rest of its line, and lines up to and with the first empty one, or
-- to the end
abbrev pub metadata_lines : Rule (Unit {0})
metadata_lines = record {
  is = λ old new x.
      ((rest : List ℕ) × (lines : List (List ℕ)) × (empty : List ℕ) × (behind : List ℕ)
      × EndsEmpty (rest_of old) rest lines empty behind
      × (new ≡ advanced old (length (lines_text (rest ∷ lines)) + (length empty + 1))))
      ⊎ (RunsOut (rest_of old) × (new ≡ advanced old (length (rest_of old))));
  isnt = λ old f. ⊥;
}

-- METADATA, which may stand here
abbrev pub metadata : Rule (Unit {0})
metadata = beside (is_next (codes "METADATA")) (word >>= λ _. metadata_lines) (gives tt)
