-- Which bytes spell a token, a line, and the lines of a script (docs/FORMATS-OF-SCRIPTS.md,
-- "Scripts").
use Rattle.std.specs.Prelude.{◌≡◌, ◌<◌, ◌⊎◌, ℕ, true, false, ◌==◌, List, [], ◌∷◌, ◌++◌, length}
use Rattle.std.specs.Prelude.{Some, if◌then◌else◌}
use Rattle.std.specs.List.{list_all}
use Rattle.viz_lex.specs.Words.{HasNoNewline, IsNextLine}
use Rattle.viz_words.specs.Words.{is_gap, begins_word, begins_hash}
use Rattle.viz_words.specs.Numbers.{number_of}
use Rattle.viz_script.specs.Lines.{Line, silent}
use Rattle.viz_script_law.specs.Tokens.{Token, exact, number, line_tokens}

-- spaces and tabs, or nothing
abbrev pub IsGap : List ℕ → Type 0
IsGap text = list_all is_gap text ≡ true

-- the word spells the token; a number may have zeros in front, and 0 a minus sign
abbrev pub SpellsToken : Token → List ℕ → Type 0
SpellsToken (exact text) word = word ≡ text
SpellsToken (number n) word = number_of word ≡ Some n

-- the text is a gap, a word of the token, and what is behind it: nothing, or a space or a tab first
pub record SpellsFirst (token : Token) (behind : List ℕ → Type 0) (text : List ℕ) : Type 0 where
  pub gap : List ℕ
  pub word : List ℕ
  pub rest : List ℕ
  pub parts : text ≡ gap ++ (word ++ rest)
  pub blank : IsGap gap
  pub spelled : SpellsToken token word
  pub ends : begins_word rest ≡ false
  pub later : behind rest

-- the text is words of the tokens in turn, with gaps in front, between them and behind
abbrev pub SpellsTokens : List Token → List ℕ → Type 0
SpellsTokens [] text = IsGap text
SpellsTokens (token ∷ tokens) text = SpellsFirst token (SpellsTokens tokens) text

-- the text spells the line; one that says nothing is a gap, or begins with #
abbrev pub SpellsLine : Line → List ℕ → Type 0
SpellsLine silent text = IsGap text ⊎ (begins_hash text ≡ true)
SpellsLine line text = SpellsTokens (line_tokens line) text

-- a text without the carriage return that it may end with
abbrev pub without_return : List ℕ → List ℕ
without_return [] = []
without_return (b ∷ []) = if b == 13 then [] else b ∷ []
without_return (b ∷ c ∷ cs) = b ∷ without_return (c ∷ cs)

-- the bytes are the line, with its newline, and what is behind it; a carriage return there is
-- dropped
pub record IsEnded (line : List ℕ) (behind : List ℕ → Type 0) (bytes : List ℕ) : Type 0 where
  pub raw : List ℕ
  pub rest : List ℕ
  pub next : IsNextLine bytes raw rest
  pub dropped : line ≡ without_return raw
  pub later : behind rest

-- the bytes are the line, which is the last, and which no newline ends
pub record IsLast (line : List ℕ) (lines : List (List ℕ)) (bytes : List ℕ) : Type 0 where
  pub are : bytes ≡ line
  pub some : 0 < length line
  pub one : HasNoNewline line
  pub last : lines ≡ []

-- the bytes are these lines, one behind the other
abbrev pub AreLines : List (List ℕ) → List ℕ → Type 0
AreLines [] bytes = bytes ≡ []
AreLines (line ∷ lines) bytes = IsEnded line (AreLines lines) bytes ⊎ IsLast line lines bytes
