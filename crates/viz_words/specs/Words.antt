-- The words of a line (docs/FORMATS-OF-SCRIPTS.md, "Scripts").
use Rattle.std.specs.Prelude.{ℕ, Bool, true, false, not, ◌||◌, ◌==◌, List, [], ◌∷◌, ◌++◌, flat_map}
use Rattle.std.specs.Prelude.{if◌then◌else◌}
use Rattle.viz_words.specs.Lines.{in_front}

-- space and tab
abbrev pub is_gap : ℕ → Bool
is_gap b = b == 32 || b == 9

-- a word stands in front
abbrev pub begins_word : List ℕ → Bool
begins_word [] = false
begins_word (b ∷ bs) = not (is_gap b)

-- the longest parts without a space or a tab
abbrev pub words_of : List ℕ → List (List ℕ)
words_of [] = []
words_of (b ∷ bs) = if is_gap b then words_of bs
    else (if begins_word bs then in_front b (words_of bs) else (b ∷ []) ∷ words_of bs)

-- the byte # stands in front
abbrev pub begins_hash : List ℕ → Bool
begins_hash [] = false
begins_hash (b ∷ bs) = b == 35

-- there is no word
abbrev pub is_empty : List (List ℕ) → Bool
is_empty [] = true
is_empty (word ∷ words) = false

-- a line that says nothing: one without a word, or a comment
abbrev pub is_skipped : List ℕ → Bool
is_skipped line = begins_hash line || is_empty (words_of line)

-- a space and the word
abbrev pub behind_space : List ℕ → List ℕ
behind_space word = 32 ∷ word

-- the words with one space between them
abbrev pub spaced : List (List ℕ) → List ℕ
spaced [] = []
spaced (word ∷ words) = word ++ flat_map behind_space words
