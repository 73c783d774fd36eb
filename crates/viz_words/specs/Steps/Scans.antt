-- Lines and words as the code comes to them: words of private contracts alone.
use Rattle.std.specs.Prelude.{ℕ, suc, ◌==◌, List, [], ◌∷◌, Option, None, Some, if◌then◌else◌}
use Rattle.viz_words.specs.Words.{is_gap}

-- the line without a carriage return at its end
abbrev pub trimmed : List ℕ → List ℕ
trimmed [] = []
trimmed (b ∷ []) = if b == 13 then [] else b ∷ []
trimmed (b ∷ c ∷ bs) = b ∷ trimmed (c ∷ bs)

-- how many spaces and tabs stand in front
abbrev pub gaps : List ℕ → ℕ
gaps [] = 0
gaps (b ∷ bs) = if is_gap b then suc (gaps bs) else 0

-- how long the word in front is
abbrev pub word_len : List ℕ → ℕ
word_len [] = 0
word_len (b ∷ bs) = if is_gap b then 0 else suc (word_len bs)

-- what was found in front, and the parts of what is behind it
abbrev pub parted : (List ℕ → List (List ℕ)) → Option (List ℕ × List ℕ) → List (List ℕ)
parted parts None = []
parted parts (Some found) = found.0 ∷ parts found.1
