-- Numbers of scripts: an optional minus sign and one or more digits, within 64 bits
-- (docs/FORMATS-OF-SCRIPTS.md, "Scripts").
use Rattle.std.specs.Prelude.{ℕ, ℤ, pos, neg_ℤ, int_le, unsigned_abs, ◌&&◌, ◌==◌, List, [], ◌∷◌}
use Rattle.std.specs.Prelude.{Option, Some, None, option_map, ok_or, Result, Ok, Err}
use Rattle.std.specs.Prelude.{if◌then◌else◌}
use Rattle.viz_lex.specs.Numbers.{natural_of}
use Rattle.viz_kinds.specs.Values.{first_number, last_number}
use Rattle.viz_words.specs.declared.refusal.ScriptRefusal.{ScriptRefusal}
use Rattle.viz_words.specs.declared.refusal.ScriptRefusal.TheVariants.{Number}
use Rattle.viz_words.specs.Gives.{◌>>=◌}

-- a number from the least to the greatest of 64 bits
abbrev pub within : Option ℤ → Option ℤ
within None = None
within (Some n) = if int_le first_number n && int_le n last_number then Some n else None

-- the number of a word
abbrev pub number_of : List ℕ → Option ℤ
number_of [] = None
number_of (b ∷ bs) = within (if b == 45 then option_map (λ n. neg_ℤ (pos n)) (natural_of bs)
    else option_map (λ n. pos n) (natural_of (b ∷ bs)))

-- a number that is due
abbrev pub number_in : List ℕ → Result ℤ ScriptRefusal
number_in word = ok_or (number_of word) Number

-- a number that is due, from the least to the greatest
unfoldable pub natural_in : ℕ → ℕ → List ℕ → Result ℕ ScriptRefusal
natural_in least greatest word = do
  n ← number_in word
  if int_le (pos least) n && int_le n (pos greatest) then Ok (unsigned_abs n) else Err Number
