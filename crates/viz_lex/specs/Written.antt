-- Decimals as they are written, from billionths (docs/FORMATS-OF-OUTPUT.md, "Written files").
use Rattle.std.specs.Prelude.{◌≡◌, ℕ, ℤ, pos, negsuc, zero, suc, ◌+◌, ◌/◌, ◌%◌, ◌^◌, ◌==◌, List}
use Rattle.std.specs.Prelude.{[], ◌∷◌, ◌++◌, if◌then◌else◌}
use Rattle.std.specs.Fmt.{decimal}

-- the digits of a fraction of so many places, without zeros at the end
unfoldable pub places : ℕ → ℕ → List ℕ
places zero n = []
places (suc k) n = if n == 0 then [] else (48 + n / 10 ^ k) ∷ places k (n % 10 ^ k)

-- a point and the digits of so many billionths, or nothing for 0
abbrev pub fraction_text : ℕ → List ℕ
fraction_text n = if n == 0 then [] else 46 ∷ places 9 n

-- the whole part of so many billionths, and their fraction
abbrev pub magnitude_text : ℕ → List ℕ
magnitude_text n = decimal (n / 10 ^ 9) ++ fraction_text (n % 10 ^ 9)

-- the text of a number of billionths
abbrev pub decimal_text : ℤ → List ℕ
decimal_text (pos n) = magnitude_text n
decimal_text (negsuc n) = 45 ∷ magnitude_text (suc n)

-- a text with further bytes behind it, or none
abbrev pub IsBegun : List ℕ → List ℕ → Type 0
IsBegun text longer = (added : List ℕ) × (longer ≡ text ++ added)
