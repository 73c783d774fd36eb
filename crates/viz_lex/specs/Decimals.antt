-- Decimals as words, in billionths (docs/FORMATS-OF-FILES.md, "Reading").
use Rattle.std.specs.Prelude.{◌≡◌, ◌≢◌, ℕ, ℤ, pos, negsuc, neg_ℤ, suc, ◌+◌, ◌*◌, ◌/◌, ◌^◌, ◌≤◌}
use Rattle.std.specs.Prelude.{Bool, true, false, ◌||◌, ◌⊎◌, ◌==◌, nat_le, unsigned_abs, List, []}
use Rattle.std.specs.Prelude.{◌∷◌, ◌++◌, length, take, drop, Option, Some, None, option_map, ok_or}
use Rattle.std.specs.Prelude.{Result, Ok, if◌then◌else◌}
use Rattle.std.specs.List.{list_all}
use Rattle.viz_lex.specs.declared.fault.FileFault.{FileFault}
use Rattle.viz_lex.specs.declared.fault.FileKind.TheVariants.{HeaderNumber, Truncated}
use Rattle.viz_lex.specs.declared.span.Span.{Span}
use Rattle.viz_lex.specs.Reading.{Reading, fault_at, ◌>>=◌}
use Rattle.viz_lex.specs.Words.{text_of, word_at, IsWordAt}
use Rattle.viz_lex.specs.Numbers.{is_digit, digits_value, natural_of, whole_of}

-- the point
abbrev pub is_point : ℕ → Bool
is_point b = b == 46

-- e or E, behind which the exponent stands
abbrev pub is_letter : ℕ → Bool
is_letter b = b == 101 || b == 69

-- where the first byte of a sort stands, or the length where there is none
abbrev pub first_at : (ℕ → Bool) → List ℕ → ℕ
first_at is [] = 0
first_at is (b ∷ bs) = if is b then 0 else suc (first_at is bs)

-- m · 10^(9 + e - p), truncated: the digits m, of which p stand behind the point, and the exponent
-- e
abbrev pub billionths : ℕ → ℕ → ℤ → ℕ
billionths m p (pos e) = m * 10 ^ (9 + e) / 10 ^ p
billionths m p (negsuc e) = m * 10 ^ 9 / 10 ^ (p + suc e)

-- the exponent that a text spells: a letter and a whole number, or nothing for 0
abbrev pub exponent_of : List ℕ → Option ℤ
exponent_of [] = Some (pos 0)
exponent_of (letter ∷ digits) = whole_of digits

-- the bytes in front of the point, and those behind it
abbrev pub in_front : List ℕ → List ℕ
in_front text = take (first_at is_point text) text

abbrev pub behind_point : List ℕ → List ℕ
behind_point text = drop (suc (first_at is_point text)) text

-- the billionths of digits and an exponent, if both are there
abbrev pub scaled_of : Option ℕ → ℕ → Option ℤ → Option ℕ
scaled_of None p e = None
scaled_of (Some m) p None = None
scaled_of (Some m) p (Some e) = Some (billionths m p e)

-- the magnitude of a text without a sign, whose exponent begins at a place
abbrev pub magnitude_by : List ℕ → List ℕ → Option ℕ
magnitude_by text exponent =
    scaled_of (natural_of (in_front text ++ behind_point text)) (length (behind_point text))
    (exponent_of exponent)

-- the magnitude of a text without a sign
abbrev pub magnitude_of : List ℕ → Option ℕ
magnitude_of text = magnitude_by (take (first_at is_letter text) text)
    (drop (first_at is_letter text) text)

-- the same with an optional sign in front
abbrev pub signed_of : List ℕ → Option ℤ
signed_of [] = None
signed_of (b ∷ bs) =
    if b == 45 then option_map (λ n. neg_ℤ (pos n)) (magnitude_of bs)
    else (if b == 43 then option_map (λ n. pos n) (magnitude_of bs)
    else option_map (λ n. pos n) (magnitude_of (b ∷ bs)))

-- the decimal of a word, in billionths, if it is one
abbrev pub decimal_of : List ℕ → Option ℤ
decimal_of word = if nat_le (length word) 64 then signed_of word else None

-- a magnitude of at most 10^18
abbrev pub in_limit : ℤ → Bool
in_limit z = nat_le (unsigned_abs z) (10 ^ 27)

-- a decimal, if it is within the limit
abbrev pub limited : Option ℤ → Option ℤ
limited None = None
limited (Some z) = if in_limit z then Some z else None

-- the next word as a decimal, in billionths
unfoldable pub decimal_at : Reading → Result (ℤ × Reading) FileFault
decimal_at r = do
  found ← ok_or (word_at r) (fault_at Truncated (length r.bytes))
  z ← ok_or (limited (decimal_of (text_of r found.0))) (fault_at HeaderNumber found.0.start)
  Ok (z, found.1)

-- a sign, or none for a decimal that isn't negative
abbrev pub IsSign : List ℕ → Bool → Type 0
IsSign text true = text ≡ 45 ∷ []
IsSign text false = (text ≡ []) ⊎ (text ≡ 43 ∷ [])

-- digits with at most one point among them: those in front of it, and those behind it
abbrev pub IsMantissa : List ℕ → List ℕ → List ℕ → Type 0
IsMantissa text front back = (text ≡ front ++ 46 ∷ back) ⊎ ((text ≡ front) × (back ≡ []))

-- an exponent of ten behind e or E, or none for 0
abbrev pub IsExponent : List ℕ → ℤ → Type 0
IsExponent text e =
    ((letter : ℕ) × (digits : List ℕ) × (text ≡ letter ∷ digits) × (is_letter letter ≡ true)
    × (whole_of digits ≡ Some e))
    ⊎ ((text ≡ []) × (e ≡ pos 0))

-- the parts of a decimal as it is spelled
pub record Spelling : Type 0 where
  pub negative : Bool
  pub sign : List ℕ
  pub mantissa : List ℕ
  pub front : List ℕ
  pub back : List ℕ
  pub tail : List ℕ
  pub exponent : ℤ

-- a word of at most 64 bytes is a sign, digits with at most one point, and an exponent
pub record IsSpelled (word : List ℕ) (s : Spelling) : Type 0 where
  pub parts : word ≡ s.sign ++ (s.mantissa ++ s.tail)
  pub short : length word ≤ 64
  pub is_sign : IsSign s.sign s.negative
  pub is_mantissa : IsMantissa s.mantissa s.front s.back
  pub digits : list_all is_digit (s.front ++ s.back) ≡ true
  pub some : s.front ++ s.back ≢ []
  pub is_exponent : IsExponent s.tail s.exponent

-- what a spelling is worth, in billionths, truncated toward zero
abbrev pub worth : Spelling → ℤ
worth s =
    let n = billionths (digits_value (s.front ++ s.back)) (length s.back) s.exponent in
    if s.negative then neg_ℤ (pos n) else pos n

-- a word is a decimal of this value
abbrev pub IsDecimal : List ℕ → ℤ → Type 0
IsDecimal word z = (s : Spelling) × IsSpelled word s × (worth s ≡ z)

-- a decimal is that of the next word, and the new place is behind it
abbrev pub IsDecimalAt : Reading → Reading → ℤ → Type 0
IsDecimalAt old new z = (span : Span) × IsWordAt old new span × IsDecimal (text_of old span) z
    × (in_limit z ≡ true)
