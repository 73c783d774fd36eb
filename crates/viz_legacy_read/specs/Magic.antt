-- The two lines in front of a file (VTK User's Guide, "Simple legacy formats";
-- docs/FORMATS-OF-FILES.md, "Reading").
use Rattle.std.specs.Prelude.{◌≡◌, ℕ, suc, ◌+◌, Bool, false, ◌&&◌, ◌||◌, ◌==◌, nat_le, nat_lt}
use Rattle.std.specs.Prelude.{nat_eq, List, [], ◌∷◌, length, take, drop, codes, if◌then◌else◌}
use Rattle.std.specs.List.{list_all, starts_with}
use Rattle.viz_lex.specs.declared.fault.FileKind.{FileKind}
use Rattle.viz_lex.specs.declared.fault.FileKind.TheVariants.{Magic, Title}
use Rattle.viz_lex.specs.Reading.{rest_of, advanced, fault_at}
use Rattle.viz_lex.specs.Words.{is_blank, HasNoNewline, IsNextLine}
use Rattle.viz_lex.specs.Numbers.{is_digit, digits_value}
use Rattle.viz_lex.specs.Rules.{Rule, gives, demand, ◌>>=◌}

-- how many digits stand in front
abbrev pub digits_len : List ℕ → ℕ
digits_len [] = 0
digits_len (b ∷ bs) = if is_digit b then suc (digits_len bs) else 0

-- one to three digits stand in front
abbrev pub has_short_number : List ℕ → Bool
has_short_number text = nat_le 1 (digits_len text) && nat_le (digits_len text) 3

-- what is behind the digits
abbrev pub behind_digits : List ℕ → List ℕ
behind_digits text = drop (digits_len text) text

-- a point, one to three digits and then blanks alone
abbrev pub is_minor : List ℕ → Bool
is_minor [] = false
is_minor (b ∷ bs) = b == 46 && has_short_number bs && list_all is_blank (behind_digits bs)

-- a version X.Y, and blanks behind it
abbrev pub is_version : List ℕ → Bool
is_version text = has_short_number text && is_minor (behind_digits text)

-- what the first line begins with
abbrev pub magic : List ℕ
magic = codes "# vtk DataFile Version "

-- the first line
abbrev pub is_magic : List ℕ → Bool
is_magic line = starts_with nat_eq line magic && is_version (drop (length magic) line)

-- the number that the digits in front represent
abbrev pub leading_number : List ℕ → ℕ
leading_number text = digits_value (take (digits_len text) text)

-- what is behind the digits and the point
abbrev pub behind_point : List ℕ → List ℕ
behind_point text = drop 1 (behind_digits text)

-- a version of 5.1 or above, both parts as numbers: 5.10 comes behind 5.9
abbrev pub is_later : List ℕ → Bool
is_later text =
    nat_lt 5 (leading_number text) || (leading_number text == 5
    && nat_le 1 (leading_number (behind_point text)))

-- a line, which is due
abbrev pub line : FileKind → Rule (List ℕ)
line kind = record {
  is = λ old new text. (behind : List ℕ) × IsNextLine (rest_of old) text behind
      × (new ≡ advanced old (length text + 1));
  isnt = λ old f. HasNoNewline (rest_of old) × (f ≡ fault_at kind old.place);
}

-- the line of the version, and a title: whether the version is 5.1 or above
abbrev pub two_lines : Rule Bool
two_lines = do
  first ← line Magic
  demand (is_magic first) (fault_at Magic 0) (do
    title ← line Title
    gives (is_later (drop (length magic) first)))
