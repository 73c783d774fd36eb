-- The numbers of an image as words, each behind blanks, stand as so many values.
use Rattle.std.proofs.Common.{◌≡◌, ℕ, ℤ, pos, negsuc, ◌^◌, ◌<◌, true, List, [], ◌∷◌, ◌++◌, length, refl, sym, ap, subst, ◌∙◌, append_assoc, arith}
use Rattle.std.specs.Prelude.{FitsSigned}
use Rattle.std.specs.Int.{w128}
use Rattle.std.specs.List.{list_all}
use Rattle.std.specs.Fmt.{signed_decimal}
use Rattle.std.proofs.lemmas.Bool.{ltb-true, and_parts}
use Rattle.std.proofs.lemmas.List.Elements.{All-append}
use Rattle.viz_column.specs.declared.kind.Kind8.{Kind8}
use Rattle.viz_column.specs.declared.kind.Kind8.TheVariants.{I8, U8, I16, U16, I32, U32, I64, U64}
use Rattle.viz_column.specs.Kinds.{fits, fits_signed, fits_unsigned}
use Rattle.viz_lex.specs.declared.fault.FileKind.TheVariants.{ValueRange}
use Rattle.viz_lex.specs.Reading.{Reading, rest_of, fault_at}
use Rattle.viz_lex.specs.Words.{is_blank, EndsWord, IsBlank}
use Rattle.viz_lex.specs.Rules.{gives, demand}
use Rattle.viz_lex.specs.Repeats.{AreTimes, times}
use Rattle.viz_lex.specs.Items.{number}
use Rattle.viz_attr.specs.Values.{value, tuple}
use Rattle.viz_round_trip.proofs.StandingLemmas.{Stands, stands-gives, stands-follow, stands-demand}
use Rattle.viz_round_trip.proofs.NumberStanding.{stands-number}

-- ---- the text of numbers

-- a text is these numbers as words, each behind blanks, and then blanks
abbrev pub AreWritten : List ℤ → List ℕ → Type 0
AreWritten [] text = IsBlank text
AreWritten (n ∷ ns) text =
    (gap : List ℕ) × (later : List ℕ) × IsBlank gap × EndsWord later × (text ≡ gap ++ (signed_decimal n ++ later)) × AreWritten ns later

blank-both : (a b : List ℕ) → IsBlank a → IsBlank b → IsBlank (a ++ b)
blank-both a b h k = record { each = All-append (λ c. is_blank c ≡ true) a b h.each k.each }

-- with further blanks in front
pub written-behind : (gap : List ℕ) (ns : List ℤ) (text : List ℕ) → IsBlank gap → AreWritten ns text → AreWritten ns (gap ++ text)
written-behind gap [] text blank h = blank-both gap text blank h
written-behind gap (n ∷ ns) text blank h =
    (gap ++ h.0, h.1, blank-both gap h.0 blank h.2, h.3, ap (λ (t : List ℕ). gap ++ t) h.4 ∙ sym (append_assoc gap h.0 (signed_decimal n ++ h.1)), h.5)

-- ---- a value

signed_wide : (bits : ℕ) (n : ℤ) → 2 ^ bits < 2 ^ 127 → fits_signed bits n ≡ true → FitsSigned w128 n
signed_wide bits (pos n) few e = let below = ltb-true n (2 ^ bits) e in record { sfits = omega arith }
signed_wide bits (negsuc n) few e = let below = ltb-true n (2 ^ bits) e in record { sfits = omega arith }

unsigned_wide : (bits : ℕ) (n : ℤ) → 2 ^ bits < 2 ^ 127 → fits_unsigned bits n ≡ true → FitsSigned w128 n
unsigned_wide bits (pos n) few e = let below = ltb-true n (2 ^ bits) e in record { sfits = omega arith }
unsigned_wide bits (negsuc n) few e = absurd cc

-- a number in the range of a kind has a place in 128 bits
pub kind_wide : (kind : Kind8) (n : ℤ) → fits kind n ≡ true → FitsSigned w128 n
kind_wide I8 n e = signed_wide 7 n (omega arith) e
kind_wide U8 n e = unsigned_wide 8 n (omega arith) e
kind_wide I16 n e = signed_wide 15 n (omega arith) e
kind_wide U16 n e = unsigned_wide 16 n (omega arith) e
kind_wide I32 n e = signed_wide 31 n (omega arith) e
kind_wide U32 n e = unsigned_wide 32 n (omega arith) e
kind_wide I64 n e = signed_wide 63 n (omega arith) e
kind_wide U64 n e = unsigned_wide 64 n (omega arith) e

stands-value : (kind : Kind8) (old : Reading) (gap later : List ℕ) (n : ℤ) → fits kind n ≡ true → IsBlank gap → EndsWord later → rest_of old ≡ gap ++ (signed_decimal n ++ later) → Stands (value kind) old n later
stands-value kind old gap later n within blank ends e =
    let first = stands-number old gap later n (kind_wide kind n within) blank ends e in
    stands-follow number (λ m. demand (fits kind m.1) (fault_at ValueRange m.0) (gives m.1)) old (first.0, n) n later later first.1
    (stands-demand _ _ _ first.1.new n later within (stands-gives n first.1.new later first.1.rest))

-- ---- so many values

stands-tuple : (kind : Kind8) (old : Reading) (n : ℤ) (later : List ℕ) → Stands (value kind) old n later → Stands (tuple kind 1) old n later
stands-tuple kind old n later first =
    let none : Stands (times 0 (value kind)) first.new [] later = record { new = first.new; is = refl; rest = first.rest } in
    stands-follow (value kind) _ old n n later later first
    (stands-follow (times 0 (value kind)) (λ others. gives n) first.new [] n later later none (stands-gives n first.new later first.rest))

-- the values stand, and blanks are left
pub record StandsLast (kind : Kind8) (ns : List ℤ) (old : Reading) : Type 0 where
  pub new : Reading
  pub is : AreTimes (tuple kind 1) old new ns (length ns)
  pub blank : IsBlank (rest_of new)

pub stands-tuples : (kind : Kind8) (ns : List ℤ) (old : Reading) (text : List ℕ) → list_all (fits kind) ns ≡ true → AreWritten ns text → rest_of old ≡ text → StandsLast kind ns old
stands-tuples kind [] old text within h e = record { new = old; is = refl; blank = subst IsBlank (sym e) h }
stands-tuples kind (n ∷ ns) old text within h e =
    let both = and_parts (fits kind n) (list_all (fits kind) ns) within in
    let first = stands-tuple kind old n h.1 (stands-value kind old h.0 h.1 n both.0 h.2 h.3 (e ∙ h.4)) in
    let others = stands-tuples kind ns first.new h.1 both.1 h.5 first.rest in
    record { new = others.new; is = (first.new, first.is, others.is); blank = others.blank }
