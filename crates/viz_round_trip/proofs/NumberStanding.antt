-- Whole numbers and decimals that stand where they are written.
use Rattle.std.proofs.Common.{◌≡◌, ℕ, ℤ, ◌+◌, ◌^◌, ◌≤◌, true, List, ◌++◌, length, Ok, sym, ap, ◌∙◌, append_assoc}
use Rattle.std.specs.Prelude.{ok_or, unsigned_abs, FitsSigned}
use Rattle.std.specs.Int.{w128}
use Rattle.std.specs.Fmt.{signed_decimal}
use Rattle.std.proofs.lemmas.Bool.{le-leb}
use Rattle.std.proofs.lemmas.List.{length-append}
use Rattle.viz_lex.specs.declared.fault.FileKind.TheVariants.{Truncated, HeaderNumber}
use Rattle.viz_lex.specs.declared.span.Span.{Span}
use Rattle.viz_lex.specs.Reading.{Reading, rest_of, advanced, fault_at}
use Rattle.viz_lex.specs.Words.{text_of, word_at, EndsWord, IsBlank}
use Rattle.viz_lex.specs.Numbers.{whole_at, number_at}
use Rattle.viz_lex.specs.Decimals.{decimal_of, in_limit, limited, decimal_at}
use Rattle.viz_lex.specs.Written.{decimal_text}
use Rattle.viz_lex.specs.Steps.{due_word, due_number, due_decimal}
use Rattle.viz_lex.specs.Items.{number, decimal}
use Rattle.viz_lex.proofs.ReadingLemmas.{done, done_is, bind_ok}
use Rattle.viz_lex.proofs.BlockLemmas.{rest_of-block}
use Rattle.viz_lex.proofs.NumberLemmas.{whole_at-signed_decimal}
use Rattle.viz_lex.proofs.WrittenLemmas.{decimal_at-written}
use Rattle.viz_lex.proofs.ItemLemmas.{decides-number, decides-decimal}
use Rattle.viz_round_trip.proofs.StandingLemmas.{Stands}

-- what is behind a gap and a text
pub rest-behind : (old : Reading) (gap text behind : List ℕ) → rest_of old ≡ gap ++ (text ++ behind) → rest_of (advanced old (length gap + length text)) ≡ behind
rest-behind old gap text behind e =
    ap (λ (n : ℕ). rest_of (advanced old n)) (sym (length-append gap text)) ∙ rest_of-block old (gap ++ text) behind (e ∙ sym (append_assoc gap text behind))

-- ---- whole numbers

due_number_by : (old new : Reading) (z m : ℤ) (found : Span × Reading) → ok_or (word_at old) (fault_at Truncated (length old.bytes)) ≡ Ok found → number_at (text_of old found.0) found.0.start ≡ Ok m
    → done {A = ℤ × Reading} (m, found.1) ≡ done (z, new) → due_number old ≡ Ok ((found.0.start, z), new)
unfolding due_number due_word
due_number_by old new z m found word is e =
    rw (word, is) (ap (λ (y : ℤ × Reading). done {A = (ℕ × ℤ) × Reading} ((found.0.start, y.0), y.1)) (done_is (m, found.1) (z, new) e))

-- the number that was read is due, with its place
due_number-whole : (old new : Reading) (z : ℤ) → whole_at old ≡ Ok (z, new) → (place : ℕ) × (due_number old ≡ Ok ((place, z), new))
unfolding whole_at
due_number-whole old new z e =
    let found = bind_ok (ok_or (word_at old) (fault_at Truncated (length old.bytes))) _ (z, new) e in
    let n = bind_ok (number_at (text_of old found.0.0) found.0.0.start) _ (z, new) found.2 in
    (found.0.0.start, due_number_by old new z n.0 found.0 found.1 n.1 n.2)

pub stands-number : (old : Reading) (gap behind : List ℕ) (z : ℤ) → FitsSigned w128 z → IsBlank gap → EndsWord behind → rest_of old ≡ gap ++ (signed_decimal z ++ behind) → (place : ℕ) × Stands number old (place, z) behind
stands-number old gap behind z fits blank ends e =
    let new = advanced old (length gap + length (signed_decimal z)) in
    let read = due_number-whole old new z (whole_at-signed_decimal old gap behind z fits blank ends e) in
    (read.0, record { new = new; is = decides-number.found old ((read.0, z), new) read.1; rest = rest-behind old gap (signed_decimal z) behind e })

-- ---- decimals

due_decimal_by : (old new : Reading) (z m : ℤ) (found : Span × Reading) → ok_or (word_at old) (fault_at Truncated (length old.bytes)) ≡ Ok found → ok_or (limited (decimal_of (text_of old found.0))) (fault_at HeaderNumber found.0.start) ≡ Ok m
    → done {A = ℤ × Reading} (m, found.1) ≡ done (z, new) → due_decimal old ≡ Ok ((found.0.start, z), new)
unfolding due_decimal due_word
due_decimal_by old new z m found word is e =
    rw (word, is) (ap (λ (y : ℤ × Reading). done {A = (ℕ × ℤ) × Reading} ((found.0.start, y.0), y.1)) (done_is (m, found.1) (z, new) e))

due_decimal-decimal : (old new : Reading) (z : ℤ) → decimal_at old ≡ Ok (z, new) → (place : ℕ) × (due_decimal old ≡ Ok ((place, z), new))
unfolding decimal_at
due_decimal-decimal old new z e =
    let found = bind_ok (ok_or (word_at old) (fault_at Truncated (length old.bytes))) _ (z, new) e in
    let n = bind_ok (ok_or (limited (decimal_of (text_of old found.0.0))) (fault_at HeaderNumber found.0.0.start)) _ (z, new) found.2 in
    (found.0.0.start, due_decimal_by old new z n.0 found.0 found.1 n.1 n.2)

pub stands-decimal : (old : Reading) (gap behind : List ℕ) (z : ℤ) → unsigned_abs z ≤ 10 ^ 27 → IsBlank gap → EndsWord behind → rest_of old ≡ gap ++ (decimal_text z ++ behind) → (place : ℕ) × Stands decimal old (place, z) behind
stands-decimal old gap behind z few blank ends e =
    let within : in_limit z ≡ true = le-leb (unsigned_abs z) (10 ^ 27) few in
    let new = advanced old (length gap + length (decimal_text z)) in
    let read = due_decimal-decimal old new z (decimal_at-written old gap behind z within blank ends e) in
    (read.0, record { new = new; is = decides-decimal.found old ((read.0, z), new) read.1; rest = rest-behind old gap (decimal_text z) behind e })
