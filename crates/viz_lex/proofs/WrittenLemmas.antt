-- Decimals as they are written: the digits of a fraction, and that what is written is read again.
use Rattle.std.proofs.Common.{◌≡◌, ◌≢◌, ◌⊎◌, ℕ, ℤ, pos, negsuc, neg_ℤ, zero, suc, ◌+◌, ◌-◌, ◌*◌, ◌/◌, ◌%◌, ◌^◌, ◌<◌, ◌≤◌, true, false, cond, eqb, Bool, List, [], ◌∷◌, ◌++◌, length, All, Ok, refl, sym, ap, subst, ◌∙◌, inl, inr, arith, append_assoc, length-append}
use Rattle.std.specs.List.{list_all}
use Rattle.std.specs.Fmt.{decimal}
use Rattle.std.proofs.Math.Nat.{pow-suc, mul-div_cancel, mul_assoc, mul_comm}
use Rattle.std.proofs.lemmas.Nat.{pow-add, div-add-mod', div_below, mod_below}
use Rattle.std.proofs.lemmas.Bool.{cases_Bool, ne_eqb, eqb-true, le-leb, leb-true}
use Rattle.std.proofs.lemmas.Fmt.{length-decimal-le_wide}
use Rattle.std.proofs.lemmas.List.{append-nil}
use Rattle.std.proofs.lemmas.List.Sums.{fold-append}
use Rattle.std.proofs.lemmas.List.Elements.{All-cons, All-append}
use Rattle.std.proofs.lemmas.List.Folds.{list_all-append}
use Rattle.viz_lex.specs.Reading.{Reading, rest_of, advanced}
use Rattle.viz_lex.specs.Words.{is_blank, EndsWord, IsBlank, IsWord, IsNextWord}
use Rattle.viz_lex.specs.Numbers.{is_digit, digits_value}
use Rattle.viz_lex.specs.Decimals.{billionths, in_limit, decimal_at, IsMantissa, IsSign, Spelling, IsSpelled, IsDecimal}
use Rattle.viz_lex.specs.Written.{places, magnitude_text, decimal_text, IsBegun}
use Rattle.viz_lex.proofs.NumberLemmas.{digits_solid, IsWritten, IsWritten-decimal}
use Rattle.viz_lex.proofs.ScaleLemmas.{power_some, more_value}
use Rattle.viz_lex.proofs.DecimalLemmas.{decimal_at-some}

-- ---- the digits of a fraction

pub places-zero : (k : ℕ) → places k 0 ≡ []
unfolding places
places-zero zero = refl
places-zero (suc k) = refl

places-suc : (k n : ℕ) → 0 < n → places (suc k) n ≡ (48 + n / 10 ^ k) ∷ places k (n % 10 ^ k)
unfolding places
places-suc k n some = rw (ne_eqb n 0 (λ e. omega arith)) refl

pub places_step : (p n : ℕ) → 0 < n → n < 10 ^ p → places p n ≡ (48 + n / 10 ^ (p - 1)) ∷ places (p - 1) (n % 10 ^ (p - 1))
places_step zero n some below = absurd (omega arith)
places_step (suc k) n some below = let less : suc k - 1 ≡ k = omega arith in rw less (places-suc k n some)

pub place_some : (p n : ℕ) → 0 < n → n < 10 ^ p → 0 < p
place_some zero n some below = absurd (omega arith)
place_some (suc k) n some below = omega arith

pub digit_below_ten : (p n : ℕ) → 0 < n → n < 10 ^ p → n / 10 ^ (p - 1) < 10
digit_below_ten zero n some below = absurd (omega arith)
digit_below_ten (suc k) n some below =
    let less : suc k - 1 ≡ k = omega arith in
    rw less (div_below n (10 ^ k) 10 (power_some k) (omega (arith, pow-suc 10 k)))

-- one digit more is written
pub told_step : (all text new : List ℕ) (p unit rest : ℕ) → 0 < rest → rest < 10 ^ p → unit ≡ 10 ^ (p - 1) → new ≡ text ++ (48 + rest / unit) ∷ [] → text ++ places p rest ≡ all → new ++ places (p - 1) (rest % unit) ≡ all
told_step all text new p unit rest some below unit_is pushed told =
    let tail = places (p - 1) (rest % 10 ^ (p - 1)) in
    rw (unit_is) (ap (λ t. t ++ tail) (pushed ∙ ap (λ u. text ++ (48 + rest / u) ∷ []) unit_is) ∙ append_assoc text ((48 + rest / 10 ^ (p - 1)) ∷ []) tail ∙ ap (λ t. text ++ t) (sym (places_step p rest some below)) ∙ told)

pub IsBegun-more : (old text new added : List ℕ) → IsBegun old text → new ≡ text ++ added → IsBegun old new
IsBegun-more old text new added begun pushed =
    (begun.0 ++ added, pushed ∙ ap (λ t. t ++ added) begun.1 ∙ append_assoc old begun.0 added)

pub IsBegun-same : (old text new : List ℕ) → IsBegun old text → new ≡ text → IsBegun old new
IsBegun-same old text new begun same = (begun.0, same ∙ begun.1)

-- ---- what the digits of a fraction are

none_or_some : (n : ℕ) → (n ≡ 0) ⊎ (0 < n)
none_or_some zero = inl refl
none_or_some (suc n) = inr (omega arith)

digit_is_digit : (d : ℕ) → d < 10 → is_digit (48 + d) ≡ true
digit_is_digit d h = rw (le-leb 48 (48 + d) (omega arith), le-leb (48 + d) 57 (omega arith)) refl

top_digit : (k n : ℕ) → n < 10 ^ suc k → n / 10 ^ k < 10
top_digit k n h = div_below n (10 ^ k) 10 (power_some k) (omega (arith, h, pow-suc 10 k))

pub places-digits : (k n : ℕ) → n < 10 ^ k → list_all is_digit (places k n) ≡ true
places-digits zero n h = let none : n ≡ 0 = omega arith in rw (none, places-zero zero) refl
places-digits (suc k) n h =
    elim (none_or_some n) [
      | inl none ↦ rw (none, places-zero (suc k)) refl
      | inr some ↦
          rw (places-suc k n some, digit_is_digit (n / 10 ^ k) (top_digit k n h)) (places-digits k (n % 10 ^ k) (mod_below n (10 ^ k) (power_some k)))
    ]

places-nothing : (n : ℕ) → places zero n ≡ []
unfolding places
places-nothing n = refl

pub places-few : (k n : ℕ) → length (places k n) ≤ k
places-few zero n = omega (arith, ap length (places-nothing n))
places-few (suc k) n =
    elim (none_or_some n) [
      | inl none ↦ omega (arith, ap length (ap (places (suc k)) none ∙ places-zero (suc k)))
      | inr some ↦ omega (arith, ap length (places-suc k n some), places-few k (n % 10 ^ k))
    ]

-- a digit in front of digits that are worth r, and the places that are left
digit_front : (d v p q n : ℕ) → v * q ≡ n % (p * q) → d ≡ n / (p * q) → (d * p + v) * q ≡ n
digit_front d v p q n rest here =
    let both = div-add-mod' n (p * q) in
    rw here (omega (arith, both, rest))

pub places-value : (k n : ℕ) → n < 10 ^ k → digits_value (places k n) * 10 ^ (k - length (places k n)) ≡ n
places-value zero n h = let none : n ≡ 0 = omega arith in rw (none, places-zero zero) refl
places-value (suc k) n h =
    elim (none_or_some n) [
      | inl none ↦ rw (none, places-zero (suc k)) (omega arith)
      | inr some ↦
          let r = n % 10 ^ k in
          let d = n / 10 ^ k in
          let ds = places k r in
          let l = length ds in
          let later = places-value k r (mod_below n (10 ^ k) (power_some k)) in
          let less : suc k - suc l ≡ k - l = omega arith in
          let digit : 0 * 10 + (48 + d - 48) ≡ d = omega arith in
          let value : digits_value ((48 + d) ∷ ds) ≡ d * 10 ^ l + digits_value ds = more_value (0 * 10 + (48 + d - 48)) ds ∙ ap (λ x. x * 10 ^ l + digits_value ds) digit in
          let sum : l + (k - l) ≡ k = omega (arith, places-few k r) in
          let power : 10 ^ k ≡ 10 ^ l * 10 ^ (k - l) = ap (λ x. 10 ^ x) (sym sum) ∙ pow-add 10 l (k - l) in
          rw (places-suc k n some, less) (ap (λ v. v * 10 ^ (k - l)) value ∙ digit_front d (digits_value ds) (10 ^ l) (10 ^ (k - l)) n (later ∙ ap (λ x. n % x) power) (ap (λ x. n / x) power))
    ]

head_is : (a b : ℕ) (as_ bs : List ℕ) → a ∷ as_ ≡ b ∷ bs → (a ≡ b) × (as_ ≡ bs)
head_is a b as_ bs e = ((cc), (cc))

-- the digits are none only where nothing is left
places-none : (k n : ℕ) → n < 10 ^ k → places k n ≡ [] → n ≡ 0
places-none zero n h e = omega arith
places-none (suc k) n h e =
    elim (none_or_some n) [
      | inl none ↦ none
      | inr some ↦ absurd (let no_digit : (48 + n / 10 ^ k) ∷ places k (n % 10 ^ k) ≡ [] = sym (places-suc k n some) ∙ e in cc)
    ]

places-last_by : (k n : ℕ) → 0 < n → (front : List ℕ) → ((later : List ℕ) → places k (n % 10 ^ k) ≢ later ++ 48 ∷ []) → (48 + n / 10 ^ k) ∷ places k (n % 10 ^ k) ≢ front ++ 48 ∷ []
places-last_by k n some [] later e =
    let parts = head_is _ _ _ _ e in
    let rest = places-none k (n % 10 ^ k) (mod_below n (10 ^ k) (power_some k)) parts.1 in
    let none : n / 10 ^ k ≡ 0 = omega (arith, parts.0) in
    omega (arith, div-add-mod' n (10 ^ k), rest, ap (λ x. x * 10 ^ k) none)
places-last_by k n some (f ∷ front) later e = later front (head_is _ _ _ _ e).1

-- no zero stands at the end
pub places-last : (k n : ℕ) → n < 10 ^ k → (front : List ℕ) → places k n ≢ front ++ 48 ∷ []
places-last zero n h front e =
    omega (arith, ap length (sym (places-nothing n) ∙ e), length-append front (48 ∷ []))
places-last (suc k) n h front e =
    elim (none_or_some n) [
      | inl none ↦
          omega (arith, ap length (sym (ap (places (suc k)) none ∙ places-zero (suc k)) ∙ e), length-append front (48 ∷ []))
      | inr some ↦ places-last_by k n some front (places-last k (n % 10 ^ k) (mod_below n (10 ^ k) (power_some k))) (sym (places-suc k n some) ∙ e)
    ]

-- ---- what is written is read again

-- what is written of a magnitude: the digits in front of the point, and those behind it
record IsWrittenAs (n : ℕ) (front back : List ℕ) : Type 0 where
  mantissa : IsMantissa (magnitude_text n) front back
  front_is : IsWritten (n / 10 ^ 9) front
  front_short : length front ≤ 19
  back_digits : list_all is_digit back ≡ true
  back_short : length back ≤ 9
  back_value : digits_value back * 10 ^ (9 - length back) ≡ n % 10 ^ 9

magnitude_parts : (n : ℕ) → n ≤ 10 ^ 27 → (front : List ℕ) × (back : List ℕ) × IsWrittenAs n front back
magnitude_parts n h =
    let whole = n / 10 ^ 9 in
    let part = n % 10 ^ 9 in
    let below : part < 10 ^ 9 = mod_below n (10 ^ 9) (omega arith) in
    let most : whole ≤ 10 ^ 18 = omega (arith, div-add-mod' n (10 ^ 9)) in
    let written = IsWritten-decimal whole (omega arith) in
    let short = length-decimal-le_wide 19 whole (omega arith) (omega arith) (omega arith) in
    elim (cases_Bool (eqb part 0)) [
      | inl none ↦ (
        decimal whole,
        [],
        record {
          mantissa = inr (ap (λ t. decimal whole ++ t) (rw none refl) ∙ append-nil (decimal whole), refl);
          front_is = written;
          front_short = short;
          back_digits = refl;
          back_short = omega arith;
          back_value = sym (eqb-true part 0 none);
        },
      )
      | inr some ↦ (
        decimal whole,
        places 9 part,
        record {
          mantissa = inl (ap (λ t. decimal whole ++ t) (rw some refl));
          front_is = written;
          front_short = short;
          back_digits = places-digits 9 part below;
          back_short = places-few 9 part;
          back_value = places-value 9 part below;
        },
      )
    ]

-- whole parts and fractions in billionths
worth_by : (w v n p q b : ℕ) → 0 < p → b ≡ q * p → v * q ≡ n % b → w ≡ n / b → (w * p + v) * b / p ≡ n
worth_by w v n p q b some power rest here =
    let turned : b ≡ p * q = power ∙ mul_comm q p in
    let x = w * p + v in
    ap (λ k. x * k / p) power ∙ ap (λ k. k / p) (sym (mul_assoc x q p)) ∙ mul-div_cancel (x * q) some
    ∙ digit_front w v p q n (rest ∙ ap (λ k. n % k) turned) (here ∙ ap (λ k. n / k) turned)

written_worth : (n : ℕ) (front back : List ℕ) → IsWrittenAs n front back → billionths (digits_value (front ++ back)) (length back) (pos 0) ≡ n
written_worth n front back h =
    let l = length back in
    let sum : (9 - l) + l ≡ 9 = omega (arith, h.back_short) in
    let power : 10 ^ 9 ≡ 10 ^ (9 - l) * 10 ^ l = ap (λ k. 10 ^ k) (sym sum) ∙ pow-add 10 (9 - l) l in
    let value : digits_value (front ++ back) ≡ digits_value front * 10 ^ l + digits_value back = fold-append (λ n b. n * 10 + (b - 48)) 0 front back ∙ more_value (digits_value front) back in
    ap (λ v. v * 10 ^ 9 / 10 ^ l) value ∙ worth_by (digits_value front) (digits_value back) n (10 ^ l) (10 ^ (9 - l)) (10 ^ 9) (power_some l) power h.back_value h.front_is.value

written_length : (n : ℕ) (front back : List ℕ) → IsWrittenAs n front back → length (magnitude_text n) ≤ 29
written_length n front back h =
    elim h.mantissa [
      | inl e ↦ omega (arith, ap length e, length-append front (46 ∷ back), h.front_short, h.back_short)
      | inr e ↦ omega (arith, ap length e.0, h.front_short)
    ]

decimal_spelled : (negative : Bool) (sign : List ℕ) (n : ℕ) → n ≤ 10 ^ 27 → IsSign sign negative → length sign ≤ 1 → IsDecimal (sign ++ magnitude_text n) (cond negative (neg_ℤ (pos n)) (pos n))
decimal_spelled negative sign n h is short =
    let found = magnitude_parts n h in
    let front = found.0 in
    let back = found.1 in
    let written = found.2 in
    let s : Spelling = record {
      negative = negative;
      sign = sign;
      mantissa = magnitude_text n;
      front = front;
      back = back;
      tail = [];
      exponent = pos 0;
    } in
    let spelled : IsSpelled (sign ++ magnitude_text n) s = record {
      parts = ap (λ t. sign ++ t) (sym (append-nil (magnitude_text n)));
      short = omega (arith, length-append sign (magnitude_text n), written_length n front back written);
      is_sign = is;
      is_mantissa = written.mantissa;
      digits = list_all-append is_digit front back ∙ rw (written.front_is.digits, written.back_digits) refl;
      some = λ e. omega (arith, ap length e, length-append front back, written.front_is.some);
      is_exponent = inr (refl, refl);
    } in
    (s, spelled, ap (λ k. cond negative (neg_ℤ (pos k)) (pos k)) (written_worth n front back written))

magnitude_solid : (n : ℕ) → n ≤ 10 ^ 27 → All (λ b. is_blank b ≡ false) (magnitude_text n)
magnitude_solid n h =
    let found = magnitude_parts n h in
    let front = digits_solid found.0 found.2.front_is.digits in
    let back = digits_solid found.1 found.2.back_digits in
    let P : List ℕ → Type 0 = λ t. All (λ b. is_blank b ≡ false) t in
    elim found.2.mantissa [
      | inl e ↦
          subst P (sym e) (All-append (λ b. is_blank b ≡ false) found.0 (46 ∷ found.1) front (All-cons (λ b. is_blank b ≡ false) 46 found.1 refl back))
      | inr e ↦ subst P (sym e.0) front
    ]

magnitude_some : (n : ℕ) → n ≤ 10 ^ 27 → magnitude_text n ≢ []
magnitude_some n h e =
    let found = magnitude_parts n h in
    elim found.2.mantissa [
      | inl m ↦ omega (arith, ap length (sym m ∙ e), length-append found.0 (46 ∷ found.1))
      | inr m ↦ omega (arith, ap length (sym m.0 ∙ e), found.2.front_is.some)
    ]

-- a decimal that is written is a word, and that decimal
IsWord-decimal_text : (z : ℤ) → in_limit z ≡ true → IsWord (decimal_text z)
IsWord-decimal_text (pos n) h =
    let within = leb-true n (10 ^ 27) h in
    record { some = magnitude_some n within; solid = magnitude_solid n within }
IsWord-decimal_text (negsuc n) h =
    let within = leb-true (suc n) (10 ^ 27) h in
    record {
      some = λ e. omega (arith, ap length e);
      solid = All-cons (λ b. is_blank b ≡ false) 45 _ refl (magnitude_solid (suc n) within);
    }

IsDecimal-decimal_text : (z : ℤ) → in_limit z ≡ true → IsDecimal (decimal_text z) z
IsDecimal-decimal_text (pos n) h = decimal_spelled false [] n (leb-true n (10 ^ 27) h) (inl refl) (omega arith)
IsDecimal-decimal_text (negsuc n) h =
    decimal_spelled true (45 ∷ []) (suc n) (leb-true (suc n) (10 ^ 27) h) refl (omega arith)

pub decimal_at-written : (r : Reading) (gap behind : List ℕ) (z : ℤ) → in_limit z ≡ true → IsBlank gap → EndsWord behind → rest_of r ≡ gap ++ (decimal_text z ++ behind) → decimal_at r ≡ Ok (z, advanced r (length gap + length (decimal_text z)))
decimal_at-written r gap behind z within blank ends parts =
    let word : IsNextWord (rest_of r) gap (decimal_text z) behind = record { parts = parts; blank = blank; is_word = IsWord-decimal_text z within; ends = ends } in
    decimal_at-some r gap (decimal_text z) behind z word (IsDecimal-decimal_text z within) within
