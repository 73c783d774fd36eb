-- Whole numbers: what is read of a word, and that what is written is read again.
use Rattle.std.proofs.Common.{◌≡◌, ◌≢◌, ◌⊎◌, ◌↔◌, ℕ, ℤ, pos, negsuc, neg_ℤ, suc, ◌+◌, ◌-◌, ◌*◌, ◌^◌, ◌<◌, ◌≤◌, true, false, cond, List, [], ◌∷◌, ◌++◌, length, All, Option, Some, None, Result, Ok, Err, refl, sym, ap, ◌∙◌, inl, inr, arith, rules}
use Rattle.std.specs.Prelude.{ok_or, option_map, FitsSigned}
use Rattle.std.specs.Int.{w128}
use Rattle.std.specs.List.{fold, list_all}
use Rattle.std.specs.Fmt.{decimal, signed_decimal}
use Rattle.std.proofs.Math.Nat.{pow-le-pow_right}
use Rattle.std.proofs.lemmas.Bool.{cases_Bool, cond-true, cond-false, ne_eqb, lt-ltb, and_parts, leb-true, lt-leb, or_from, and_right}
use Rattle.std.proofs.lemmas.List.Elements.{All-cons, All-weaker}
use Rattle.std.proofs.lemmas.List.Sums.{AllPass-from_list_all}
use Rattle.std.proofs.lemmas.Fmt.{decimal_is_IsNumeral_wide}
use Rattle.std.proofs.lemmas.Str.Parse.{IsNumeralModel, numerals_by_fold}
use Rattle.viz_lex.specs.declared.fault.FileFault.{FileFault}
use Rattle.viz_lex.specs.declared.fault.FileKind.TheVariants.{Number, ValueRange, Truncated}
use Rattle.viz_lex.specs.declared.span.Span.{Span}
use Rattle.viz_lex.specs.Reading.{Reading, rest_of, advanced, fault_at, ◌>>=◌}
use Rattle.viz_lex.specs.Words.{is_blank, text_of, word_at, EndsWord, IsBlank, IsWord, IsNextWord}
use Rattle.viz_lex.specs.Numbers.{is_digit, digits_value, natural_of, whole_of, fits_i128, number_at, whole_at, IsNumberAt}
use Rattle.viz_lex.proofs.ReadingLemmas.{done, failed, done_is, fault_is, bind_ok, bind_err}
use Rattle.viz_lex.proofs.WordLemmas.{word_at-next, text_of-next, word_at-blank, word_at-Some, word_at-None}

-- 17 digits leave room for one more
pub power_small : (i : ℕ) → i < 18 → 10 ^ i ≤ 10 ^ 17
power_small i h = pow-le-pow_right {n = 10} (omega arith) {i = i} {j = 17} (omega arith)

-- ---- the number of a word

pub number_at-none : (word : List ℕ) (place : ℕ) → whole_of word ≡ None → number_at word place ≡ Err (fault_at Number place)
number_at-none word place e = rw e refl

pub number_at-wide : (word : List ℕ) (place : ℕ) (n : ℤ) → whole_of word ≡ Some n → fits_i128 n ≡ false → number_at word place ≡ Err (fault_at ValueRange place)
number_at-wide word place n e wide = rw (e, wide) refl

pub number_at-some : (word : List ℕ) (place : ℕ) (n : ℤ) → whole_of word ≡ Some n → fits_i128 n ≡ true → number_at word place ≡ Ok n
number_at-some word place n e fits = rw (e, fits) refl

pub some_from_ok : {A : Type 0} (o : Option A) (d : FileFault) (x : A) → ok_or o d ≡ Ok x → o ≡ Some x
some_from_ok None d x e = absurd cc
some_from_ok (Some y) d x e = ap Some (done_is _ _ e)

pub none_from_err : {A : Type 0} (o : Option A) (d f : FileFault) → ok_or o d ≡ Err f → (o ≡ None) × (d ≡ f)
none_from_err None d f e = (refl, fault_is _ _ e)
none_from_err (Some y) d f e = absurd cc

-- an answer is the number of the word
pub number_at-Ok : (word : List ℕ) (place : ℕ) (n : ℤ) → number_at word place ≡ Ok n → (whole_of word ≡ Some n) × (fits_i128 n ≡ true)
number_at-Ok word place n e =
    let found = bind_ok (ok_or (whole_of word) (fault_at Number place)) (λ m. cond (fits_i128 m) (Ok m) (Err (fault_at ValueRange place))) n e in
    elim (cases_Bool (fits_i128 found.0)) [
      | inl fits ↦
          let same : found.0 ≡ n = done_is _ _ (sym (cond-true _ _ _ fits) ∙ found.2) in
          (some_from_ok _ _ _ found.1 ∙ ap Some same, sym (ap fits_i128 same) ∙ fits)
      | inr wide ↦ absurd (let none : failed (fault_at ValueRange place) ≡ Ok n = sym (cond-false _ _ _ wide) ∙ found.2 in cc)
    ]

-- the word is no number
abbrev IsNone-number : List ℕ → ℕ → FileFault → Type 0
IsNone-number word place f = (whole_of word ≡ None) × (f ≡ fault_at Number place)

-- the word is a number that lies outside 128 bits
abbrev IsWide-number : List ℕ → ℕ → FileFault → Type 0
IsWide-number word place f = (n : ℤ) × (whole_of word ≡ Some n) × (fits_i128 n ≡ false) × (f ≡ fault_at ValueRange place)

-- why there is none
pub number_at-Err : (word : List ℕ) (place : ℕ) (f : FileFault) → number_at word place ≡ Err f → IsNone-number word place f ⊎ IsWide-number word place f
number_at-Err word place f e =
    elim (bind_err (ok_or (whole_of word) (fault_at Number place)) (λ m. cond (fits_i128 m) (Ok m) (Err (fault_at ValueRange place))) f e) [
      | inl here ↦ let none = none_from_err _ _ _ here in inl (none.0, sym none.1)
      | inr found ↦
          elim (cases_Bool (fits_i128 found.0)) [
            | inl fits ↦ absurd (let none : done found.0 ≡ Err f = sym (cond-true _ _ _ fits) ∙ found.2 in cc)
            | inr wide ↦ inr (found.0, some_from_ok _ _ _ found.1, wide, sym (fault_is _ _ (sym (cond-false _ _ _ wide) ∙ found.2)))
          ]
    ]

-- ---- `whole_at`

-- the next word is read as a number
pub whole_at-next : (r : Reading) (gap word behind : List ℕ) → IsNextWord (rest_of r) gap word behind → whole_at r ≡ (number_at word (r.place + length gap) >>= λ n. Ok (n, advanced r (length gap + length word)))
unfolding whole_at
whole_at-next r gap word behind h = rw (word_at-next r gap word behind h, text_of-next r gap word behind h) refl

pub whole_at-some : (r : Reading) (gap word behind : List ℕ) (n : ℤ) → IsNextWord (rest_of r) gap word behind → whole_of word ≡ Some n → fits_i128 n ≡ true → whole_at r ≡ Ok (n, advanced r (length gap + length word))
whole_at-some r gap word behind n h e fits = whole_at-next r gap word behind h ∙ rw (number_at-some word (r.place + length gap) n e fits) refl

-- blanks alone are too short
pub whole_at-blank : (r : Reading) → IsBlank (rest_of r) → whole_at r ≡ Err (fault_at Truncated (length r.bytes))
unfolding whole_at
whole_at-blank r h = rw (word_at-blank r h) refl

abbrev number_from : Reading → Span × Reading → Result (ℤ × Reading) FileFault
number_from r found = number_at (text_of r found.0) found.0.start >>= λ n. Ok (n, found.1)

-- what is read is the number of the next word
pub whole_at-Ok : (r next : Reading) (n : ℤ) → whole_at r ≡ Ok (n, next) → IsNumberAt r next n
unfolding whole_at
whole_at-Ok r next n e =
    let word = bind_ok (ok_or (word_at r) (fault_at Truncated (length r.bytes))) (number_from r) (n, next) e in
    let number = bind_ok (number_at (text_of r word.0.0) word.0.0.start) (λ m. Ok (m, word.0.1)) (n, next) word.2 in
    let same = done_is (number.0, word.0.1) (n, next) number.2 in
    let value = number_at-Ok (text_of r word.0.0) word.0.0.start number.0 number.1 in
    let found : word_at r ≡ Some (word.0.0, next) = some_from_ok _ _ _ word.1 ∙ ap (λ (p : ℤ × Reading). Some (word.0.0, p.1)) same in
    (word.0.0, word_at-Some r next word.0.0 found, value.0 ∙ ap (λ (p : ℤ × Reading). Some p.0) same)

-- nothing but blanks is too short
pub whole_at-Truncated : (r : Reading) (p : ℕ) → whole_at r ≡ Err (fault_at Truncated p) → IsBlank (rest_of r)
unfolding whole_at
whole_at-Truncated r p e =
    elim (bind_err (ok_or (word_at r) (fault_at Truncated (length r.bytes))) (number_from r) (fault_at Truncated p) e) [
      | inl here ↦ word_at-None r (none_from_err _ _ _ here).0
      | inr word ↦
          elim (bind_err (number_at (text_of r word.0.0) word.0.0.start) (λ m. Ok (m, word.0.1)) (fault_at Truncated p) word.2) [
            | inl here ↦
                elim (number_at-Err (text_of r word.0.0) word.0.0.start (fault_at Truncated p) here) [
                  | inl none ↦ absurd (let same : Truncated ≡ Number = ap (λ f. f.kind) none.1 in cc)
                  | inr wide ↦ absurd (let same : Truncated ≡ ValueRange = ap (λ f. f.kind) wide.3 in cc)
                ]
            | inr read ↦ absurd (let same : done (read.0, word.0.1) ≡ Err (fault_at Truncated p) = read.2 in cc)
          ]
    ]

-- where the next word is known, the number alone decides
whole_at-next-Err : (r : Reading) (gap word behind : List ℕ) (f : FileFault) → IsNextWord (rest_of r) gap word behind → whole_at r ≡ Err f → number_at word (r.place + length gap) ≡ Err f
whole_at-next-Err r gap word behind f h e =
    elim (bind_err (number_at word (r.place + length gap)) (λ n. Ok (n, advanced r (length gap + length word))) f (sym (whole_at-next r gap word behind h) ∙ e)) [
      | inl here ↦ here
      | inr read ↦ absurd (let same : done (read.0, advanced r (length gap + length word)) ≡ Err f = read.2 in cc)
    ]

-- a word that is no number is a fault at its start, and no other word is this fault
pub whole_at-Number : (r : Reading) (gap word behind : List ℕ) → IsNextWord (rest_of r) gap word behind → (whole_at r ≡ Err (fault_at Number (r.place + length gap))) ↔ (whole_of word ≡ None)
whole_at-Number r gap word behind h = (
  λ e. elim (number_at-Err word (r.place + length gap) (fault_at Number (r.place + length gap)) (whole_at-next-Err r gap word behind _ h e)) [
    | inl none ↦ none.0
    | inr wide ↦ absurd (let same : Number ≡ ValueRange = ap (λ f. f.kind) wide.3 in cc)
  ],
  λ none. whole_at-next r gap word behind h ∙ rw (number_at-none word (r.place + length gap) none) refl,
)

-- so is a number outside 128 bits
pub whole_at-ValueRange : (r : Reading) (gap word behind : List ℕ) → IsNextWord (rest_of r) gap word behind → (whole_at r ≡ Err (fault_at ValueRange (r.place + length gap))) ↔ ((n : ℤ) × (whole_of word ≡ Some n) × (fits_i128 n ≡ false))
whole_at-ValueRange r gap word behind h = (
  λ e. elim (number_at-Err word (r.place + length gap) (fault_at ValueRange (r.place + length gap)) (whole_at-next-Err r gap word behind _ h e)) [
    | inl none ↦ absurd (let same : ValueRange ≡ Number = ap (λ f. f.kind) none.1 in cc)
    | inr wide ↦ (wide.0, wide.1, wide.2)
  ],
  λ wide. whole_at-next r gap word behind h ∙ rw (number_at-wide word (r.place + length gap) wide.0 wide.1 wide.2) refl,
)

-- ---- what is written

own : IsNumeralModel (λ ds. list_all is_digit ds ≡ true) digits_value
own = numerals_by_fold _ (search rules) (λ n ds. fold (λ m b. m * 10 + (b - 48)) n ds) (search rules)

pub natural_of-digits : (ds : List ℕ) → 0 < length ds → list_all is_digit ds ≡ true → natural_of ds ≡ Some (digits_value ds)
natural_of-digits ds some digits = rw (ne_eqb (length ds) 0 (λ e. omega arith), digits) refl

pub digit_is : (b : ℕ) → is_digit b ≡ true → (48 ≤ b) × (b ≤ 57)
digit_is b digit = let parts = and_parts _ _ digit in (leb-true _ _ parts.0, leb-true _ _ parts.1)

digit_solid : (b : ℕ) → is_digit b ≡ true → is_blank b ≡ false
digit_solid b digit =
    let within = digit_is b digit in
    or_from _ _ (and_right _ _ (lt-leb b 13 (omega arith))) (ne_eqb b 32 (λ e. omega arith))

pub digits_solid : (ds : List ℕ) → list_all is_digit ds ≡ true → All (λ b. is_blank b ≡ false) ds
digits_solid ds digits = All-weaker (λ b. is_digit b ≡ true) (λ b. is_blank b ≡ false) digit_solid ds (AllPass-from_list_all is_digit ds digits)

-- digits are a number
pub whole_of-digits : (ds : List ℕ) → 0 < length ds → list_all is_digit ds ≡ true → whole_of ds ≡ Some (pos (digits_value ds))
whole_of-digits [] some digits = absurd (omega arith)
whole_of-digits (b ∷ bs) some digits =
    let within = digit_is b (and_parts _ _ digits).0 in
    rw (ne_eqb b 45 (λ e. omega arith), ne_eqb b 43 (λ e. omega arith), natural_of-digits (b ∷ bs) some digits) refl

-- what is written of a natural number
pub record IsWritten (n : ℕ) (ds : List ℕ) : Type 0 where
  pub some : 0 < length ds
  pub digits : list_all is_digit ds ≡ true
  pub value : digits_value ds ≡ n

pub IsWritten-decimal : (n : ℕ) → n ≤ 2 ^ 127 → IsWritten n (decimal n)
IsWritten-decimal n h =
    let known = decimal_is_IsNumeral_wide n (omega arith) in record {
      some = known.0.0;
      digits = own.from (decimal n) known.0.1;
      value = own.same (decimal n) known.0.1 ∙ known.1;
    }

some_word : (ds : List ℕ) → 0 < length ds → ds ≢ []
some_word ds some e = omega (arith, ap length e)

-- a number that is written is a word, and that number
pub IsWord-signed_decimal : (z : ℤ) → FitsSigned w128 z → IsWord (signed_decimal z)
IsWord-signed_decimal (pos n) h =
    let written = IsWritten-decimal n (omega (arith, h.sfits)) in
    record { some = some_word _ written.some; solid = digits_solid _ written.digits }
IsWord-signed_decimal (negsuc n) h =
    let written = IsWritten-decimal (suc n) (omega (arith, h.sfits)) in
    record { some = some_word _ (omega arith); solid = All-cons (λ b. is_blank b ≡ false) 45 _ refl (digits_solid _ written.digits) }

pub whole_of-signed_decimal : (z : ℤ) → FitsSigned w128 z → whole_of (signed_decimal z) ≡ Some z
whole_of-signed_decimal (pos n) h =
    let written = IsWritten-decimal n (omega (arith, h.sfits)) in
    whole_of-digits _ written.some written.digits ∙ ap (λ m. Some (pos m)) written.value
whole_of-signed_decimal (negsuc n) h =
    let written = IsWritten-decimal (suc n) (omega (arith, h.sfits)) in
    ap (option_map (λ m. neg_ℤ (pos m))) (natural_of-digits _ written.some written.digits ∙ ap Some written.value)

-- what fits passes the test
pub fits_i128-fits : (z : ℤ) → FitsSigned w128 z → fits_i128 z ≡ true
fits_i128-fits (pos n) h = lt-ltb n (2 ^ 127) h.sfits
fits_i128-fits (negsuc n) h = lt-ltb n (2 ^ 127) h.sfits

-- a number that is written is read again
pub whole_at-signed_decimal : (r : Reading) (gap behind : List ℕ) (z : ℤ) → FitsSigned w128 z → IsBlank gap → EndsWord behind → rest_of r ≡ gap ++ (signed_decimal z ++ behind) → whole_at r ≡ Ok (z, advanced r (length gap + length (signed_decimal z)))
whole_at-signed_decimal r gap behind z fits blank ends parts =
    let word : IsNextWord (rest_of r) gap (signed_decimal z) behind = record { parts = parts; blank = blank; is_word = IsWord-signed_decimal z fits; ends = ends } in
    whole_at-some r gap (signed_decimal z) behind z word (whole_of-signed_decimal z fits) (fits_i128-fits z fits)
