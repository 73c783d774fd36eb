-- Decimals: what is spelled so is found, what is found is spelled so, and each fault exactly where.
use Rattle.std.proofs.Common.{◌≡◌, ◌≢◌, ◌⊎◌, ◌↔◌, ℕ, ℤ, pos, neg_ℤ, suc, ◌+◌, ◌<◌, ◌≤◌, true, false, cond, leb, eqb, Bool, List, [], ◌∷◌, ◌++◌, length, take, drop, Option, Some, None, Result, Ok, Err, refl, sym, ap, subst, ◌∙◌, inl, inr, arith}
use Rattle.std.specs.Prelude.{ok_or, option_map, not}
use Rattle.std.specs.List.{list_all}
use Rattle.std.proofs.lemmas.Option.{none-some, same_Some}
use Rattle.std.proofs.lemmas.Bool.{cases_Bool, cond_both, cond-true, cond-false, eqb-true, ne_eqb, and_parts, leb-true, le-leb, not-true}
use Rattle.std.proofs.lemmas.List.{take-append-drop, take_at, drop_at, drop_all, take_all, drop-drop, append-nil}
use Rattle.std.proofs.lemmas.List.Folds.{list_all-append}
use Rattle.viz_lex.specs.declared.fault.FileFault.{FileFault}
use Rattle.viz_lex.specs.declared.fault.FileKind.TheVariants.{HeaderNumber, Truncated}
use Rattle.viz_lex.specs.declared.span.Span.{Span}
use Rattle.viz_lex.specs.Reading.{Reading, rest_of, advanced, fault_at, ◌>>=◌}
use Rattle.viz_lex.specs.Words.{text_of, word_at, IsBlank, IsNextWord}
use Rattle.viz_lex.specs.Numbers.{is_digit, digits_value, natural_of}
use Rattle.viz_lex.specs.Decimals.{is_point, is_letter, first_at, billionths, exponent_of, in_front, behind_point, scaled_of, magnitude_by, magnitude_of, signed_of, decimal_of, in_limit, limited, decimal_at, IsSign, IsMantissa, IsExponent, Spelling, IsSpelled, worth, IsDecimal, IsDecimalAt}
use Rattle.viz_lex.proofs.ReadingLemmas.{done, failed, done_is, bind_ok, bind_err}
use Rattle.viz_lex.proofs.WordLemmas.{word_at-next, text_of-next, word_at-blank, word_at-Some, word_at-None}
use Rattle.viz_lex.proofs.LineLemmas.{some_map}
use Rattle.viz_lex.proofs.NumberLemmas.{digit_is, natural_of-digits, some_from_ok, none_from_err}
use Rattle.viz_lex.proofs.ScaleLemmas.{natural_of-Some}

-- ---- the first byte of a sort

first_at-append : (is : ℕ → Bool) (front back : List ℕ) → list_all (λ b. not (is b)) front ≡ true → first_at is back ≡ 0 → first_at is (front ++ back) ≡ length front
first_at-append is [] back none e = e
first_at-append is (b ∷ bs) back none e =
    let parts = and_parts _ _ none in
    let later : is b ≡ false = not-true (is b) parts.0 in
    rw later (ap suc (first_at-append is bs back parts.1 e))

-- what stands there is one of the sort
first_at-is : (is : ℕ → Bool) (text : List ℕ) (b : ℕ) (bs : List ℕ) → drop (first_at is text) text ≡ b ∷ bs → is b ≡ true
first_at-is is [] b bs e = absurd cc
first_at-is is (a ∷ as_) b bs e =
    elim (cases_Bool (is a)) [
      | inl here ↦
          let same : a ∷ as_ ≡ b ∷ bs = rw here at e in
          let head : a ≡ b = cc in
          subst (λ k. is k ≡ true) head here
      | inr later ↦ first_at-is is as_ b bs (rw later at e)
    ]

weaker_digits : (is : ℕ → Bool) → ((b : ℕ) → is_digit b ≡ true → not (is b) ≡ true) → (ds : List ℕ) → list_all is_digit ds ≡ true → list_all (λ b. not (is b)) ds ≡ true
weaker_digits is f [] h = refl
weaker_digits is f (b ∷ bs) h = let parts = and_parts _ _ h in rw (f b parts.0, weaker_digits is f bs parts.1) refl

digit_no_point : (b : ℕ) → is_digit b ≡ true → not (is_point b) ≡ true
digit_no_point b h = let within = digit_is b h in rw (ne_eqb b 46 (λ e. omega arith)) refl

digit_no_letter : (b : ℕ) → is_digit b ≡ true → not (is_letter b) ≡ true
digit_no_letter b h = let within = digit_is b h in rw (ne_eqb b 101 (λ e. omega arith), ne_eqb b 69 (λ e. omega arith)) refl

-- ---- a mantissa and its two parts

digits_parts : (front back : List ℕ) → list_all is_digit (front ++ back) ≡ true → (list_all is_digit front ≡ true) × (list_all is_digit back ≡ true)
digits_parts front back h = and_parts _ _ (sym (list_all-append is_digit front back) ∙ h)

point_is : (front back : List ℕ) → list_all is_digit front ≡ true → first_at is_point (front ++ 46 ∷ back) ≡ length front
point_is front back h = first_at-append is_point front (46 ∷ back) (weaker_digits is_point digit_no_point front h) refl

no_point_is : (front : List ℕ) → list_all is_digit front ≡ true → first_at is_point front ≡ length front
no_point_is front h =
    ap (first_at is_point) (sym (append-nil front)) ∙ first_at-append is_point front [] (weaker_digits is_point digit_no_point front h) refl

in_front_is : (text front back : List ℕ) → IsMantissa text front back → list_all is_digit front ≡ true → in_front text ≡ front
in_front_is text front back m h =
    elim m [
      | inl e ↦
          ap in_front e ∙ ap (λ k. take k (front ++ 46 ∷ back)) (point_is front back h) ∙ take_at front (46 ∷ back) (length front) refl
      | inr e ↦
          ap in_front e.0 ∙ ap (λ k. take k front) (no_point_is front h) ∙ take_all (length front) front (omega arith)
    ]

behind_point_is : (text front back : List ℕ) → IsMantissa text front back → list_all is_digit front ≡ true → behind_point text ≡ back
behind_point_is text front back m h =
    elim m [
      | inl e ↦
          let next : suc (length front) ≡ length front + 1 = omega arith in
          ap behind_point e ∙ ap (λ k. drop (suc k) (front ++ 46 ∷ back)) (point_is front back h) ∙ ap (λ k. drop k (front ++ 46 ∷ back)) next
          ∙ sym (drop-drop 1 (length front) (front ++ 46 ∷ back)) ∙ ap (drop 1) (drop_at front (46 ∷ back) (length front) refl)
      | inr e ↦
          ap behind_point e.0 ∙ ap (λ k. drop (suc k) front) (no_point_is front h) ∙ drop_all (suc (length front)) front (omega arith) ∙ sym e.1
    ]

IsMantissa-byte : (b : ℕ) (bs front back : List ℕ) → IsMantissa bs front back → IsMantissa (b ∷ bs) (b ∷ front) back
IsMantissa-byte b bs front back m =
    elim m [ inl e ↦ inl (ap (λ t. b ∷ t) e) | inr e ↦ inr (ap (λ t. b ∷ t) e.0, e.1) ]

IsMantissa-split : (text : List ℕ) → IsMantissa text (in_front text) (behind_point text)
IsMantissa-split [] = inr (refl, refl)
IsMantissa-split (b ∷ bs) =
    cond_both (is_point b) 0 (suc (first_at is_point bs)) (λ n. IsMantissa (b ∷ bs) (take n (b ∷ bs)) (drop (suc n) (b ∷ bs)))
    (λ here. inl (ap (λ k. k ∷ bs) (eqb-true b 46 here)))
    (λ later. IsMantissa-byte b bs (in_front bs) (behind_point bs) (IsMantissa-split bs))

-- ---- the magnitude

letter_is : (mantissa tail : List ℕ) (front back : List ℕ) (e : ℤ) → IsMantissa mantissa front back → list_all is_digit (front ++ back) ≡ true → IsExponent tail e → first_at is_letter (mantissa ++ tail) ≡ length mantissa
letter_is mantissa tail front back e m digits ten =
    let parts = digits_parts front back digits in
    let front_none = weaker_digits is_letter digit_no_letter front parts.0 in
    let back_none = weaker_digits is_letter digit_no_letter back parts.1 in
    let none : list_all (λ b. not (is_letter b)) mantissa ≡ true =
    elim m [
      | inl is ↦ ap (list_all (λ b. not (is_letter b))) is ∙ list_all-append (λ b. not (is_letter b)) front (46 ∷ back) ∙ rw (front_none, back_none) refl
      | inr is ↦ ap (list_all (λ b. not (is_letter b))) is.0 ∙ front_none
    ] in
    let first : first_at is_letter tail ≡ 0 = elim ten [ inl x ↦ ap (first_at is_letter) x.2 ∙ rw x.3 refl | inr x ↦ ap (first_at is_letter) x.0 ] in
    first_at-append is_letter mantissa tail none first

exponent_is : (tail : List ℕ) (e : ℤ) → IsExponent tail e → exponent_of tail ≡ Some e
exponent_is tail e ten = elim ten [ inl x ↦ ap exponent_of x.2 ∙ x.4 | inr x ↦ ap exponent_of x.0 ∙ ap Some (sym x.1) ]

some_length : (text : List ℕ) → text ≢ [] → 0 < length text
some_length [] h = absurd (h refl)
some_length (b ∷ bs) h = omega arith

magnitude_is : (mantissa tail front back : List ℕ) (e : ℤ) → IsMantissa mantissa front back → list_all is_digit (front ++ back) ≡ true → front ++ back ≢ [] → IsExponent tail e → magnitude_of (mantissa ++ tail) ≡ Some (billionths (digits_value (front ++ back)) (length back) e)
magnitude_is mantissa tail front back e m digits some ten =
    let stop = letter_is mantissa tail front back e m digits ten in
    let front_digits = (digits_parts front back digits).0 in
    ap (λ k. magnitude_by (take k (mantissa ++ tail)) (drop k (mantissa ++ tail))) stop
    ∙ ap (λ t. magnitude_by t (drop (length mantissa) (mantissa ++ tail))) (take_at mantissa tail (length mantissa) refl) ∙ ap (magnitude_by mantissa) (drop_at mantissa tail (length mantissa) refl)
    ∙ rw (in_front_is mantissa front back m front_digits, behind_point_is mantissa front back m front_digits, natural_of-digits (front ++ back) (some_length (front ++ back) some) digits, exponent_is tail e ten) refl

-- the parts of a magnitude
record Magnitude (text : List ℕ) (n : ℕ) : Type 0 where
  mantissa : List ℕ
  front : List ℕ
  back : List ℕ
  tail : List ℕ
  exponent : ℤ
  parts : text ≡ mantissa ++ tail
  is_mantissa : IsMantissa mantissa front back
  digits : list_all is_digit (front ++ back) ≡ true
  some : front ++ back ≢ []
  is_exponent : IsExponent tail exponent
  value : billionths (digits_value (front ++ back)) (length back) exponent ≡ n

scaled_of-Some : (o : Option ℕ) (p : ℕ) (t : Option ℤ) (n : ℕ) → scaled_of o p t ≡ Some n → (m : ℕ) × (e : ℤ) × (o ≡ Some m) × (t ≡ Some e) × (billionths m p e ≡ n)
scaled_of-Some None p t n h = absurd (none-some _ h)
scaled_of-Some (Some m) p None n h = absurd (none-some _ h)
scaled_of-Some (Some m) p (Some e) n h = (m, e, refl, refl, same_Some _ _ h)

IsExponent-from : (tail : List ℕ) (e : ℤ) → ((b : ℕ) (bs : List ℕ) → tail ≡ b ∷ bs → is_letter b ≡ true) → exponent_of tail ≡ Some e → IsExponent tail e
IsExponent-from [] e first h = inr (refl, sym (same_Some _ _ h))
IsExponent-from (b ∷ bs) e first h = inl (b, bs, refl, first b bs refl, h)

some_from_length : (text : List ℕ) → 0 < length text → text ≢ []
some_from_length text h e = omega (arith, ap length e)

Magnitude-from : (text : List ℕ) (n : ℕ) → magnitude_of text ≡ Some n → Magnitude text n
Magnitude-from text n h =
    let stop = first_at is_letter text in
    let mantissa = take stop text in
    let tail = drop stop text in
    let both = scaled_of-Some (natural_of (in_front mantissa ++ behind_point mantissa)) (length (behind_point mantissa)) (exponent_of tail) n h in
    let number = natural_of-Some (in_front mantissa ++ behind_point mantissa) both.0 both.2 in
    record {
      mantissa = mantissa;
      front = in_front mantissa;
      back = behind_point mantissa;
      tail = tail;
      exponent = both.1;
      parts = sym (take-append-drop stop text);
      is_mantissa = IsMantissa-split mantissa;
      digits = number.1;
      some = some_from_length (in_front mantissa ++ behind_point mantissa) number.0;
      is_exponent = IsExponent-from tail both.1 (first_at-is is_letter text) both.3;
      value = ap (λ m. billionths m (length (behind_point mantissa)) both.1) number.2 ∙ both.4;
    }

-- ---- the decimal of a word

-- the first byte of a mantissa is no sign
first_byte : (mantissa front back : List ℕ) → IsMantissa mantissa front back → list_all is_digit (front ++ back) ≡ true → front ++ back ≢ [] → (b : ℕ) × (bs : List ℕ) × (mantissa ≡ b ∷ bs) × (b ≢ 45) × (b ≢ 43)
first_byte mantissa [] back m digits some =
    elim m [ inl e ↦ (46, back, e, (λ x. omega arith), (λ x. omega arith)) | inr e ↦ absurd (some e.1) ]
first_byte mantissa (b ∷ bs) back m digits some =
    let within = digit_is b (and_parts _ _ digits).0 in
    elim m [
      | inl e ↦ (b, bs ++ 46 ∷ back, e, (λ x. omega arith), (λ x. omega arith))
      | inr e ↦ (b, bs, e.0, (λ x. omega arith), (λ x. omega arith))
    ]

signed_of-plain : (text : List ℕ) (b : ℕ) (bs : List ℕ) → text ≡ b ∷ bs → b ≢ 45 → b ≢ 43 → signed_of text ≡ option_map (λ n. pos n) (magnitude_of text)
signed_of-plain text b bs e minus plus =
    let P : List ℕ → Type 0 = λ t. signed_of t ≡ option_map (λ n. pos n) (magnitude_of t) in
    subst P (sym e) (rw (ne_eqb b 45 minus, ne_eqb b 43 plus) refl)

-- a spelling without its sign
spelled_magnitude : (word : List ℕ) (s : Spelling) → IsSpelled word s → magnitude_of (s.mantissa ++ s.tail) ≡ Some (billionths (digits_value (s.front ++ s.back)) (length s.back) s.exponent)
spelled_magnitude word s h = magnitude_is s.mantissa s.tail s.front s.back s.exponent h.is_mantissa h.digits h.some h.is_exponent

signed_of-spelled : (negative : Bool) (sign rest mantissa front back tail : List ℕ) (n : ℕ) → IsSign sign negative → rest ≡ mantissa ++ tail → IsMantissa mantissa front back → list_all is_digit (front ++ back) ≡ true → front ++ back ≢ [] → magnitude_of rest ≡ Some n
    → signed_of (sign ++ rest) ≡ Some (cond negative (neg_ℤ (pos n)) (pos n))
signed_of-spelled true sign rest mantissa front back tail n is parts m digits some e =
    ap (λ t. signed_of (t ++ rest)) is ∙ ap (option_map (λ n. neg_ℤ (pos n))) e
signed_of-spelled false sign rest mantissa front back tail n is parts m digits some e =
    elim is [
      | inl none ↦
          let first = first_byte mantissa front back m digits some in
          ap (λ t. signed_of (t ++ rest)) none ∙ signed_of-plain rest first.0 (first.1 ++ tail) (parts ∙ ap (λ t. t ++ tail) first.2) first.3 first.4 ∙ ap (option_map (λ n. pos n)) e
      | inr plus ↦ ap (λ t. signed_of (t ++ rest)) plus ∙ ap (option_map (λ n. pos n)) e
    ]

-- what is spelled so is found
decimal_of-spelled : (word : List ℕ) (s : Spelling) → IsSpelled word s → decimal_of word ≡ Some (worth s)
decimal_of-spelled word s h =
    let rest = s.mantissa ++ s.tail in
    rw (le-leb (length word) 64 h.short)
    (ap signed_of h.parts ∙ signed_of-spelled s.negative s.sign rest s.mantissa s.front s.back s.tail _ h.is_sign refl h.is_mantissa h.digits h.some (spelled_magnitude word s h))

-- what is found is spelled so
spelled_from : (word : List ℕ) (negative : Bool) (sign rest : List ℕ) (n : ℕ) (z : ℤ) → length word ≤ 64 → word ≡ sign ++ rest → IsSign sign negative → magnitude_of rest ≡ Some n → cond negative (neg_ℤ (pos n)) (pos n) ≡ z → IsDecimal word z
spelled_from word negative sign rest n z short parts is e value =
    let found = Magnitude-from rest n e in
    let s : Spelling = record {
      negative = negative;
      sign = sign;
      mantissa = found.mantissa;
      front = found.front;
      back = found.back;
      tail = found.tail;
      exponent = found.exponent;
    } in
    let spelled : IsSpelled word s = record {
      parts = parts ∙ ap (λ t. sign ++ t) found.parts;
      short = short;
      is_sign = is;
      is_mantissa = found.is_mantissa;
      digits = found.digits;
      some = found.some;
      is_exponent = found.is_exponent;
    } in
    (s, spelled, ap (λ k. cond negative (neg_ℤ (pos k)) (pos k)) found.value ∙ value)

signed_of-Some : (word : List ℕ) (z : ℤ) → length word ≤ 64 → signed_of word ≡ Some z → IsDecimal word z
signed_of-Some [] z short e = absurd (none-some _ e)
signed_of-Some (b ∷ bs) z short e =
    elim (cases_Bool (eqb b 45)) [
      | inl minus ↦
          let found = some_map (λ n. neg_ℤ (pos n)) (magnitude_of bs) z (sym (cond-true _ _ _ minus) ∙ e) in
          spelled_from (b ∷ bs) true (45 ∷ []) bs found.0 z short (ap (λ k. k ∷ bs) (eqb-true b 45 minus)) refl found.1 found.2
      | inr other ↦
          let later = sym (cond-false _ _ _ other) ∙ e in
          elim (cases_Bool (eqb b 43)) [
            | inl plus ↦
                let found = some_map (λ n. pos n) (magnitude_of bs) z (sym (cond-true _ _ _ plus) ∙ later) in
                spelled_from (b ∷ bs) false (43 ∷ []) bs found.0 z short (ap (λ k. k ∷ bs) (eqb-true b 43 plus)) (inr refl) found.1 found.2
            | inr none ↦
                let found = some_map (λ n. pos n) (magnitude_of (b ∷ bs)) z (sym (cond-false _ _ _ none) ∙ later) in
                spelled_from (b ∷ bs) false [] (b ∷ bs) found.0 z short refl (inl refl) found.1 found.2
          ]
    ]

pub decimal_of-Some : (word : List ℕ) (z : ℤ) → decimal_of word ≡ Some z → IsDecimal word z
decimal_of-Some word z e =
    elim (cases_Bool (leb (length word) 64)) [
      | inl short ↦ signed_of-Some word z (leb-true (length word) 64 short) (sym (cond-true _ _ _ short) ∙ e)
      | inr long ↦ absurd (none-some _ (sym (cond-false _ _ _ long) ∙ e))
    ]

pub decimal_of-is : (word : List ℕ) (z : ℤ) → IsDecimal word z → decimal_of word ≡ Some z
decimal_of-is word z h = decimal_of-spelled word h.0 h.1 ∙ ap Some h.2

-- ---- `decimal_at`

limited-some : (z : ℤ) → in_limit z ≡ true → limited (Some z) ≡ Some z
limited-some z h = rw h refl

limited-Some : (o : Option ℤ) (z : ℤ) → limited o ≡ Some z → (o ≡ Some z) × (in_limit z ≡ true)
limited-Some None z e = absurd (none-some _ e)
limited-Some (Some y) z e =
    elim (cases_Bool (in_limit y)) [
      | inl within ↦
          let same = same_Some _ _ (sym (cond-true _ _ _ within) ∙ e) in
          (ap Some same, sym (ap in_limit same) ∙ within)
      | inr past ↦ absurd (none-some _ (sym (cond-false _ _ _ past) ∙ e))
    ]

-- the decimal of a word at a place
abbrev decimal_in : List ℕ → ℕ → Result ℤ FileFault
decimal_in word place = ok_or (limited (decimal_of word)) (fault_at HeaderNumber place)

pub decimal_at-next : (r : Reading) (gap word behind : List ℕ) → IsNextWord (rest_of r) gap word behind → decimal_at r ≡ (decimal_in word (r.place + length gap) >>= λ z. Ok (z, advanced r (length gap + length word)))
unfolding decimal_at
decimal_at-next r gap word behind h = rw (word_at-next r gap word behind h, text_of-next r gap word behind h) refl

pub decimal_at-some : (r : Reading) (gap word behind : List ℕ) (z : ℤ) → IsNextWord (rest_of r) gap word behind → IsDecimal word z → in_limit z ≡ true → decimal_at r ≡ Ok (z, advanced r (length gap + length word))
decimal_at-some r gap word behind z h is within =
    let found : limited (decimal_of word) ≡ Some z = ap limited (decimal_of-is word z is) ∙ limited-some z within in
    decimal_at-next r gap word behind h ∙ rw found refl

pub decimal_at-blank : (r : Reading) → IsBlank (rest_of r) → decimal_at r ≡ Err (fault_at Truncated (length r.bytes))
unfolding decimal_at
decimal_at-blank r h = rw (word_at-blank r h) refl

abbrev decimal_from : Reading → Span × Reading → Result (ℤ × Reading) FileFault
decimal_from r found = decimal_in (text_of r found.0) found.0.start >>= λ z. Ok (z, found.1)

pub decimal_at-Ok : (r next : Reading) (z : ℤ) → decimal_at r ≡ Ok (z, next) → IsDecimalAt r next z
unfolding decimal_at
decimal_at-Ok r next z e =
    let word = bind_ok (ok_or (word_at r) (fault_at Truncated (length r.bytes))) (decimal_from r) (z, next) e in
    let number = bind_ok (decimal_in (text_of r word.0.0) word.0.0.start) (λ m. Ok (m, word.0.1)) (z, next) word.2 in
    let same = done_is (number.0, word.0.1) (z, next) number.2 in
    let value = limited-Some (decimal_of (text_of r word.0.0)) number.0 (some_from_ok _ _ _ number.1) in
    let found : word_at r ≡ Some (word.0.0, next) = some_from_ok _ _ _ word.1 ∙ ap (λ (p : ℤ × Reading). Some (word.0.0, p.1)) same in
    let z_is = ap (λ (p : ℤ × Reading). p.0) same in
    (word.0.0, word_at-Some r next word.0.0 found, decimal_of-Some _ z (value.0 ∙ ap Some z_is), sym (ap in_limit z_is) ∙ value.1)

pub decimal_at-Truncated : (r : Reading) (p : ℕ) → decimal_at r ≡ Err (fault_at Truncated p) → IsBlank (rest_of r)
unfolding decimal_at
decimal_at-Truncated r p e =
    elim (bind_err (ok_or (word_at r) (fault_at Truncated (length r.bytes))) (decimal_from r) (fault_at Truncated p) e) [
      | inl here ↦ word_at-None r (none_from_err _ _ _ here).0
      | inr word ↦
          elim (bind_err (decimal_in (text_of r word.0.0) word.0.0.start) (λ m. Ok (m, word.0.1)) (fault_at Truncated p) word.2) [
            | inl here ↦
                let none = none_from_err _ _ _ here in
                absurd (let same : HeaderNumber ≡ Truncated = ap (λ f. f.kind) none.1 in cc)
            | inr read ↦ absurd (let same : done (read.0, word.0.1) ≡ Err (fault_at Truncated p) = read.2 in cc)
          ]
    ]

none_or_some : (o : Option ℤ) → (o ≡ None) ⊎ ((z : ℤ) × (o ≡ Some z))
none_or_some None = inl refl
none_or_some (Some z) = inr (z, refl)

-- a word that is no decimal within the limit is a fault at its start, and no other word is this fault
pub decimal_at-HeaderNumber : (r : Reading) (gap word behind : List ℕ) → IsNextWord (rest_of r) gap word behind → (decimal_at r ≡ Err (fault_at HeaderNumber (r.place + length gap))) ↔ ((z : ℤ) → IsDecimal word z → in_limit z ≡ false)
decimal_at-HeaderNumber r gap word behind h = (
  λ e z is. elim (cases_Bool (in_limit z)) [
    | inl within ↦
        let found = decimal_at-some r gap word behind z h is within in
        absurd (let same : failed (fault_at HeaderNumber (r.place + length gap)) ≡ Ok (z, advanced r (length gap + length word)) = sym e ∙ found in cc)
    | inr past ↦ past
  ],
  λ none. elim (none_or_some (limited (decimal_of word))) [
    | inl missing ↦ decimal_at-next r gap word behind h ∙ rw missing refl
    | inr some ↦
        let known = limited-Some (decimal_of word) some.0 some.1 in
        absurd (let same : true ≡ false = sym known.1 ∙ none some.0 (decimal_of-Some word some.0 known.0) in cc)
  ],
)
