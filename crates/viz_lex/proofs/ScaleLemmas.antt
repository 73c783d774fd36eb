-- The digits that count, and what a power of ten makes of them.
use Rattle.std.proofs.Common.{◌≡◌, ◌≢◌, ℕ, ℤ, pos, negsuc, neg_ℤ, zero, suc, ◌+◌, ◌-◌, ◌*◌, ◌/◌, ◌^◌, ◌<◌, ◌≤◌, min, true, false, cond, leb, eqb, Bool, List, [], ◌∷◌, ◌++◌, length, take, drop, Option, Some, None, refl, sym, ap, subst, ◌∙◌, inl, inr, arith}
use Rattle.std.specs.Prelude.{option_map}
use Rattle.std.specs.List.{list_all}
use Rattle.std.proofs.Math.Nat.{one-le-pow, pow-suc, pow-le-pow_right, mul-le-mul_left, mul-le-mul_right, mul-div_cancel, div-div-eq-div-mul, div-eq_of_lt, div-one, mul-one, zero-div, zero-mul, mul_assoc}
use Rattle.std.proofs.Math.Seq.{take-append-add}
use Rattle.std.proofs.lemmas.Option.{none-some, same_Some}
use Rattle.std.proofs.lemmas.Nat.{pow-add, div-mul-add}
use Rattle.std.proofs.lemmas.Bool.{cases_Bool, cases_lt, cond_both, cond-true, cond-false, ne_eqb, eqb-false, and_parts, leb-true, lt-leb}
use Rattle.std.proofs.lemmas.List.{take-append-drop, take-append-le, take_all, append-nil, length-take, length-drop, length-append}
use Rattle.std.proofs.lemmas.List.Sums.{fold-append}
use Rattle.std.proofs.lemmas.List.Folds.{list_all-append}
use Rattle.viz_lex.specs.Numbers.{is_digit, digits_value, natural_of}
use Rattle.viz_lex.specs.Decimals.{is_point, is_letter, first_at, billionths, exponent_of, in_front, behind_point, scaled_of, magnitude_by, magnitude_of, limited}
use Rattle.viz_lex.specs.Scaled.{small, scaled, clipped, more_digits}

-- ---- digits one behind the other

more_min : (top n : ℕ) (ds : List ℕ) → min (more_digits (min n top) ds) top ≡ min (more_digits n ds) top
more_min top n [] = omega arith
more_min top n (b ∷ bs) =
    let same : min (min n top * 10 + (b - 48)) top ≡ min (n * 10 + (b - 48)) top = omega arith in
    sym (more_min top (min n top * 10 + (b - 48)) bs) ∙ ap (λ k. min (more_digits k bs) top) same ∙ more_min top (n * 10 + (b - 48)) bs

take_two : (keep : ℕ) (a b : List ℕ) → take keep (a ++ b) ≡ take (min keep (length a)) a ++ take (keep - min keep (length a)) b
take_two keep a b =
    elim (cases_lt (length a) keep) [
      | inl past ↦
          let most : min keep (length a) ≡ length a = omega arith in
          let sum : length a + (keep - length a) ≡ keep = omega arith in
          rw most (ap (λ k. take k (a ++ b)) (sym sum) ∙ take-append-add a b (keep - length a) ∙ ap (λ t. t ++ take (keep - length a) b) (sym (take_all (length a) a (omega arith))))
      | inr within ↦
          let all : min keep (length a) ≡ keep = omega arith in
          let none : keep - keep ≡ 0 = omega arith in
          rw (all, none) (take-append-le keep a b within ∙ sym (append-nil (take keep a)))
    ]

-- the first digits, read in two parts
pub leading_is : (top keep : ℕ) (a b : List ℕ) → min (more_digits (min (more_digits 0 (take (min keep (length a)) a)) top) (take (keep - min keep (length a)) b)) top ≡ min (digits_value (take keep (a ++ b))) top
leading_is top keep a b =
    let front = take (min keep (length a)) a in
    let back = take (keep - min keep (length a)) b in
    more_min top (more_digits 0 front) back ∙ ap (λ n. min n top) (sym (fold-append (λ n b. n * 10 + (b - 48)) 0 front back)) ∙ ap (λ t. min (digits_value t) top) (sym (take_two keep a b))

pub power_some : (k : ℕ) → 0 < 10 ^ k
power_some k = omega (arith, one-le-pow k 10 (omega arith))

-- one digit more
digit_step : (n d p q v : ℕ) → q ≡ p * 10 → (n * 10 + d) * p + v ≡ n * q + ((0 * 10 + d) * p + v)
digit_step n d p q v e = rw e (omega arith)

digit_below : (d p q v : ℕ) → d ≤ 9 → v < p → q ≡ p * 10 → (0 * 10 + d) * p + v < q
digit_below d p q v h below e = rw e (omega (arith, mul-le-mul_right p h))

pub more_value : (n : ℕ) (ds : List ℕ) → more_digits n ds ≡ n * 10 ^ length ds + digits_value ds
more_value n [] = omega arith
more_value n (b ∷ bs) =
    let p = 10 ^ length bs in
    let step = digit_step n (b - 48) p (10 ^ suc (length bs)) (digits_value bs) (pow-suc 10 (length bs)) in
    more_value (n * 10 + (b - 48)) bs ∙ step ∙ ap (λ v. n * 10 ^ suc (length bs) + v) (sym (more_value (0 * 10 + (b - 48)) bs))

digit_small : (b : ℕ) → is_digit b ≡ true → b - 48 ≤ 9
digit_small b h = omega (arith, leb-true b 57 (and_parts _ _ h).1)

-- digits are below the power of their number
pub digits_below : (ds : List ℕ) → list_all is_digit ds ≡ true → digits_value ds < 10 ^ length ds
digits_below [] h = omega arith
digits_below (b ∷ bs) h =
    let parts = and_parts _ _ h in
    let P : ℕ → Type 0 = λ v. v < 10 ^ suc (length bs) in
    subst P (sym (more_value (0 * 10 + (b - 48)) bs))
    (digit_below (b - 48) (10 ^ length bs) (10 ^ suc (length bs)) (digits_value bs) (digit_small b parts.0) (digits_below bs parts.1) (pow-suc 10 (length bs)))

front_digits : (a b : List ℕ) → list_all is_digit b ≡ true → digits_value (a ++ b) / 10 ^ length b ≡ digits_value a
front_digits a b h =
    ap (λ n. n / 10 ^ length b) (fold-append (λ n b. n * 10 + (b - 48)) 0 a b ∙ more_value (digits_value a) b) ∙ div-mul-add (digits_value a) (10 ^ length b) (digits_value b) (digits_below b h)

digits_later : (k : ℕ) (ds : List ℕ) → list_all is_digit ds ≡ true → list_all is_digit (drop k ds) ≡ true
digits_later k ds h =
    (and_parts _ _ (sym (list_all-append is_digit (take k ds) (drop k ds)) ∙ ap (list_all is_digit) (take-append-drop k ds) ∙ h)).1

-- digits divided by a power of ten are the digits in front
cut_digits : (ds : List ℕ) (d : ℕ) → list_all is_digit ds ≡ true → digits_value ds / 10 ^ d ≡ digits_value (take (length ds - d) ds)
cut_digits ds d h =
    elim (cases_lt (length ds) d) [
      | inl past ↦
          let none : length ds - d ≡ 0 = omega arith in
          rw none (div-eq_of_lt (omega (arith, digits_below ds h, pow-le-pow_right {n = 10} (omega arith) {i = length ds} {j = d} (omega arith))))
      | inr within ↦
          let k = length ds - d in
          let size : length (drop k ds) ≡ d = omega (arith, length-drop k ds) in
          ap (λ t. digits_value t / 10 ^ d) (sym (take-append-drop k ds)) ∙ ap (λ n. digits_value (take k ds ++ drop k ds) / 10 ^ n) (sym size)
          ∙ front_digits (take k ds) (drop k ds) (digits_later k ds h)
    ]

-- ---- powers of ten

pub scaled-zero : (n p : ℕ) → scaled n p 0 ≡ n * 10 ^ p
scaled-zero n p = div-one (n * 10 ^ p)

scaled_split : (m a b : ℕ) → scaled m a b ≡ scaled (m / 10 ^ (b - a)) (a - b) 0
scaled_split m a b =
    elim (cases_lt a b) [
      | inl down ↦
          let none : a - b ≡ 0 = omega arith in
          let sum : a + (b - a) ≡ b = omega arith in
          let D = 10 ^ (b - a) in
          let split : 10 ^ b ≡ 10 ^ a * D = ap (λ k. 10 ^ k) (sym sum) ∙ pow-add 10 a (b - a) in
          rw (none, split) (sym (div-div-eq-div-mul (m * 10 ^ a) (10 ^ a) D) ∙ ap (λ n. n / D) (mul-div_cancel m (power_some a)) ∙ sym (scaled-zero (m / D) 0 ∙ mul-one (m / D)))
      | inr up ↦
          let none : b - a ≡ 0 = omega arith in
          let sum : (a - b) + b ≡ a = omega arith in
          let split : 10 ^ a ≡ 10 ^ (a - b) * 10 ^ b = ap (λ k. 10 ^ k) (sym sum) ∙ pow-add 10 (a - b) b in
          rw (none, split)
          (ap (λ n. n / 10 ^ b) (sym (mul_assoc m (10 ^ (a - b)) (10 ^ b))) ∙ mul-div_cancel (m * 10 ^ (a - b)) (power_some b) ∙ ap (λ n. n * 10 ^ (a - b)) (sym (div-one m)) ∙ sym (scaled-zero (m / 1) (a - b)))
    ]

-- the digits in front and a power of ten
scaled_cut : (ds : List ℕ) (a b : ℕ) → list_all is_digit ds ≡ true → scaled (digits_value ds) a b ≡ scaled (digits_value (take (length ds - (b - a)) ds)) (a - b) 0
scaled_cut ds a b h = scaled_split (digits_value ds) a b ∙ ap (λ n. scaled n (a - b) 0) (cut_digits ds (b - a) h)

small_none : (n : ℕ) → 10 ^ 27 < n → small (Some n) ≡ None
small_none n h = rw (lt-leb n (10 ^ 27) h) refl

times_power : (n p : ℕ) → n ≤ n * 10 ^ p
times_power n p = omega (arith, mul-le-mul_left n (one-le-pow p 10 (omega arith)), mul-one n)

-- a number that is cut off at the largest is past the limit, as it was
small_min : (top v p : ℕ) → 10 ^ 27 < top → small (Some (scaled (min v top) p 0)) ≡ small (Some (scaled v p 0))
small_min top v p far =
    elim (cases_lt top v) [
      | inl past ↦
          let most : min v top ≡ top = omega arith in
          rw most (small_none (scaled top p 0) (omega (arith, scaled-zero top p, times_power top p)) ∙ sym (small_none (scaled v p 0) (omega (arith, scaled-zero v p, times_power v p))))
      | inr within ↦ let all : min v top ≡ v = omega arith in rw all refl
    ]

-- what `scaled` answers
pub scaled_is : (top : ℕ) (ds : List ℕ) (a b : ℕ) → 10 ^ 27 < top → list_all is_digit ds ≡ true → small (Some (scaled (min (digits_value (take (length ds - (b - a)) ds)) top) (a - b) 0)) ≡ small (Some (scaled (digits_value ds) a b))
scaled_is top ds a b far h =
    small_min top (digits_value (take (length ds - (b - a)) ds)) (a - b) far ∙ ap (λ n. small (Some n)) (sym (scaled_cut ds a b h))

-- a power past the highest leaves the limit
pub raised_far : (n p : ℕ) → 0 < n → 27 < p → small (Some (scaled n p 0)) ≡ None
raised_far n p some far =
    let most = pow-le-pow_right {n = 10} (omega arith) {i = 28} {j = p} (omega arith) in
    small_none (scaled n p 0) (omega (arith, scaled-zero n p, most, mul-le-mul_right (10 ^ p) (let one : 1 ≤ n = omega arith in one)))

pub power_fits : (p : ℕ) → p ≤ 27 → 10 ^ p ≤ 10 ^ 27
power_fits p h = pow-le-pow_right {n = 10} (omega arith) {i = p} {j = 27} h

-- ---- exponents that are far away

scaled_none : (a b : ℕ) → scaled 0 a b ≡ 0
scaled_none a b = ap (λ n. n / 10 ^ b) (zero-mul (10 ^ a)) ∙ zero-div (10 ^ b)

scaled_large : (m a b : ℕ) → 0 < m → b + 28 ≤ a → small (Some (scaled m a b)) ≡ None
scaled_large m a b some far =
    let none : b - a ≡ 0 = omega arith in
    let same : scaled m a b ≡ scaled m (a - b) 0 = scaled_split m a b ∙ ap (λ k. scaled (m / 10 ^ k) (a - b) 0) none ∙ ap (λ n. scaled n (a - b) 0) (div-one m) in
    ap (λ n. small (Some n)) same ∙ raised_far m (a - b) some (omega arith)

scaled_tiny : (m a b : ℕ) → m < 10 ^ 64 → a + 64 ≤ b → scaled m a b ≡ 0
scaled_tiny m a b below far =
    let most = pow-le-pow_right {n = 10} (omega arith) {i = 64} {j = b - a} (omega arith) in
    let none : m / 10 ^ (b - a) ≡ 0 = div-eq_of_lt (omega (arith, below, most)) in
    scaled_split m a b ∙ ap (λ n. scaled n (a - b) 0) none ∙ scaled_none (a - b) 0

-- past 100 an exponent makes no difference
clipped_up : (m p e : ℕ) → p ≤ 64 → small (Some (scaled m (9 + e) p)) ≡ small (Some (scaled m (9 + min e 100) p))
clipped_up m p e short =
    elim (cases_lt 100 e) [
      | inl past ↦
          let most : min e 100 ≡ 100 = omega arith in
          rw most (elim (cases_lt 0 m) [
            | inl some ↦ scaled_large m (9 + e) p some (omega arith) ∙ sym (scaled_large m (9 + 100) p some (omega arith))
            | inr none ↦
                let zero_is : m ≡ 0 = omega arith in
                rw zero_is (ap (λ n. small (Some n)) (scaled_none (9 + e) p ∙ sym (scaled_none (9 + 100) p)))
          ])
      | inr within ↦ let all : min e 100 ≡ e = omega arith in rw all refl
    ]

clipped_down : (m p e : ℕ) → m < 10 ^ 64 → scaled m 9 (p + e) ≡ scaled m 9 (p + min e 100)
clipped_down m p e below =
    elim (cases_lt 100 e) [
      | inl past ↦
          let most : min e 100 ≡ 100 = omega arith in
          rw most (scaled_tiny m 9 (p + e) below (omega arith) ∙ sym (scaled_tiny m 9 (p + 100) below (omega arith)))
      | inr within ↦ let all : min e 100 ≡ e = omega arith in rw all refl
    ]

pub small_clipped : (m p : ℕ) (e : ℤ) → p ≤ 64 → m < 10 ^ 64 → small (Some (billionths m p e)) ≡ small (Some (scaled m (9 + (clipped e).0) (p + (clipped e).1)))
small_clipped m p (pos e) short below =
    let sum : p + 0 ≡ p = omega arith in
    clipped_up m p e short ∙ ap (λ k. small (Some (scaled m (9 + min e 100) k))) (sym sum)
small_clipped m p (negsuc e) short below = ap (λ n. small (Some n)) (clipped_down m p (suc e) below)

-- ---- the digits of a text with at most one point

natural_of-other : (text : List ℕ) → list_all is_digit text ≡ false → natural_of text ≡ None
natural_of-other text h = elim (cases_Bool (eqb (length text) 0)) [ inl none ↦ rw none refl | inr some ↦ rw (some, h) refl ]

natural_of-all : (text : List ℕ) → length text ≢ 0 → list_all is_digit text ≡ true → natural_of text ≡ Some (digits_value text)
natural_of-all text some h = rw (ne_eqb (length text) 0 some, h) refl

-- what a number of digits is
pub natural_of-Some : (text : List ℕ) (m : ℕ) → natural_of text ≡ Some m → (0 < length text) × (list_all is_digit text ≡ true) × (digits_value text ≡ m)
natural_of-Some text m e =
    elim (cases_Bool (eqb (length text) 0)) [
      | inl none ↦ absurd (none-some _ (sym (cond-true _ _ _ none) ∙ e))
      | inr some ↦
          let later : cond (list_all is_digit text) (Some (digits_value text)) None ≡ Some m = sym (cond-false _ _ _ some) ∙ e in
          elim (cases_Bool (list_all is_digit text)) [
            | inl digits ↦
                let long = eqb-false (length text) 0 some in
                (omega arith, digits, same_Some _ _ (sym (cond-true _ _ _ digits) ∙ later))
            | inr other ↦ absurd (none-some _ (sym (cond-false _ _ _ other) ∙ later))
          ]
    ]

-- the digits of a text, scaled
abbrev scaled_digits : ℕ → ℕ → List ℕ → Option ℕ
scaled_digits a b text = small (option_map (λ m. scaled m a b) (natural_of text))

pub scaled_other : (a b : ℕ) (text : List ℕ) → list_all is_digit text ≡ false → scaled_digits a b text ≡ None
scaled_other a b text h = ap (λ o. small (option_map (λ m. scaled m a b) o)) (natural_of-other text h)

pub scaled_all : (a b : ℕ) (text : List ℕ) → length text ≢ 0 → list_all is_digit text ≡ true → scaled_digits a b text ≡ small (Some (scaled (digits_value text) a b))
scaled_all a b text some h = ap (λ o. small (option_map (λ m. scaled m a b) o)) (natural_of-all text some h)

small_scaled_of : (text : List ℕ) (p : ℕ) (e : ℤ) (o : Option ℕ) → ((m : ℕ) → o ≡ Some m → m < 10 ^ 64) → p ≤ 64 → small (scaled_of o p (Some e)) ≡ small (option_map (λ m. scaled m (9 + (clipped e).0) (p + (clipped e).1)) o)
small_scaled_of text p e None below short = refl
small_scaled_of text p e (Some m) below short = small_clipped m p e short (below m refl)

natural_below : (text : List ℕ) → length text ≤ 64 → (m : ℕ) → natural_of text ≡ Some m → m < 10 ^ 64
natural_below text short m e =
    let known = natural_of-Some text m e in
    omega (arith, known.2, digits_below text known.1, pow-le-pow_right {n = 10} (omega arith) {i = length text} {j = 64} short)

first_at-le : (is : ℕ → Bool) (text : List ℕ) → first_at is text ≤ length text
first_at-le is [] = omega arith
first_at-le is (b ∷ bs) =
    cond_both (is b) 0 (suc (first_at is bs)) (λ n. n ≤ suc (length bs)) (λ here. omega arith) (λ later. omega (arith, first_at-le is bs))

mantissa_short : (text : List ℕ) → length text ≤ 64 → length (in_front text ++ behind_point text) ≤ 64
mantissa_short text short =
    let at = first_at is_point text in
    omega (arith, length-append (in_front text) (behind_point text), length-take at text, length-drop (suc at) text, first_at-le is_point text)

-- the magnitude, by an exponent that is cut off
pub magnitude_clipped : (text exponent : List ℕ) (e : ℤ) → length text ≤ 64 → exponent_of exponent ≡ Some e → small (magnitude_by text exponent) ≡ small (option_map (λ m. scaled m (9 + (clipped e).0) (length (behind_point text) + (clipped e).1)) (natural_of (in_front text ++ behind_point text)))
magnitude_clipped text exponent e short known =
    let p = length (behind_point text) in
    let digits = in_front text ++ behind_point text in
    ap (λ o. small (scaled_of (natural_of digits) p o)) known
    ∙ small_scaled_of text p e (natural_of digits) (natural_below digits (mantissa_short text short)) (omega (arith, length-drop (suc (first_at is_point text)) text))

no_exponent : (o : Option ℕ) (p : ℕ) → scaled_of o p None ≡ None
no_exponent None p = refl
no_exponent (Some m) p = refl

pub magnitude_none : (text exponent : List ℕ) → exponent_of exponent ≡ None → magnitude_by text exponent ≡ None
magnitude_none text exponent e = ap (λ o. scaled_of (natural_of (in_front text ++ behind_point text)) (length (behind_point text)) o) e ∙ no_exponent (natural_of (in_front text ++ behind_point text)) (length (behind_point text))

-- ---- the sign

pub limited_negative : (o : Option ℕ) → limited (option_map (λ n. neg_ℤ (pos n)) o) ≡ option_map (λ n. neg_ℤ (pos n)) (small o)
limited_negative None = refl
limited_negative (Some zero) = refl
limited_negative (Some (suc n)) = elim (cases_Bool (leb (suc n) (10 ^ 27))) [ inl within ↦ rw within refl | inr past ↦ rw past refl ]

exponent_parts : (o : Option ℤ) (up down : ℕ) → option_map clipped o ≡ Some (up, down) → (e : ℤ) × (o ≡ Some e) × ((clipped e).0 ≡ up) × ((clipped e).1 ≡ down)
exponent_parts None up down h = absurd (none-some _ h)
exponent_parts (Some e) up down h =
    let same = same_Some _ _ h in
    (e, refl, ap (λ (p : ℕ × ℕ). p.0) same, ap (λ (p : ℕ × ℕ). p.1) same)

-- what `magnitude` answers
pub magnitude_is : (text : List ℕ) (stop up down : ℕ) (found : Option ℕ) → length text ≤ 64 → stop ≡ first_at is_letter text → option_map clipped (exponent_of (drop stop text)) ≡ Some (up, down)
    → found ≡ small (option_map (λ m. scaled m (9 + up) (length (behind_point (take stop text)) + down)) (natural_of (in_front (take stop text) ++ behind_point (take stop text))))
    → found ≡ small (magnitude_of text)
magnitude_is text stop up down found short at known h =
    let front = take stop text in
    let exponent = exponent_parts (exponent_of (drop stop text)) up down known in
    let front_short : length front ≤ 64 = omega (arith, length-take stop text) in
    let digits = natural_of (in_front front ++ behind_point front) in
    let same_up = ap (λ k. small (option_map (λ m. scaled m (9 + k) (length (behind_point front) + down)) digits)) (sym exponent.2) in
    let same_down = ap (λ k. small (option_map (λ m. scaled m (9 + (clipped exponent.0).0) (length (behind_point front) + k)) digits)) (sym exponent.3) in
    h ∙ same_up ∙ same_down ∙ sym (magnitude_clipped front (drop stop text) exponent.0 front_short exponent.1) ∙ ap (λ k. small (magnitude_by (take k text) (drop k text))) at
