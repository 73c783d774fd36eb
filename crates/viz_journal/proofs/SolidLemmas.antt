-- Words that are written one behind the other are found again.
use Rattle.std.proofs.Common.{◌≡◌, ◌⊎◌, inl, inr, ℕ, ℤ, pos, negsuc, suc, ◌^◌, ◌<◌, ◌≤◌, Bool, true, false, cond, not, ◌&&◌, ◌||◌, nat_le, true≢false, List, [], ◌∷◌, ◌++◌, length, flat_map, Option, Some, None, Ok, Err, refl, sym, ap, ◌∙◌, eqb-true, arith}
use Rattle.std.specs.Prelude.{◌==◌, neg_ℤ, option_map, ok_or, int_le, unsigned_abs}
use Rattle.std.specs.List.{list_all, AllByRecursion}
use Rattle.std.specs.Fmt.{decimal, signed_decimal}
use Rattle.std.proofs.lemmas.Bool.{le-leb, leb-true, ne_eqb}
use Rattle.std.proofs.lemmas.List.Folds.{list_all-append}
use Rattle.viz_lex.specs.Numbers.{is_digit, digits_value, natural_of}
use Rattle.viz_lex.proofs.NumberLemmas.{IsWritten-decimal, natural_of-digits}
use Rattle.viz_kinds.specs.Values.{first_number, last_number}
use Rattle.viz_words.specs.declared.refusal.ScriptRefusal.TheVariants.{Number}
use Rattle.viz_words.specs.Gives.{◌>>=◌}
use Rattle.viz_words.specs.Numbers.{within, number_of, natural_in}
use Rattle.viz_words.specs.Lines.{in_front, is_plain_byte, is_plain}
use Rattle.viz_words.specs.Words.{is_gap, begins_word, words_of, behind_space, spaced}
use Rattle.viz_words.specs.Names.{is_node_byte, is_array_byte, is_node_name, is_array_name}
use Rattle.viz_journal.specs.Parts.{part_of, in_line}
use Rattle.viz_journal.proofs.PartLemmas.{part}

pub and-parts : (a b : Bool) → (a && b) ≡ true → (a ≡ true) × (b ≡ true)
and-parts true b h = (refl, h)
and-parts false b h = absurd (true≢false (sym h))

pub or-parts : (a b : Bool) → (a || b) ≡ true → (a ≡ true) ⊎ (b ≡ true)
or-parts true b h = inl refl
or-parts false b h = inr h

-- what each byte is by one test, it is by a weaker one
pub weaker : (p q : ℕ → Bool) → ((b : ℕ) → p b ≡ true → q b ≡ true) → (xs : List ℕ) → list_all p xs ≡ true → list_all q xs ≡ true
weaker p q step [] h = refl
weaker p q step (x ∷ xs) h =
    let parts = and-parts (p x) (list_all p xs) h in
    ap (λ b. b && list_all q xs) (step x parts.0) ∙ weaker p q step xs parts.1

-- a word of a journal: one or more bytes from ! to ~
pub record Solid (word : List ℕ) : Type 0 where
  pub some : 0 < length word
  pub each : list_all is_array_byte word ≡ true

solid_byte : (b : ℕ) → is_array_byte b ≡ true → (33 ≤ b) × (b ≤ 126)
solid_byte b h = let parts = and-parts (nat_le 33 b) (nat_le b 126) h in (leb-true 33 b parts.0, leb-true b 126 parts.1)

from_bounds : (b : ℕ) → 33 ≤ b → b ≤ 126 → is_array_byte b ≡ true
from_bounds b low high = rw (le-leb 33 b low, le-leb b 126 high) refl

solid-gap : (b : ℕ) → is_array_byte b ≡ true → is_gap b ≡ false
solid-gap b h = let w = solid_byte b h in rw (ne_eqb b 32 (λ e. omega arith), ne_eqb b 9 (λ e. omega arith)) refl

solid-plain : (b : ℕ) → is_array_byte b ≡ true → is_plain_byte b ≡ true
solid-plain b h = let w = solid_byte b h in rw (ne_eqb b 9 (λ e. omega arith), le-leb 32 b (omega arith), le-leb b 126 (omega arith)) refl

digit-solid : (b : ℕ) → is_digit b ≡ true → is_array_byte b ≡ true
digit-solid b h =
    let parts = and-parts (nat_le 48 b) (nat_le b 57) h in
    from_bounds b (omega (arith, leb-true 48 b parts.0)) (omega (arith, leb-true b 57 parts.1))

between : (l h b : ℕ) → 33 ≤ l → h ≤ 126 → (nat_le l b && nat_le b h) ≡ true → is_array_byte b ≡ true
between l h b low high e =
    let parts = and-parts (nat_le l b) (nat_le b h) e in
    from_bounds b (omega (arith, leb-true l b parts.0)) (omega (arith, leb-true b h parts.1))

node-solid : (b : ℕ) → is_node_byte b ≡ true → is_array_byte b ≡ true
node-solid b h = first (or-parts _ _ h)
  where
    second : ((nat_le 48 b && nat_le b 57) ≡ true) ⊎ ((nat_le 65 b && nat_le b 90) ≡ true) → is_array_byte b ≡ true
    second (inl e) = between 48 57 b (omega arith) (omega arith) e
    second (inr e) = between 65 90 b (omega arith) (omega arith) e

    line : ((nat_le 48 b && nat_le b 57 || nat_le 65 b && nat_le b 90) ≡ true) ⊎ ((b == 95) ≡ true) → is_array_byte b ≡ true
    line (inl e) = second (or-parts _ _ e)
    line (inr e) = let same = eqb-true b 95 e in from_bounds b (omega (arith, same)) (omega (arith, same))

    first : ((nat_le 48 b && nat_le b 57 || nat_le 65 b && nat_le b 90 || b == 95) ≡ true) ⊎ ((nat_le 97 b && nat_le b 122) ≡ true) → is_array_byte b ≡ true
    first (inl e) = line (or-parts _ _ e)
    first (inr e) = between 97 122 b (omega arith) (omega arith) e

pub solid-node : (word : List ℕ) → is_node_name word ≡ true → Solid word
solid-node word h =
    let parts = and-parts _ (list_all is_node_byte word) h in
    let long = and-parts (nat_le 1 (length word)) (nat_le (length word) 64) parts.0 in
    record { some = omega (arith, leb-true 1 (length word) long.0); each = weaker is_node_byte is_array_byte node-solid word parts.1 }

pub solid-array : (word : List ℕ) → is_array_name word ≡ true → Solid word
solid-array word h =
    let parts = and-parts _ (list_all is_array_byte word) h in
    let long = and-parts (nat_le 1 (length word)) (nat_le (length word) 64) parts.0 in
    record { some = omega (arith, leb-true 1 (length word) long.0); each = parts.1 }

pub solid-decimal : (n : ℕ) → n ≤ 2 ^ 127 → Solid (decimal n)
solid-decimal n h = let w = IsWritten-decimal n h in record { some = w.some; each = weaker is_digit is_array_byte digit-solid (decimal n) w.digits }

-- a byte of a word in front of more
opened : (b : ℕ) (t : List ℕ) (u : Bool) → is_gap b ≡ false → begins_word t ≡ u → words_of (b ∷ t) ≡ cond u (in_front b (words_of t)) ((b ∷ []) ∷ words_of t)
opened b t u gap begins =
    ap (λ x. cond x (words_of t) (cond (begins_word t) (in_front b (words_of t)) ((b ∷ []) ∷ words_of t))) gap
    ∙ ap (λ x. cond x (in_front b (words_of t)) ((b ∷ []) ∷ words_of t)) begins

-- a word and what doesn't go on with it
words-front : (word rest : List ℕ) → 0 < length word → list_all is_array_byte word ≡ true → begins_word rest ≡ false → words_of (word ++ rest) ≡ word ∷ words_of rest
words-front [] rest some each ends = absurd (omega (arith, some))
words-front (b ∷ []) rest some each ends = opened b rest false (solid-gap b (and-parts _ _ each).0) ends
words-front (b ∷ c ∷ cs) rest some each ends =
    let parts = and-parts (is_array_byte b) (list_all is_array_byte (c ∷ cs)) each in
    let next = and-parts (is_array_byte c) (list_all is_array_byte cs) parts.1 in
    opened b ((c ∷ cs) ++ rest) true (solid-gap b parts.0) (ap not (solid-gap c next.0)) ∙ ap (in_front b) (words-front (c ∷ cs) rest (omega arith) parts.1 ends)

tail-ends : (ws : List (List ℕ)) → begins_word (flat_map behind_space ws) ≡ false
tail-ends [] = refl
tail-ends (w ∷ ws) = refl

words-tail : (ws : List (List ℕ)) → AllByRecursion Solid ws → words_of (flat_map behind_space ws) ≡ ws
words-tail [] h = refl
words-tail (w ∷ ws) h = words-front w (flat_map behind_space ws) h.0.some h.0.each (tail-ends ws) ∙ ap (λ l. w ∷ l) (words-tail ws h.1)

-- the words of a line are found again
pub words-again : (w : List ℕ) (ws : List (List ℕ)) → Solid w → AllByRecursion Solid ws → words_of (spaced (w ∷ ws)) ≡ w ∷ ws
words-again w ws h hs = words-front w (flat_map behind_space ws) h.some h.each (tail-ends ws) ∙ ap (λ l. w ∷ l) (words-tail ws hs)

plain-tail : (ws : List (List ℕ)) → AllByRecursion Solid ws → list_all is_plain_byte (flat_map behind_space ws) ≡ true
plain-tail [] h = refl
plain-tail (w ∷ ws) h =
    list_all-append is_plain_byte (32 ∷ w) (flat_map behind_space ws)
    ∙ ap (λ x. x && list_all is_plain_byte (flat_map behind_space ws)) (weaker is_array_byte is_plain_byte solid-plain w h.0.each) ∙ plain-tail ws h.1

-- each byte of the line may stand there
pub plain-again : (w : List ℕ) (ws : List (List ℕ)) → Solid w → AllByRecursion Solid ws → is_plain (spaced (w ∷ ws)) ≡ true
plain-again w ws h hs =
    list_all-append is_plain_byte w (flat_map behind_space ws)
    ∙ ap (λ x. x && list_all is_plain_byte (flat_map behind_space ws)) (weaker is_array_byte is_plain_byte solid-plain w h.each) ∙ plain-tail ws hs

-- a line without a newline is found in front
pub part-plain : (line rest : List ℕ) → list_all is_plain_byte line ≡ true → part_of (line ++ 10 ∷ rest) ≡ part line true rest
part-plain [] rest h = refl
part-plain (b ∷ bs) rest h =
    let parts = and-parts (is_plain_byte b) (list_all is_plain_byte bs) h in
    ap (λ x. cond x (part [] true (bs ++ 10 ∷ rest)) (in_line b (part_of (bs ++ 10 ∷ rest)))) (other (b == 10) refl parts.0) ∙ ap (in_line b) (part-plain bs rest parts.1)
  where
    other : (t : Bool) → (b == 10) ≡ t → is_plain_byte b ≡ true → (b == 10) ≡ false
    other false e p = e
    other true e p = let bad : false ≡ true = sym (ap is_plain_byte (eqb-true b 10 e)) ∙ p in absurd (true≢false (sym bad))

-- ---- numbers

number-digits : (ds : List ℕ) → 0 < length ds → list_all is_digit ds ≡ true → number_of ds ≡ within (Some (pos (digits_value ds)))
number-digits [] some digits = absurd (omega arith)
number-digits (b ∷ bs) some digits =
    let digit = and-parts (nat_le 48 b) (nat_le b 57) (and-parts (is_digit b) (list_all is_digit bs) digits).0 in
    let low : 48 ≤ b = leb-true 48 b digit.0 in
    ap (λ x. within (cond x (option_map (λ n. neg_ℤ (pos n)) (natural_of bs)) (option_map (λ n. pos n) (natural_of (b ∷ bs))))) (ne_eqb b 45 (λ e. omega arith))
    ∙ ap (λ o. within (option_map (λ n. pos n) o)) (natural_of-digits (b ∷ bs) some digits)

-- a number without a sign is read again
pub number-decimal : (n : ℕ) → n < 2 ^ 63 → number_of (decimal n) ≡ Some (pos n)
number-decimal n h =
    let w = IsWritten-decimal n (omega arith) in
    number-digits (decimal n) w.some w.digits ∙ ap (λ m. within (Some (pos m))) w.value ∙ ap (λ b. cond b (Some (pos n)) None) (le-leb n 9223372036854775807 (omega arith))

-- a number with a sign is read again
pub number-signed : (z : ℤ) → (int_le first_number z && int_le z last_number) ≡ true → number_of (signed_decimal z) ≡ Some z
number-signed (pos n) h = number-decimal n (omega (arith, leb-true n 9223372036854775807 h))
number-signed (negsuc n) h =
    let low : n ≤ 9223372036854775807 = leb-true n 9223372036854775807 (and-parts _ _ h).0 in
    let w = IsWritten-decimal (suc n) (omega arith) in
    ap (λ o. within (option_map (λ m. neg_ℤ (pos m)) o)) (natural_of-digits (decimal (suc n)) w.some w.digits ∙ ap Some w.value)
    ∙ ap (λ b. cond b (Some (negsuc n)) None) h

pub solid-number : (z : ℤ) → (int_le first_number z && int_le z last_number) ≡ true → Solid (signed_decimal z)
solid-number (pos n) h = solid-decimal n (omega (arith, leb-true n 9223372036854775807 h))
solid-number (negsuc n) h =
    let low : n ≤ 9223372036854775807 = leb-true n 9223372036854775807 (and-parts _ _ h).0 in
    let w = solid-decimal (suc n) (omega arith) in
    record { some = omega arith; each = w.each }

-- a number within limits is read again
pub natural-again : (least greatest n : ℕ) → least ≤ n → n ≤ greatest → greatest < 2 ^ 63 → natural_in least greatest (decimal n) ≡ Ok n
unfolding natural_in
natural-again least greatest n low high small =
    ap (λ (o : Option ℤ). ok_or o Number >>= λ z. cond (int_le (pos least) z && int_le z (pos greatest)) (Ok (unsigned_abs z)) (Err Number)) (number-decimal n (omega arith))
    ∙ ap (λ b. cond (b && nat_le n greatest) (Ok n) (Err Number)) (le-leb least n low) ∙ ap (λ b. cond b (Ok n) (Err Number)) (le-leb n greatest high)
