-- A text spells tokens just where its words do.
use Rattle.std.proofs.Common.{◌≡◌, ◌⊎◌, inl, inr, ℕ, ℤ, pos, ◌<◌, ◌≤◌, Bool, true, false, cond, not, ◌&&◌, ◌||◌, nat_le, true≢false, List, [], ◌∷◌, ◌++◌, length, Option, Some, None, refl, sym, ap, ◌∙◌, subst, eqb-true, arith}
use Rattle.std.specs.Prelude.{◌==◌, neg_ℤ, option_map}
use Rattle.std.specs.List.{list_all, AllByRecursion}
use Rattle.std.proofs.lemmas.Bool.{le-leb, leb-true, ne_eqb}
use Rattle.std.proofs.lemmas.List.Folds.{list_all-append}
use Rattle.viz_lex.specs.Numbers.{is_digit, digits_value, natural_of}
use Rattle.viz_words.specs.Lines.{in_front, is_plain_byte, is_plain}
use Rattle.viz_words.specs.Words.{is_gap, begins_word, words_of, begins_hash, is_empty}
use Rattle.viz_words.specs.Names.{is_array_byte}
use Rattle.viz_words.specs.Numbers.{within, number_of}
use Rattle.viz_script.specs.Lines.{Line, silent, begins_phase, begins_batch, ends_batch, asks}
use Rattle.viz_journal.proofs.SolidLemmas.{and-parts, or-parts, weaker, Solid}
use Rattle.viz_script_law.specs.Tokens.{Token, exact, number, line_tokens}
use Rattle.viz_script_law.specs.Spelling.{IsGap, SpellsToken, SpellsTokens, SpellsLine}
use Rattle.viz_script_law.specs.Fits.{FitsLine}
use Rattle.viz_script_law.proofs.Words.{Spelled, HasWords, HasLine}
use Rattle.viz_script_law.proofs.FitLemmas.{Fit, line-fit}

-- ---- bytes

gap-plain : (b : ℕ) → is_gap b ≡ true → is_plain_byte b ≡ true
gap-plain b h = by (or-parts _ _ h)
  where
    by : ((b == 32) ≡ true) ⊎ ((b == 9) ≡ true) → is_plain_byte b ≡ true
    by (inl e) = ap is_plain_byte (eqb-true b 32 e)
    by (inr e) = ap is_plain_byte (eqb-true b 9 e)

solid-bounds : (b : ℕ) → is_array_byte b ≡ true → (33 ≤ b) × (b ≤ 126)
solid-bounds b h = let parts = and-parts (nat_le 33 b) (nat_le b 126) h in (leb-true 33 b parts.0, leb-true b 126 parts.1)

solid-gap : (b : ℕ) → is_array_byte b ≡ true → is_gap b ≡ false
solid-gap b h = let w = solid-bounds b h in rw (ne_eqb b 32 (λ e. omega arith), ne_eqb b 9 (λ e. omega arith)) refl

solid-plain : (b : ℕ) → is_array_byte b ≡ true → is_plain_byte b ≡ true
solid-plain b h = let w = solid-bounds b h in rw (ne_eqb b 9 (λ e. omega arith), le-leb 32 b (omega arith), le-leb b 126 (omega arith)) refl

digit-solid : (b : ℕ) → is_digit b ≡ true → is_array_byte b ≡ true
digit-solid b h =
    let parts = and-parts (nat_le 48 b) (nat_le b 57) h in
    rw (le-leb 33 b (omega (arith, leb-true 48 b parts.0)), le-leb b 126 (omega (arith, leb-true b 57 parts.1))) refl

-- ---- numbers

natural-digits : (ds : List ℕ) (n : ℕ) → natural_of ds ≡ Some n → list_all is_digit ds ≡ true
natural-digits ds n h = by (length ds == 0) (list_all is_digit ds) refl h
  where
    by : (s t : Bool) → list_all is_digit ds ≡ t → cond s None (cond t (Some (digits_value ds)) None) ≡ Some n → t ≡ true
    by true t e g = let bad : ⊥ = cc g in absurd bad
    by false true e g = refl
    by false false e g = let bad : ⊥ = cc g in absurd bad

within-some : (o : Option ℤ) (n : ℤ) → within o ≡ Some n → (m : ℤ) × (o ≡ Some m)
within-some None n h = let bad : ⊥ = cc h in absurd bad
within-some (Some m) n h = (m, refl)

mapped : (f : ℕ → ℤ) (o : Option ℕ) (m : ℤ) → option_map f o ≡ Some m → (n : ℕ) × (o ≡ Some n)
mapped f None m h = let bad : ⊥ = cc h in absurd bad
mapped f (Some n) m h = (n, refl)

number-solid : (word : List ℕ) (n : ℤ) → number_of word ≡ Some n → Solid word
number-solid [] n h = let bad : ⊥ = cc h in absurd bad
number-solid (b ∷ bs) n h = record { some = omega arith; each = by (b == 45) refl h }
  where
    by : (t : Bool) → (b == 45) ≡ t → within (cond t (option_map (λ m. neg_ℤ (pos m)) (natural_of bs)) (option_map (λ m. pos m) (natural_of (b ∷ bs)))) ≡ Some n
        → list_all is_array_byte (b ∷ bs) ≡ true
    by true e g =
        let some = within-some (option_map (λ m. neg_ℤ (pos m)) (natural_of bs)) n g in
        let read = mapped (λ m. neg_ℤ (pos m)) (natural_of bs) some.0 some.1 in
        ap (λ c. is_array_byte c && list_all is_array_byte bs) (eqb-true b 45 e) ∙ weaker is_digit is_array_byte digit-solid bs (natural-digits bs read.0 read.1)
    by false e g =
        let some = within-some (option_map (λ m. pos m) (natural_of (b ∷ bs))) n g in
        let read = mapped (λ m. pos m) (natural_of (b ∷ bs)) some.0 some.1 in
        weaker is_digit is_array_byte digit-solid (b ∷ bs) (natural-digits (b ∷ bs) read.0 read.1)

-- ---- from a text to its words

-- a byte of a word in front of more
opened : (b : ℕ) (t : List ℕ) (u : Bool) → is_gap b ≡ false → begins_word t ≡ u → words_of (b ∷ t) ≡ cond u (in_front b (words_of t)) ((b ∷ []) ∷ words_of t)
opened b t u gap begins =
    ap (λ x. cond x (words_of t) (cond (begins_word t) (in_front b (words_of t)) ((b ∷ []) ∷ words_of t))) gap
    ∙ ap (λ x. cond x (in_front b (words_of t)) ((b ∷ []) ∷ words_of t)) begins

-- a word and what doesn't go on with it
words-front : (word rest : List ℕ) → 0 < length word → list_all is_array_byte word ≡ true → begins_word rest ≡ false → words_of (word ++ rest) ≡ word ∷ words_of rest
words-front [] rest some each ends = absurd (omega (arith, some))
words-front (b ∷ []) rest some each ends = opened b rest false (solid-gap b (and-parts _ _ each).0) ends
words-front (b ∷ c ∷ cs) rest some each ends =
    let parts = and-parts (is_array_byte b) (list_all is_array_byte (c ∷ cs)) each in
    let next = and-parts (is_array_byte c) (list_all is_array_byte cs) parts.1 in
    opened b ((c ∷ cs) ++ rest) true (solid-gap b parts.0) (ap not (solid-gap c next.0)) ∙ ap (in_front b) (words-front (c ∷ cs) rest (omega arith) parts.1 ends)

-- a byte of a gap has no part in the words
passed : (b : ℕ) (t : List ℕ) → is_gap b ≡ true → words_of (b ∷ t) ≡ words_of t
passed b t gap = ap (λ x. cond x (words_of t) (cond (begins_word t) (in_front b (words_of t)) ((b ∷ []) ∷ words_of t))) gap

gap-front : (gap rest : List ℕ) → IsGap gap → words_of (gap ++ rest) ≡ words_of rest
gap-front [] rest h = refl
gap-front (b ∷ bs) rest h = let parts = and-parts (is_gap b) (list_all is_gap bs) h in passed b (bs ++ rest) parts.0 ∙ gap-front bs rest parts.1

gap-none : (gap : List ℕ) → IsGap gap → words_of gap ≡ []
gap-none [] h = refl
gap-none (b ∷ bs) h = let parts = and-parts (is_gap b) (list_all is_gap bs) h in passed b bs parts.0 ∙ gap-none bs parts.1

-- the word of a token has no gap in it
token-solid : (token : Token) (word : List ℕ) → Fit token → SpellsToken token word → Solid word
token-solid (exact text) word fit h = subst Solid (sym h) fit
token-solid (number n) word fit h = number-solid word n h

pub words-found : (tokens : List Token) (text : List ℕ) → AllByRecursion Fit tokens → SpellsTokens tokens text → HasWords tokens text
words-found [] text fit h = (weaker is_gap is_plain_byte gap-plain text h, subst (Spelled []) (sym (gap-none text h)) tt)
words-found (token ∷ tokens) text fit h =
    let rest = words-found tokens h.rest fit.1 h.later in
    let solid = token-solid token h.word fit.0 h.spelled in
    let words : words_of text ≡ h.word ∷ words_of h.rest =
    ap words_of h.parts ∙ gap-front h.gap (h.word ++ h.rest) h.blank ∙ words-front h.word h.rest solid.some solid.each h.ends in
    let plain : is_plain text ≡ true =
    ap is_plain h.parts ∙ list_all-append is_plain_byte h.gap (h.word ++ h.rest)
    ∙ ap (λ x. x && is_plain (h.word ++ h.rest)) (weaker is_gap is_plain_byte gap-plain h.gap h.blank)
    ∙ list_all-append is_plain_byte h.word h.rest ∙ ap (λ x. x && is_plain h.rest) (weaker is_array_byte is_plain_byte solid-plain h.word solid.each) ∙ rest.0 in
    (plain, subst (Spelled (token ∷ tokens)) (sym words) (h.spelled, rest.1))

-- ---- from words to the text

-- a gap in front of no more, or of a word
record Gapped (text : List ℕ) : Type 0 where
  pub gap : List ℕ
  pub rest : List ℕ
  pub are : text ≡ gap ++ rest
  pub blank : IsGap gap
  pub words : words_of text ≡ words_of rest
  pub ends : (rest ≡ []) ⊎ (begins_word rest ≡ true)

gap-of : (text : List ℕ) → Gapped text
gap-of [] = record { gap = []; rest = []; are = refl; blank = refl; words = refl; ends = inl refl }
gap-of (b ∷ bs) = by (is_gap b) refl (gap-of bs)
  where
    by : (t : Bool) → is_gap b ≡ t → Gapped bs → Gapped (b ∷ bs)
    by true e g = record {
      gap = b ∷ g.gap;
      rest = g.rest;
      are = ap (λ l. b ∷ l) g.are;
      blank = ap (λ x. x && list_all is_gap g.gap) e ∙ g.blank;
      words = passed b bs e ∙ g.words;
      ends = g.ends;
    }
    by false e g = record { gap = []; rest = b ∷ bs; are = refl; blank = refl; words = refl; ends = inr (ap not e) }

-- a word in front
record Fronted (text : List ℕ) : Type 0 where
  pub word : List ℕ
  pub rest : List ℕ
  pub are : text ≡ word ++ rest
  pub words : words_of text ≡ word ∷ words_of rest
  pub ended : begins_word rest ≡ false

front-of : (text : List ℕ) → begins_word text ≡ true → Fronted text
front-of [] h = absurd (true≢false (sym h))
front-of (b ∷ bs) h = by (begins_word bs) refl (front-of bs)
  where
    gap : is_gap b ≡ false
    gap = other (is_gap b) refl
      where
        other : (t : Bool) → is_gap b ≡ t → t ≡ false
        other false e = refl
        other true e = absurd (true≢false (sym h ∙ ap not e))

    by : (t : Bool) → begins_word bs ≡ t → (begins_word bs ≡ true → Fronted bs) → Fronted (b ∷ bs)
    by true e ih =
        let f = ih e in
        record { word = b ∷ f.word; rest = f.rest; are = ap (λ l. b ∷ l) f.are; words = opened b bs true gap e ∙ ap (in_front b) f.words; ended = f.ended }
    by false e ih = record { word = b ∷ []; rest = bs; are = refl; words = opened b bs false gap e; ended = e }

-- a text without a word is a gap
no-word : (text : List ℕ) → words_of text ≡ [] → IsGap text
no-word text h = by (gap-of text)
  where
    by : Gapped text → IsGap text
    by g = ends g.ends
      where
        ends : (g.rest ≡ []) ⊎ (begins_word g.rest ≡ true) → IsGap text
        ends (inl e) = ap (list_all is_gap) g.are ∙ list_all-append is_gap g.gap g.rest ∙ ap (λ x. x && list_all is_gap g.rest) g.blank ∙ ap (list_all is_gap) e
        ends (inr e) =
            let f = front-of g.rest e in
            let bad : [] ≡ f.word ∷ words_of f.rest = sym h ∙ g.words ∙ f.words in
            let worse : ⊥ = cc bad in absurd worse

pub words-spell : (tokens : List Token) (text : List ℕ) → Spelled tokens (words_of text) → SpellsTokens tokens text
words-spell [] text h = no-word text (none (words_of text) h)
  where
    none : (words : List (List ℕ)) → Spelled [] words → words ≡ []
    none [] s = refl
    none (word ∷ words) s = absurd s
words-spell (token ∷ tokens) text h = by (gap-of text) (words-spell tokens)
  where
    by : Gapped text → ((rest : List ℕ) → Spelled tokens (words_of rest) → SpellsTokens tokens rest) → SpellsTokens (token ∷ tokens) text
    by g ih = ends g.ends
      where
        ends : (g.rest ≡ []) ⊎ (begins_word g.rest ≡ true) → SpellsTokens (token ∷ tokens) text
        ends (inl e) = absurd (subst (Spelled (token ∷ tokens)) (g.words ∙ ap words_of e) h)
        ends (inr e) =
            let f = front-of g.rest e in
            let s : Spelled (token ∷ tokens) (f.word ∷ words_of f.rest) = subst (Spelled (token ∷ tokens)) (g.words ∙ f.words) h in
            record {
              gap = g.gap;
              word = f.word;
              rest = f.rest;
              parts = g.are ∙ ap (λ l. g.gap ++ l) f.are;
              blank = g.blank;
              spelled = s.0;
              ends = f.ended;
              later = ih f.rest s.1;
            }

-- ---- lines

or-true : (t : Bool) → (t || true) ≡ true
or-true true = refl
or-true false = refl

-- a line that is spelled has its words
pub line-found : (actors : ℕ) (line : Line) (text : List ℕ) → FitsLine actors line → SpellsLine line text → HasLine line text
line-found actors silent text f (inl gap) = ap (λ l. begins_hash text || is_empty l) (gap-none text gap) ∙ or-true (begins_hash text)
line-found actors silent text f (inr hash) = ap (λ x. x || is_empty (words_of text)) hash
line-found actors begins_phase text f h = words-found (line_tokens begins_phase) text (line-fit actors begins_phase f) h
line-found actors (begins_batch actor) text f h = words-found (line_tokens (begins_batch actor)) text (line-fit actors (begins_batch actor) f) h
line-found actors (ends_batch actor) text f h = words-found (line_tokens (ends_batch actor)) text (line-fit actors (ends_batch actor) f) h
line-found actors (asks actor asked) text f h = words-found (line_tokens (asks actor asked)) text (line-fit actors (asks actor asked) f) h

-- a line with the words of a line spells it
pub line-spells : (line : Line) (text : List ℕ) → HasLine line text → SpellsLine line text
line-spells silent text h = by (or-parts (begins_hash text) (is_empty (words_of text)) h)
  where
    none : (words : List (List ℕ)) → is_empty words ≡ true → words ≡ []
    none [] e = refl
    none (word ∷ words) e = absurd (true≢false (sym e))

    by : (begins_hash text ≡ true) ⊎ (is_empty (words_of text) ≡ true) → IsGap text ⊎ (begins_hash text ≡ true)
    by (inl e) = inr e
    by (inr e) = inl (no-word text (none (words_of text) e))
line-spells begins_phase text h = words-spell (line_tokens begins_phase) text h.1
line-spells (begins_batch actor) text h = words-spell (line_tokens (begins_batch actor)) text h.1
line-spells (ends_batch actor) text h = words-spell (line_tokens (ends_batch actor)) text h.1
line-spells (asks actor asked) text h = words-spell (line_tokens (asks actor asked)) text h.1
