-- Lines and words as the code comes to them are those of the definitions.
use Rattle.std.proofs.Common.{◌≡◌, ℕ, zero, suc, ◌<◌, Bool, true, false, cond, not, ◌&&◌, List, [], ◌∷◌, length, get_or, take, drop, Option, None, Some, refl, sym, ap, ◌∙◌, eq-eqb, arith}
use Rattle.std.specs.Prelude.{option_map, ◌==◌}
use Rattle.std.proofs.lemmas.Bool.{ne_eqb}
use Rattle.viz_words.specs.Lines.{line_len, begins_newline, in_front, lines_of}
use Rattle.viz_words.specs.Words.{is_gap, begins_word, words_of}
use Rattle.viz_words.specs.Steps.Scans.{trimmed, gaps, word_len}

-- ---- a carriage return at the end of a line

-- the line without its last byte where that is a carriage return
pub trimmed-last : (line : List ℕ) (n : ℕ) → suc n ≡ length line → get_or line n 0 ≡ 13 → take n line ≡ trimmed line
trimmed-last [] n some h = absurd (omega (arith, some))
trimmed-last (b ∷ []) zero some h = sym (ap (λ t. cond t [] (b ∷ [])) (eq-eqb b 13 h))
trimmed-last (b ∷ []) (suc n) some h = absurd (omega (arith, some))
trimmed-last (b ∷ c ∷ bs) zero some h = absurd (omega (arith, some))
trimmed-last (b ∷ c ∷ bs) (suc n) some h = ap (λ l. b ∷ l) (trimmed-last (c ∷ bs) n (omega (arith, some)) h)

pub trimmed-kept : (line : List ℕ) (n : ℕ) → suc n ≡ length line → (get_or line n 0 ≡ 13 → ⊥) → line ≡ trimmed line
trimmed-kept [] n some h = absurd (omega (arith, some))
trimmed-kept (b ∷ []) zero some h = sym (ap (λ t. cond t [] (b ∷ [])) (ne_eqb b 13 h))
trimmed-kept (b ∷ []) (suc n) some h = absurd (omega (arith, some))
trimmed-kept (b ∷ c ∷ bs) zero some h = absurd (omega (arith, some))
trimmed-kept (b ∷ c ∷ bs) (suc n) some h = ap (λ l. b ∷ l) (trimmed-kept (c ∷ bs) n (omega (arith, some)) h)

pub trimmed-empty : (line : List ℕ) → length line ≡ 0 → line ≡ trimmed line
trimmed-empty [] h = refl
trimmed-empty (b ∷ bs) h = absurd (omega (arith, h))

-- ---- lines

-- a byte that is no newline, in front of more bytes
opened : (b c : ℕ) (cs : List ℕ) (t u : Bool) → (b == 10) ≡ false → (b == 13) ≡ t → (c == 10) ≡ u
    → lines_of (b ∷ c ∷ cs) ≡ cond (t && u) (lines_of (c ∷ cs)) (in_front b (lines_of (c ∷ cs)))
opened b c cs t u other p q =
    let more = lines_of (c ∷ cs) in
    ap (λ x. cond x ([] ∷ more) (cond ((b == 13) && (c == 10)) more (in_front b more))) other
    ∙ ap (λ x. cond (x && (c == 10)) more (in_front b more)) p ∙ ap (λ x. cond (t && x) more (in_front b more)) q

before_line : (b : ℕ) (bs : List ℕ) (m : ℕ) → (b == 10) ≡ false → line_len bs ≡ Some m → lines_of bs ≡ trimmed (take m bs) ∷ lines_of (drop (suc m) bs)
    → lines_of (b ∷ bs) ≡ trimmed (take (suc m) (b ∷ bs)) ∷ lines_of (drop (suc (suc m)) (b ∷ bs))
before_line b [] m other e ih = let bad : ⊥ = cc in absurd bad
before_line b (c ∷ cs) m other e ih = by (c == 10) refl m e ih
  where
    none : (o : Option ℕ) → option_map suc o ≡ Some zero → ⊥
    none None h = cc
    none (Some k) h = let z : suc k ≡ zero = cc in omega (arith, z)

    by : (u : Bool) → (c == 10) ≡ u → (m : ℕ) → cond u (Some 0) (option_map suc (line_len cs)) ≡ Some m
        → lines_of (c ∷ cs) ≡ trimmed (take m (c ∷ cs)) ∷ lines_of (drop (suc m) (c ∷ cs))
        → lines_of (b ∷ c ∷ cs) ≡ trimmed (take (suc m) (b ∷ c ∷ cs)) ∷ lines_of (drop (suc (suc m)) (b ∷ c ∷ cs))
    by true q zero f ih = inner (b == 13) refl
      where
        inner : (t : Bool) → (b == 13) ≡ t → lines_of (b ∷ c ∷ cs) ≡ trimmed (b ∷ []) ∷ lines_of cs
        inner true p = opened b c cs true true other p q ∙ ih ∙ ap (λ x. cond x [] (b ∷ []) ∷ lines_of cs) (sym p)
        inner false p = opened b c cs false true other p q ∙ ap (in_front b) ih ∙ ap (λ x. cond x [] (b ∷ []) ∷ lines_of cs) (sym p)
    by true q (suc k) f ih = let z : 0 ≡ suc k = cc in absurd (omega (arith, z))
    by false q zero f ih = absurd (none (line_len cs) f)
    by false q (suc k) f ih = inner (b == 13) refl
      where
        inner : (t : Bool) → (b == 13) ≡ t → lines_of (b ∷ c ∷ cs) ≡ trimmed (b ∷ c ∷ take k cs) ∷ lines_of (drop (suc k) cs)
        inner true p = opened b c cs true false other p q ∙ ap (in_front b) ih
        inner false p = opened b c cs false false other p q ∙ ap (in_front b) ih

-- the line up to the first newline
pub lines-ended : (text : List ℕ) (n : ℕ) → line_len text ≡ Some n → lines_of text ≡ trimmed (take n text) ∷ lines_of (drop (suc n) text)
lines-ended [] n h = let bad : ⊥ = cc in absurd bad
lines-ended (b ∷ bs) n h = by (b == 10) refl (line_len bs) refl h (lines-ended bs)
  where
    by : (t : Bool) → (b == 10) ≡ t → (o : Option ℕ) → line_len bs ≡ o → cond t (Some 0) (option_map suc o) ≡ Some n
        → ((m : ℕ) → line_len bs ≡ Some m → lines_of bs ≡ trimmed (take m bs) ∷ lines_of (drop (suc m) bs))
        → lines_of (b ∷ bs) ≡ trimmed (take n (b ∷ bs)) ∷ lines_of (drop (suc n) (b ∷ bs))
    by true e o f g ih =
        let z : 0 ≡ n = cc in
        ap (λ x. cond x ([] ∷ lines_of bs) (cond ((b == 13) && begins_newline bs) (lines_of bs) (in_front b (lines_of bs)))) e
        ∙ ap (λ k. trimmed (take k (b ∷ bs)) ∷ lines_of (drop (suc k) (b ∷ bs))) z
    by false e None f g ih = let bad : ⊥ = cc in absurd bad
    by false e (Some m) f g ih =
        let z : suc m ≡ n = cc in
        before_line b bs m e f (ih m f) ∙ ap (λ k. trimmed (take k (b ∷ bs)) ∷ lines_of (drop (suc k) (b ∷ bs))) z

-- the last line, which no newline ends
pub lines-last : (text : List ℕ) → line_len text ≡ None → 0 < length text → lines_of text ≡ text ∷ []
lines-last [] h some = absurd (omega arith)
lines-last (b ∷ []) h some = by (b == 10) refl h
  where
    by : (t : Bool) → (b == 10) ≡ t → cond {A = Option ℕ} t (Some 0) None ≡ None → lines_of (b ∷ []) ≡ (b ∷ []) ∷ []
    by true e f = let bad : ⊥ = cc in absurd bad
    by false e f = ap (λ x. cond x ([] ∷ []) (cond ((b == 13) && false) [] ((b ∷ []) ∷ []))) e ∙ inner (b == 13)
      where
        inner : (t : Bool) → cond (t && false) [] ((b ∷ []) ∷ []) ≡ (b ∷ []) ∷ []
        inner true = refl
        inner false = refl
lines-last (b ∷ c ∷ cs) h some = by (b == 10) refl (line_len (c ∷ cs)) refl h (lines-last (c ∷ cs))
  where
    other : (u : Bool) → (c == 10) ≡ u → cond u (Some 0) (option_map suc (line_len cs)) ≡ None → (c == 10) ≡ false
    other true q f = let bad : ⊥ = cc in absurd bad
    other false q f = q

    by : (t : Bool) → (b == 10) ≡ t → (o : Option ℕ) → line_len (c ∷ cs) ≡ o → cond t (Some 0) (option_map suc o) ≡ None
        → (line_len (c ∷ cs) ≡ None → 0 < length (c ∷ cs) → lines_of (c ∷ cs) ≡ (c ∷ cs) ∷ []) → lines_of (b ∷ c ∷ cs) ≡ (b ∷ c ∷ cs) ∷ []
    by true e o f g ih = let bad : ⊥ = cc in absurd bad
    by false e (Some k) f g ih = let bad : ⊥ = cc in absurd bad
    by false e None f g ih = inner (b == 13) refl
      where
        inner : (t : Bool) → (b == 13) ≡ t → lines_of (b ∷ c ∷ cs) ≡ (b ∷ c ∷ cs) ∷ []
        inner true p = opened b c cs true false e p (other (c == 10) refl f) ∙ ap (in_front b) (ih f (omega arith))
        inner false p = opened b c cs false false e p (other (c == 10) refl f) ∙ ap (in_front b) (ih f (omega arith))

-- ---- words

-- spaces and tabs in front are no words
pub words-behind : (text : List ℕ) → words_of text ≡ words_of (drop (gaps text) text)
words-behind [] = refl
words-behind (b ∷ bs) = by (is_gap b) refl (words-behind bs)
  where
    by : (t : Bool) → is_gap b ≡ t → words_of bs ≡ words_of (drop (gaps bs) bs) → words_of (b ∷ bs) ≡ words_of (drop (gaps (b ∷ bs)) (b ∷ bs))
    by true e ih =
        ap (λ x. cond x (words_of bs) (cond (begins_word bs) (in_front b (words_of bs)) ((b ∷ []) ∷ words_of bs))) e ∙ ih
        ∙ ap (λ x. words_of (drop (cond x (suc (gaps bs)) 0) (b ∷ bs))) (sym e)
    by false e ih = ap (λ x. words_of (drop (cond x (suc (gaps bs)) 0) (b ∷ bs))) (sym e)

-- behind them a word begins, or nothing is left
pub words-none : (text : List ℕ) → word_len (drop (gaps text) text) ≡ 0 → words_of text ≡ []
words-none [] h = refl
words-none (b ∷ bs) h = by (is_gap b) refl h (words-none bs)
  where
    by : (t : Bool) → is_gap b ≡ t → word_len (drop (cond t (suc (gaps bs)) 0) (b ∷ bs)) ≡ 0 → (word_len (drop (gaps bs) bs) ≡ 0 → words_of bs ≡ []) → words_of (b ∷ bs) ≡ []
    by true e f ih = ap (λ x. cond x (words_of bs) (cond (begins_word bs) (in_front b (words_of bs)) ((b ∷ []) ∷ words_of bs))) e ∙ ih f
    by false e f ih = let z : suc (word_len bs) ≡ 0 = ap (λ x. cond x 0 (suc (word_len bs))) (sym e) ∙ f in absurd (omega (arith, z))

-- the word in front
pub words-front : (text : List ℕ) → 0 < word_len text → words_of text ≡ take (word_len text) text ∷ words_of (drop (word_len text) text)
words-front [] h = absurd (omega (arith, h))
words-front (b ∷ []) h = by (is_gap b) refl h
  where
    by : (t : Bool) → is_gap b ≡ t → 0 < cond {A = ℕ} t 0 1 → words_of (b ∷ []) ≡ take (word_len (b ∷ [])) (b ∷ []) ∷ words_of (drop (word_len (b ∷ [])) (b ∷ []))
    by true e f = absurd (omega (arith, f))
    by false e f = ap (λ x. cond x [] ((b ∷ []) ∷ [])) e ∙ ap (λ x. take (cond {A = ℕ} x 0 1) (b ∷ []) ∷ words_of (drop (cond {A = ℕ} x 0 1) (b ∷ []))) (sym e)
words-front (b ∷ c ∷ cs) h = by (is_gap b) refl h (is_gap c) refl (words-front (c ∷ cs))
  where
    open_up : (u : Bool) → is_gap b ≡ false → is_gap c ≡ u
        → words_of (b ∷ c ∷ cs) ≡ cond (not u) (in_front b (words_of (c ∷ cs))) ((b ∷ []) ∷ words_of (c ∷ cs))
    open_up u e f = ap (λ x. cond x (words_of (c ∷ cs)) (cond (not (is_gap c)) (in_front b (words_of (c ∷ cs))) ((b ∷ []) ∷ words_of (c ∷ cs)))) e
        ∙ ap (λ x. cond (not x) (in_front b (words_of (c ∷ cs))) ((b ∷ []) ∷ words_of (c ∷ cs))) f

    close_up : (t u : Bool) → is_gap b ≡ t → is_gap c ≡ u
        → take (cond {A = ℕ} t 0 (suc (cond u 0 (suc (word_len cs))))) (b ∷ c ∷ cs) ∷ words_of (drop (cond {A = ℕ} t 0 (suc (cond u 0 (suc (word_len cs))))) (b ∷ c ∷ cs))
        ≡ take (word_len (b ∷ c ∷ cs)) (b ∷ c ∷ cs) ∷ words_of (drop (word_len (b ∷ c ∷ cs)) (b ∷ c ∷ cs))
    close_up t u e f =
        let shown : ℕ → List (List ℕ) = λ n. take n (b ∷ c ∷ cs) ∷ words_of (drop n (b ∷ c ∷ cs)) in
        ap (λ x. shown (cond {A = ℕ} x 0 (suc (cond u 0 (suc (word_len cs)))))) (sym e) ∙ ap (λ x. shown (cond {A = ℕ} (is_gap b) 0 (suc (cond x 0 (suc (word_len cs)))))) (sym f)

    by : (t : Bool) → is_gap b ≡ t → 0 < cond {A = ℕ} t 0 (suc (word_len (c ∷ cs))) → (u : Bool) → is_gap c ≡ u
        → (0 < word_len (c ∷ cs) → words_of (c ∷ cs) ≡ take (word_len (c ∷ cs)) (c ∷ cs) ∷ words_of (drop (word_len (c ∷ cs)) (c ∷ cs)))
        → words_of (b ∷ c ∷ cs) ≡ take (word_len (b ∷ c ∷ cs)) (b ∷ c ∷ cs) ∷ words_of (drop (word_len (b ∷ c ∷ cs)) (b ∷ c ∷ cs))
    by true e f u g ih = absurd (omega (arith, f))
    by false e f true g ih = open_up true e g ∙ close_up false true e g
    by false e f false g ih =
        let here : word_len (c ∷ cs) ≡ suc (word_len cs) = ap (λ x. cond {A = ℕ} x 0 (suc (word_len cs))) g in
        let next : words_of (c ∷ cs) ≡ take (suc (word_len cs)) (c ∷ cs) ∷ words_of (drop (suc (word_len cs)) (c ∷ cs)) =
        ih (omega (arith, here)) ∙ ap (λ n. take n (c ∷ cs) ∷ words_of (drop n (c ∷ cs))) here in
        open_up false e g ∙ ap (in_front b) next ∙ close_up false false e g

-- the first word of a line
pub words-next : (text : List ℕ) → 0 < word_len (drop (gaps text) text)
    → words_of text ≡ take (word_len (drop (gaps text) text)) (drop (gaps text) text) ∷ words_of (drop (word_len (drop (gaps text) text)) (drop (gaps text) text))
words-next text h = words-behind text ∙ words-front (drop (gaps text) text) h
