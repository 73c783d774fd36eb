use Rattle.std.proofs.Common.{◌≡◌, ℕ, ◌<◌, ◌∙◌, ◌-◌, List, [], ◌∷◌, length, take, drop, refl, sym, ap, arith}
use Rattle.std.proofs.lemmas.List.{take_rest}
use Rattle.viz_words.specs.Words.{words_of}
use Rattle.viz_words.specs.Steps.Scans.{gaps, word_len}
use Rattle.viz_words.proofs.ScanLemmas.{words-none, words-next}
use Rattle.viz_words.proofs.scan.next_word.Goals as goal

-- the numbers of the code are those of the definitions
found : (text rest : List ℕ) (g n : ℕ) → g ≡ gaps text → rest ≡ take (length text - g) (drop g text) → n ≡ word_len rest → 0 < n
    → words_of text ≡ take n rest ∷ words_of (take (length rest - n) (drop n rest))
found text rest g n is_gap is_rest is_len some =
    let behind : rest ≡ drop (gaps text) text = is_rest ∙ take_rest text g ∙ ap (λ m. drop m text) is_gap in
    let len : word_len (drop (gaps text) text) ≡ n = sym (is_len ∙ ap word_len behind) in
    let next = words-next text (omega (arith, some, len)) in
    next ∙ ap (λ m. take m (drop (gaps text) text) ∷ words_of (drop m (drop (gaps text) text))) len
    ∙ ap (λ l. take n l ∷ words_of (drop n l)) (sym behind) ∙ ap (λ l. take n rest ∷ words_of l) (sym (take_rest rest n))

none : (text rest : List ℕ) (g n : ℕ) → g ≡ gaps text → rest ≡ take (length text - g) (drop g text) → n ≡ word_len rest → n ≡ 0 → words_of text ≡ []
none text rest g n is_gap is_rest is_len zero =
    let behind : rest ≡ drop (gaps text) text = is_rest ∙ take_rest text g ∙ ap (λ m. drop m text) is_gap in
    words-none text (sym (is_len ∙ ap word_len behind) ∙ zero)

pub returns-then-len-eq0-clause-words : goal.returns-then-len-eq0-clause-words
returns-then-len-eq0-clause-words c = none c.args.text.now _ c.gaps.result c.word_len-len.result c.gaps.ensures.value refl c.word_len-len.ensures.value c.if-len-eq0.true

pub returns-clause-words : goal.returns-clause-words
returns-clause-words c = found c.args.text.now _ c.gaps.result c.word_len-len.result c.gaps.ensures.value refl c.word_len-len.ensures.value (let h = c.if-len-eq0.false in omega (arith, h))
