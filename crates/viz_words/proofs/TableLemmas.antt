-- The first of a list that has a word.
use Rattle.std.proofs.Common.{◌≡◌, ℕ, suc, ◌+◌, ◌<◌, true, false, cond, List, length, get_or, drop, Some, sym, ap, ◌∙◌, add-one, drop-cons}
use Rattle.viz_kinds.specs.Values.{is_text}
use Rattle.viz_words.specs.Tables.{with_word}

-- one that hasn't the word is passed over
pub with_word-more : {A : Type 0} (word : A → List ℕ) (xs : List A) (text : List ℕ) (i : ℕ) (x : A) → i < length xs
    → is_text text (word (get_or xs i x)) ≡ false → with_word word (drop (i + 1) xs) text ≡ with_word word (drop i xs) text
with_word-more word xs text i x h differs =
    let front = get_or xs i x in
    let later = with_word word (drop (suc i) xs) text in
    ap (λ n. with_word word (drop n xs) text) (add-one i) ∙ sym (ap (λ l. with_word word l text) (drop-cons xs i x h) ∙ ap (λ b. cond b (Some front) later) differs)

-- one that has the word is the one
pub with_word-here : {A : Type 0} (word : A → List ℕ) (xs : List A) (text : List ℕ) (i : ℕ) (x : A) → i < length xs
    → is_text text (word (get_or xs i x)) ≡ true → with_word word (drop i xs) text ≡ Some (get_or xs i x)
with_word-here word xs text i x h same =
    ap (λ l. with_word word l text) (drop-cons xs i x h) ∙ ap (λ b. cond b (Some (get_or xs i x)) (with_word word (drop (suc i) xs) text)) same
