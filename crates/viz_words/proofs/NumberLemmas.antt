-- Numbers of words, one after the other.
use Rattle.std.proofs.Common.{◌≡◌, ℕ, ℤ, List, [], ◌∷◌, ◌++◌, append_assoc, Result, Ok, Err, refl, sym, ap, ◌∙◌}
use Rattle.viz_words.specs.declared.refusal.ScriptRefusal.{ScriptRefusal}
use Rattle.viz_words.specs.Gives.{◌>>=◌}
use Rattle.viz_words.specs.Numbers.{number_in}
use Rattle.viz_words.specs.Commands.{due, numbers_in}
use Rattle.viz_words.specs.Steps.Numbered.{numbers_behind}

-- the word that was due is the first
pub due-is : (words : List (List ℕ)) (x : List ℕ × List (List ℕ)) → due words ≡ Ok x → words ≡ x.0 ∷ x.1
due-is [] x h = let bad : ⊥ = cc in absurd bad
due-is (word ∷ words) x h = let same : (word, words) ≡ x = cc in ap (λ (p : List ℕ × List (List ℕ)). p.0 ∷ p.1) same

-- one number more is read
pub numbers-more : (front : List ℤ) (words behind : List (List ℕ)) (word : List ℕ) (n : ℤ) → words ≡ word ∷ behind → number_in word ≡ Ok n
    → numbers_behind front (numbers_in words) ≡ numbers_behind (front ++ n ∷ []) (numbers_in behind)
numbers-more front words behind word n is read =
    ap (λ ws. numbers_behind front (numbers_in ws)) is
    ∙ ap (λ (r : Result ℤ ScriptRefusal). numbers_behind front (r >>= λ m. numbers_in behind >>= λ ns. Ok (m ∷ ns))) read ∙ by (numbers_in behind)
  where
    by : (r : Result (List ℤ) ScriptRefusal) → numbers_behind front (r >>= λ ns. Ok (n ∷ ns)) ≡ numbers_behind (front ++ n ∷ []) r
    by (Ok ns) = ap Ok (sym (append_assoc front (n ∷ []) ns))
    by (Err e) = refl

-- a word that is no number
pub numbers-stop : (front : List ℤ) (words behind : List (List ℕ)) (word : List ℕ) (e : ScriptRefusal) → words ≡ word ∷ behind → number_in word ≡ Err e
    → numbers_behind front (numbers_in words) ≡ Err e
numbers-stop front words behind word e is read =
    ap (λ ws. numbers_behind front (numbers_in ws)) is
    ∙ ap (λ (r : Result ℤ ScriptRefusal). numbers_behind front (r >>= λ m. numbers_in behind >>= λ ns. Ok (m ∷ ns))) read
