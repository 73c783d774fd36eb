-- What a reader of words gave tells the words that it read.
use Rattle.std.proofs.Common.{◌≡◌, ℕ, ℤ, pos, negsuc, ◌≤◌, Bool, true, false, cond, ◌&&◌, nat_le, List, [], ◌∷◌, length, Option, Some, None, Result, Ok, Err, refl, sym, ap, ◌∙◌, eqb-true, arith}
use Rattle.std.specs.Prelude.{◌==◌, neg_ℤ, option_map, ok_or, int_le, unsigned_abs}
use Rattle.std.proofs.lemmas.Bool.{leb-true}
use Rattle.viz_lex.specs.Numbers.{natural_of}
use Rattle.viz_kinds.specs.Values.{is_text, first_number, last_number}
use Rattle.viz_words.specs.declared.refusal.ScriptRefusal.{ScriptRefusal}
use Rattle.viz_words.specs.declared.refusal.ScriptRefusal.TheVariants as refusal
use Rattle.viz_words.specs.Gives.{◌>>=◌, guard}
use Rattle.viz_words.specs.Numbers.{within, number_of, number_in, natural_in}
use Rattle.viz_words.specs.Names.{named_in}
use Rattle.viz_words.specs.Tables.{with_word}
use Rattle.viz_words.specs.Commands.{due, one, two, three, four}
use Rattle.viz_words.proofs.NumberLemmas.{due-is}
use Rattle.viz_journal.proofs.OnlyLemmas.{same-text}
use Rattle.viz_journal.proofs.SolidLemmas.{and-parts}

-- ---- steps

-- a step that gave a value, and what the next made of it
pub bind-ok : {A B : Type 0} (r : Result A ScriptRefusal) (next : A → Result B ScriptRefusal) (y : B) → (r >>= next) ≡ Ok y
    → (x : A) × (r ≡ Ok x) × (next x ≡ Ok y)
bind-ok (Ok x) next y h = (x, refl, h)
bind-ok (Err e) next y h = let bad : ⊥ = cc h in absurd bad

-- a test that let the next step go on
pub guarded : {A : Type 0} (test : Bool) (r : ScriptRefusal) (next : Result A ScriptRefusal) (x : A) → (guard test r >>= λ t. next) ≡ Ok x
    → (test ≡ true) × (next ≡ Ok x)
guarded true r next x h = (refl, h)
guarded false r next x h = let bad : ⊥ = cc h in absurd bad

-- ---- so many words

empty : (words : List (List ℕ)) → (length words == 0) ≡ true → words ≡ []
empty [] h = refl
empty (word ∷ words) h = absurd (omega (arith, eqb-true (length (word ∷ words)) 0 h))

pub one-is : (words : List (List ℕ)) (w : List ℕ) → one words ≡ Ok w → words ≡ w ∷ []
unfolding one
one-is words w h =
    let a = bind-ok (due words) (λ a. guard (length a.1 == 0) refusal.Arity >>= λ none. Ok a.0) w h in
    let g = guarded (length a.0.1 == 0) refusal.Arity (Ok a.0.0) w a.2 in
    let same : a.0.0 ≡ w = cc g.1 in
    due-is words a.0 a.1 ∙ ap (λ l. a.0.0 ∷ l) (empty a.0.1 g.0) ∙ ap (λ x. x ∷ []) same

pub two-is : (words : List (List ℕ)) (w : List ℕ × List ℕ) → two words ≡ Ok w → words ≡ w.0 ∷ w.1 ∷ []
unfolding two
two-is words w h =
    let a = bind-ok (due words) (λ a. one a.1 >>= λ b. Ok (a.0, b)) w h in
    let b = bind-ok (one a.0.1) (λ b. Ok (a.0.0, b)) w a.2 in
    let same : (a.0.0, b.0) ≡ w = cc b.2 in
    due-is words a.0 a.1 ∙ ap (λ l. a.0.0 ∷ l) (one-is a.0.1 b.0 b.1) ∙ ap (λ (p : List ℕ × List ℕ). p.0 ∷ p.1 ∷ []) same

pub three-is : (words : List (List ℕ)) (w : List ℕ × List ℕ × List ℕ) → three words ≡ Ok w → words ≡ w.0 ∷ w.1 ∷ w.2 ∷ []
unfolding three
three-is words w h =
    let a = bind-ok (due words) (λ a. two a.1 >>= λ b. Ok (a.0, b.0, b.1)) w h in
    let b = bind-ok (two a.0.1) (λ b. Ok (a.0.0, b.0, b.1)) w a.2 in
    let same : (a.0.0, b.0.0, b.0.1) ≡ w = cc b.2 in
    due-is words a.0 a.1 ∙ ap (λ l. a.0.0 ∷ l) (two-is a.0.1 b.0 b.1) ∙ ap (λ (p : List ℕ × List ℕ × List ℕ). p.0 ∷ p.1 ∷ p.2 ∷ []) same

pub four-is : (words : List (List ℕ)) (w : List ℕ × List ℕ × List ℕ × List ℕ) → four words ≡ Ok w → words ≡ w.0 ∷ w.1 ∷ w.2 ∷ w.3 ∷ []
unfolding four
four-is words w h =
    let a = bind-ok (due words) (λ a. three a.1 >>= λ b. Ok (a.0, b.0, b.1, b.2)) w h in
    let b = bind-ok (three a.0.1) (λ b. Ok (a.0.0, b.0, b.1, b.2)) w a.2 in
    let same : (a.0.0, b.0.0, b.0.1, b.0.2) ≡ w = cc b.2 in
    due-is words a.0 a.1 ∙ ap (λ l. a.0.0 ∷ l) (three-is a.0.1 b.0 b.1) ∙ ap (λ (p : List ℕ × List ℕ × List ℕ × List ℕ). p.0 ∷ p.1 ∷ p.2 ∷ p.3 ∷ []) same

-- ---- names, numbers and tables

pub named-is : (test : List ℕ → Bool) (word name : List ℕ) → named_in test word ≡ Ok name → (word ≡ name) × (test name ≡ true)
named-is test word name h = by (test word) refl h
  where
    by : (t : Bool) → test word ≡ t → cond t (Ok word) (Err refusal.Name) ≡ Ok name → (word ≡ name) × (test name ≡ true)
    by true e g = let same : word ≡ name = cc g in (same, sym (ap test same) ∙ e)
    by false e g = let bad : ⊥ = cc g in absurd bad

pub some-is : (o : Option ℤ) (n : ℤ) → ok_or o refusal.Number ≡ Ok n → o ≡ Some n
some-is None n h = let bad : ⊥ = cc h in absurd bad
some-is (Some m) n h = let same : m ≡ n = cc h in ap (λ (z : ℤ). Some z) same

within-is : (o : Option ℤ) (n : ℤ) → within o ≡ Some n → (int_le first_number n && int_le n last_number) ≡ true
within-is None n h = let bad : ⊥ = cc h in absurd bad
within-is (Some m) n h = by (int_le first_number m && int_le m last_number) refl h
  where
    by : (t : Bool) → (int_le first_number m && int_le m last_number) ≡ t → cond t (Some m) None ≡ Some n → (int_le first_number n && int_le n last_number) ≡ true
    by true e g = let same : m ≡ n = cc g in sym (ap (λ z. int_le first_number z && int_le z last_number) same) ∙ e
    by false e g = let bad : ⊥ = cc g in absurd bad

-- a number has 64 bits
pub number-within : (word : List ℕ) (n : ℤ) → number_of word ≡ Some n → (int_le first_number n && int_le n last_number) ≡ true
number-within [] n h = let bad : ⊥ = cc h in absurd bad
number-within (b ∷ bs) n h =
    within-is (cond (b == 45) (option_map (λ m. neg_ℤ (pos m)) (natural_of bs)) (option_map (λ m. pos m) (natural_of (b ∷ bs)))) n h

pub natural-is : (least greatest n : ℕ) (word : List ℕ) → natural_in least greatest word ≡ Ok n → (number_of word ≡ Some (pos n)) × (least ≤ n) × (n ≤ greatest)
unfolding natural_in
natural-is least greatest n word h =
    let a = bind-ok (number_in word) (λ z. cond (int_le (pos least) z && int_le z (pos greatest)) (Ok (unsigned_abs z)) (Err refusal.Number)) n h in
    let z = by a.0 a.2 in
    (some-is (number_of word) a.0 a.1 ∙ ap (λ (z : ℤ). Some z) z.0, z.1, z.2)
  where
    inner : (m : ℕ) (t : Bool) → (nat_le least m && nat_le m greatest) ≡ t → cond t (Ok m) (Err refusal.Number) ≡ Ok n → (pos m ≡ pos n) × (least ≤ n) × (n ≤ greatest)
    inner m true e g =
        let same : m ≡ n = cc g in
        let parts = and-parts (nat_le least m) (nat_le m greatest) e in
        (ap (λ (k : ℕ). pos k) same, omega (arith, same, leb-true least m parts.0), omega (arith, same, leb-true m greatest parts.1))
    inner m false e g = let bad : ⊥ = cc g in absurd bad

    by : (z : ℤ) → cond (int_le (pos least) z && int_le z (pos greatest)) (Ok (unsigned_abs z)) (Err refusal.Number) ≡ Ok n → (z ≡ pos n) × (least ≤ n) × (n ≤ greatest)
    by (pos m) g = inner m (nat_le least m && nat_le m greatest) refl g
    by (negsuc m) g = let bad : ⊥ = cc g in absurd bad

-- the first of a list that has the word has this word
pub with_word-is : {A : Type 0} (word : A → List ℕ) (xs : List A) (text : List ℕ) (x : A) → with_word word xs text ≡ Some x → text ≡ word x
with_word-is word [] text x h = let bad : ⊥ = cc h in absurd bad
with_word-is {A} word (y ∷ ys) text x h = by (is_text text (word y)) refl h (with_word-is word ys text x)
  where
    by : (t : Bool) → is_text text (word y) ≡ t → cond t (Some y) (with_word word ys text) ≡ Some x → (with_word word ys text ≡ Some x → text ≡ word x) → text ≡ word x
    by true e g ih = let same : y ≡ x = cc g in same-text text (word y) e ∙ ap word same
    by false e g ih = ih g
