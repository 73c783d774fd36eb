-- The words of a line, taken off one by one.
use Rattle.std.proofs.Common.{◌≡◌, ℕ, ℤ, true, List, [], ◌∷◌, length, Some, refl, ap, arith}
use Rattle.std.specs.List.{AllZip}
use Rattle.viz_words.specs.Lines.{is_plain}
use Rattle.viz_words.specs.Words.{words_of, is_skipped}
use Rattle.viz_words.specs.Numbers.{number_of}
use Rattle.viz_script.specs.Lines.{Line, silent}
use Rattle.viz_script_law.specs.Tokens.{Token, exact, number, line_tokens}
use Rattle.viz_script_law.specs.Spelling.{SpellsToken}

-- the words spell the tokens in turn
abbrev pub Spelled : List Token → List (List ℕ) → Type 0
Spelled tokens words = AllZip SpellsToken tokens words

-- the words of the text, each byte of which may stand in a script, spell the tokens
abbrev pub HasWords : List Token → List ℕ → Type 0
HasWords tokens text = (is_plain text ≡ true) × Spelled tokens (words_of text)

-- the words of the text are those of the line
abbrev pub HasLine : Line → List ℕ → Type 0
HasLine silent text = is_skipped text ≡ true
HasLine line text = HasWords (line_tokens line) text

-- the first word is spelled in one way
pub first-exact : (word : List ℕ) (tokens : List Token) (texts : List (List ℕ)) → Spelled (exact word ∷ tokens) texts
    → (rest : List (List ℕ)) × (texts ≡ word ∷ rest) × Spelled tokens rest
first-exact word tokens [] h = absurd h
first-exact word tokens (text ∷ texts) h = (texts, ap (λ t. t ∷ texts) h.0, h.1)

-- the first word is a number
pub first-number : (n : ℤ) (tokens : List Token) (texts : List (List ℕ)) → Spelled (number n ∷ tokens) texts
    → (text : List ℕ) × (rest : List (List ℕ)) × (texts ≡ text ∷ rest) × (number_of text ≡ Some n) × Spelled tokens rest
first-number n tokens [] h = absurd h
first-number n tokens (text ∷ texts) h = (text, texts, refl, h.0, h.1)

-- there is no further word
pub no-more : (texts : List (List ℕ)) → Spelled [] texts → texts ≡ []
no-more [] h = refl
no-more (text ∷ texts) h = absurd h

-- two lists that are related place by place are as long
pub zip-length : {A B : Type 0} (R : A → B → Type 0) (xs : List A) (ys : List B) → AllZip R xs ys → length xs ≡ length ys
zip-length R [] [] h = refl
zip-length R [] (y ∷ ys) h = absurd h
zip-length R (x ∷ xs) [] h = absurd h
zip-length R (x ∷ xs) (y ∷ ys) h = grind (arith, zip-length R xs ys h.1)
