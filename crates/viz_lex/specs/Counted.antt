-- Words by the bytes at which they end: words of private contracts alone.
use Rattle.std.specs.Prelude.{ℕ, zero, suc, ◌+◌, ◌-◌, Bool, false, not, ◌&&◌, ◌==◌, List, [], ◌∷◌}
use Rattle.std.specs.Prelude.{Option, Some, None, option_map, drop, if◌then◌else◌}
use Rattle.viz_lex.specs.Words.{is_blank, blanks, word_len}

-- how many words end at a blank, the first of them open in front of the text or not
abbrev pub word_ends : Bool → List ℕ → ℕ
word_ends inside [] = 0
word_ends inside (b ∷ bs) =
    if is_blank b && inside then suc (word_ends (not (is_blank b)) bs)
    else word_ends (not (is_blank b)) bs

-- whether the last byte is one of a word
abbrev pub inside_after : Bool → List ℕ → Bool
inside_after inside [] = inside
inside_after inside (b ∷ bs) = inside_after (not (is_blank b)) bs

-- the end of the last of so many words, byte by byte, the first of them open in front or not
abbrev pub passed : Bool → ℕ → List ℕ → Option ℕ
passed inside left [] = if inside && left == 1 then Some 0 else None
passed inside left (b ∷ bs) =
    if is_blank b && inside then (if left == 1 then Some 0
    else option_map suc (passed false (left - 1) bs))
    else option_map suc (passed (not (is_blank b)) left bs)

-- how long the next so many words are, with the blanks in front of each
unfoldable pub words_len : ℕ → List ℕ → Option ℕ
words_len zero text = Some 0
words_len (suc n) text =
    let gap = blanks text in
    let len = word_len (drop gap text) in
    if len == 0 then None else option_map (λ k. gap + len + k) (words_len n (drop (gap + len) text))
