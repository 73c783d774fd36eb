-- The steps of a reader of lines.
use Rattle.std.proofs.Common.{◌≡◌, ◌≤◌, ℕ, zero, suc, ◌+◌, ◌-◌, List, [], ◌∷◌, ◌++◌, length, take, drop, min, Option, Some, None, sym, ap, ◌∙◌, arith}
use Rattle.std.proofs.lemmas.List.{take-take, length-take-le, drop-take, take_min}
use Rattle.memchr.specs.Find.{IsFirstByte, is_byte}
use Rattle.viz_lex.proofs.LineLemmas.{line_len_is, line_len-Some, line_len-None}
use Rattle.viz_source.specs.Steps.Reading.{FindsNewline}

-- the bytes of a part of a list
pub part_is : (xs : List ℕ) (place count : ℕ) → place ≤ count → take (count - place) (drop place xs) ≡ drop place (take count xs)
part_is xs place count h =
    let sum : place + (count - place) ≡ count = omega arith in
    sym (drop-take place (count - place) xs) ∙ ap (λ n. drop place (take n xs)) sum

-- a search for a newline finds the line in front
pub finds_newline : (text : List ℕ) (found : Option ℕ) → IsFirstByte (is_byte 10) text found → FindsNewline text found
finds_newline text None h = line_len-None text (line_len_is text None h)
finds_newline text (Some n) h =
    let next = line_len-Some text n (line_len_is text (Some n) h) in
    (drop (suc n) text, next, length-take-le n text (omega (arith, h.0.high)))

-- bytes behind others, of which only the first so many are kept
pub kept_behind : (k : ℕ) (xs ys : List ℕ) → length xs ≤ k → xs ++ take (min (length ys) (k - length xs)) ys ≡ take k (xs ++ ys)
kept_behind k [] ys h =
    let same : min (length ys) (k - 0) ≡ min k (length ys) = omega arith in
    ap (λ n. take n ys) same ∙ take_min k ys
kept_behind zero (x ∷ xs) ys h = absurd (omega (arith, h))
kept_behind (suc k) (x ∷ xs) ys h =
    let same : suc k - suc (length xs) ≡ k - length xs = omega arith in
    ap (λ l. x ∷ l) (ap (λ n. xs ++ take (min (length ys) n) ys) same ∙ kept_behind k xs ys (omega (arith, h)))

-- so many bytes from a place on lie within the first ones
pub part_taken : (xs : List ℕ) (place n count : ℕ) → place + n ≤ count → take n (drop place (take count xs)) ≡ take n (drop place xs)
part_taken xs place n count h =
    ap (take n) (sym (part_is xs place count (omega (arith, h)))) ∙ take-take n (count - place) (drop place xs) (omega (arith, h))
