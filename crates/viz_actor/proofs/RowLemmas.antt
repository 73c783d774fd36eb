-- Rows of lines, one more.
use Rattle.std.proofs.Common.{◌≡◌, ℕ, suc, ◌+◌, List, [], ◌∷◌, ◌++◌, length, refl, ap, ◌∙◌, arith}
use Rattle.viz_report.specs.declared.line.Line.{Line}
use Rattle.viz_report.specs.declared.line.Row.{Row}
use Rattle.viz_report.specs.Report.{rows_from}

pub rows-snoc : (actor n : ℕ) (ls : List Line) (l : Line) → rows_from actor n (ls ++ l ∷ []) ≡ rows_from actor n ls ++ record { actor = actor; count = n + length ls; line = l } ∷ []
rows-snoc actor n [] l = ap (λ (c : ℕ). (let r : Row = record { actor = actor; count = c; line = l } in r ∷ [])) (let e : n ≡ n + 0 = omega arith in e)
rows-snoc actor n (k ∷ ls) l =
    ap (λ rows. record { actor = actor; count = n; line = k } ∷ rows)
    (rows-snoc actor (n + 1) ls l ∙ ap (λ (c : ℕ). rows_from actor (n + 1) ls ++ (let r : Row = record { actor = actor; count = c; line = l } in r ∷ [])) (let e : (n + 1) + length ls ≡ n + length (k ∷ ls) = omega arith in e))

pub rows_length : (actor n : ℕ) (ls : List Line) → length (rows_from actor n ls) ≡ length ls
rows_length actor n [] = refl
rows_length actor n (l ∷ ls) = ap suc (rows_length actor (n + 1) ls)
