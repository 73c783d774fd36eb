-- A row more behind others.
use Rattle.std.proofs.Common.{◌≡◌, ℕ, zero, suc, ◌-◌, ◌≤◌, List, [], ◌∷◌, ◌++◌, length, map, take, drop, refl, ap, ap₂, ◌∙◌, arith}
use Rattle.std.specs.Prelude.{All}
use Rattle.std.proofs.lemmas.List.{length-append, take_all}
use Rattle.std.proofs.lemmas.List.Elements.{All-head, All-tail}
use Rattle.viz_strip.specs.declared.rows.Span.{Span}
use Rattle.viz_strip.specs.Steps.Rows.{LiesWithin, row_in}

drop-append-le : (n : ℕ) (xs ys : List ℕ) → n ≤ length xs → drop n (xs ++ ys) ≡ drop n xs ++ ys
drop-append-le zero xs ys l = refl
drop-append-le (suc n) [] ys l = absurd (omega arith)
drop-append-le (suc n) (x ∷ xs) ys l = drop-append-le n xs ys (omega arith)

length-drop-is : (n : ℕ) (xs : List ℕ) → length (drop n xs) ≡ length xs - n
length-drop-is zero xs = omega arith
length-drop-is (suc n) [] = omega arith
length-drop-is (suc n) (x ∷ xs) = omega (arith, length-drop-is n xs)

take-front : (n : ℕ) (xs ys : List ℕ) → n ≤ length xs → take n (xs ++ ys) ≡ take n xs
take-front zero xs ys l = refl
take-front (suc n) [] ys l = absurd (omega arith)
take-front (suc n) (x ∷ xs) ys l = ap (λ t. x ∷ t) (take-front n xs ys (omega arith))

-- a row that lies within names is as it was
same-row : (names row : List ℕ) (s : Span) → LiesWithin (length names) s → row_in (names ++ row) s ≡ row_in names s
same-row names row s l =
    ap (take (s.end - s.start)) (drop-append-le s.start names row (omega (arith, l.ordered, l.within)))
    ∙ take-front (s.end - s.start) (drop s.start names) row (omega (arith, l.ordered, l.within, length-drop-is s.start names))

same-rows : (names row : List ℕ) (spans : List Span) → All (LiesWithin (length names)) spans → map (row_in (names ++ row)) spans ≡ map (row_in names) spans
same-rows names row [] a = refl
same-rows names row (s ∷ spans) a =
    ap₂ (λ x xs. x ∷ xs) (same-row names row s (All-head (LiesWithin (length names)) s spans a)) (same-rows names row spans (All-tail (LiesWithin (length names)) s spans a))

map-one : {X Y : Type 0} (f : X → Y) (xs : List X) (x : X) → map f (xs ++ x ∷ []) ≡ map f xs ++ f x ∷ []
map-one f [] x = refl
map-one f (y ∷ xs) x = ap (λ t. f y ∷ t) (map-one f xs x)

all-of : (names row : List ℕ) → take (length row) (drop (length names) (names ++ row)) ≡ row
all-of [] row = take_all (length row) row (omega arith)
all-of (n ∷ names) row = all-of names row

pub rows-push : (names new_names row : List ℕ) (spans new_spans : List Span) (start end : ℕ) → All (LiesWithin (length names)) spans → new_names ≡ names ++ row → new_spans ≡ spans ++ record { start = start; end = end } ∷ []
    → start ≡ length names → end ≡ length new_names → map (row_in new_names) new_spans ≡ map (row_in names) spans ++ row ∷ []
rows-push names new_names row spans new_spans start end a is more s e =
    let size : end - start ≡ length row = omega (arith, s, e, ap length is, length-append names row) in
    ap₂ (λ ns ss. map (row_in ns) ss) is more ∙ map-one (row_in (names ++ row)) spans (record { start = start; end = end })
    ∙ ap₂ (λ rows r. rows ++ r ∷ []) (same-rows names row spans a)
    (ap₂ (λ k j. take k (drop j (names ++ row))) size s ∙ all-of names row)
