-- Marks of the ranks that cells have are one list, and with it the whole sheet is known.
use Rattle.std.proofs.Common.{◌≡◌, ℕ, Bool, true, false, List, [], ◌∷◌, length, get_or, refl, sym, ap, ◌∙◌, arith}
use Rattle.std.specs.List.{flat_map}
use Rattle.std.proofs.lemmas.Bool.{eqb-true}
use Rattle.std.proofs.lemmas.Cmp.{nat_eq_equiv}
use Rattle.std.proofs.lemmas.List.FromFn.{fill_by_all}
use Rattle.std.proofs.lemmas.Map.Views.{Contains-from_any, list_any-from_Contains}
use Rattle.viz_fraction.specs.Points.{Point}
use Rattle.viz_sheet.specs.Sheet.{SheetData}
use Rattle.viz_sheet.specs.Ranked.{by_names}
use Rattle.viz_sheet.specs.Kept.{kept, kept_rank, AreMarks, is_used, used_marks, sheet_with}
use Rattle.viz_sheet.proofs.KeptLemmas.{rank-suc, rank-most}

same_test : (a b : Bool) → (a ≡ true → b ≡ true) → (b ≡ true → a ≡ true) → a ≡ b
same_test true b h k = sym (h refl)
same_test false true h k = k refl
same_test false false h k = refl

-- marks of the ranks that cells have are these
pub marks_are : (count : ℕ) (cells : List (List ℕ)) (marks : List Bool) → AreMarks count cells marks → marks ≡ used_marks count cells
marks_are count cells marks m =
    let ranks = flat_map (λ (cell : List ℕ). cell) cells in
    fill_by_all (is_used cells) marks count false m.size
    (λ r l. same_test (get_or marks r false) (is_used cells r)
    (λ e. list_any-from_Contains nat_eq_equiv r ranks ((m.each r).0 e))
    (λ e. (m.each r).1 (Contains-from_any eqb-true r ranks e)))

-- where as many are marked as there are, each item is kept
pub kept-each : {X : Type 0} (marks : List Bool) (xs : List X) → length marks ≡ length xs → kept_rank marks (length marks) ≡ length marks → kept marks xs ≡ xs
kept-each [] [] l e = refl
kept-each [] (x ∷ xs) l e = absurd (omega arith)
kept-each (m ∷ ms) [] l e = refl
kept-each (true ∷ ms) (x ∷ xs) l e = ap (λ ys. x ∷ ys) (kept-each ms xs (omega arith) (omega (arith, rank-suc true ms (length ms), e)))
kept-each (false ∷ ms) (x ∷ xs) l e = absurd (omega (arith, rank-suc false ms (length ms), rank-most ms (length ms) (omega arith), e))

-- a sheet is known by what is seen of it
pub seen_is : (s : SheetData) (names : List (List ℕ)) (points : List Point) (cells : List (List (List ℕ))) → s.names ≡ names → s.points ≡ points → s.cells ≡ cells → s ≡ record { names = names; points = points; cells = cells }
seen_is s names points cells en ep ec = λ i. record { names = en i; points = ep i; cells = ec i }

-- what the marked names and points make is the sheet of the cells
pub marked_is : (s : SheetData) (names : List (List ℕ)) (points : List Point) (cells : List (List ℕ)) (marks : List Bool) → AreMarks (length names) cells marks → s.names ≡ kept marks names → s.points ≡ kept marks points → s.cells ≡ by_names names cells → s ≡ sheet_with names points cells
marked_is s names points cells marks m en ep ec =
    let same = marks_are (length names) cells marks m in
    seen_is s (kept (used_marks (length names) cells) names) (kept (used_marks (length names) cells) points) (by_names names cells)
    (en ∙ ap (λ ms. kept ms names) same) (ep ∙ ap (λ ms. kept ms points) same) ec

-- and so are all names and points where each name is marked
pub whole_is : (s : SheetData) (names : List (List ℕ)) (points : List Point) (cells : List (List ℕ)) (marks : List Bool) → AreMarks (length names) cells marks → length points ≡ length names → kept_rank marks (length marks) ≡ length names → s.names ≡ names → s.points ≡ points → s.cells ≡ by_names names cells → s ≡ sheet_with names points cells
whole_is s names points cells marks m l all en ep ec =
    marked_is s names points cells marks m (en ∙ sym (kept-each marks names m.size (all ∙ sym m.size)))
    (ep ∙ sym (kept-each marks points (m.size ∙ sym l) (all ∙ sym m.size))) ec
