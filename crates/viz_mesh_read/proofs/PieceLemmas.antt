-- Splitting cells piece by piece and cell by cell, as loops do, and the cells that the numbers are of.
use Rattle.std.proofs.Common.{◌≡◌, ℕ, suc, ◌-◌, ◌+◌, ◌≤◌, ◌<◌, true, false, List, [], ◌∷◌, ◌++◌, length, refl, sym, ap, ◌∙◌, append_assoc, add-one, arith}
use Rattle.std.specs.Prelude.{take}
use Rattle.std.specs.List.{flat_map}
use Rattle.std.proofs.lemmas.List.{append-nil}
use Rattle.viz_counted_cells.specs.Sections.{cell_numbers, numbers_of_cells}
use Rattle.viz_counted_cells.specs.Numbered.{first_indices, behind_first}
use Rattle.viz_mesh_read.specs.Poly.{ByKind, numbers_by_kind}
use Rattle.viz_mesh_read.specs.Pieces.{pieces_up_to, in_cells, vertices_of, lines_of, triangles_of, pieces_of, pieces_in}
use Rattle.viz_counted_cells.proofs.NumberedLemmas.{behind_cell}

-- ---- the pieces of a cell

pub pieces-on : (f : ℕ → List (List ℕ)) (before now after : List (List ℕ)) (i : ℕ) → now ≡ before ++ pieces_up_to f i → after ≡ now ++ f i → after ≡ before ++ pieces_up_to f (i + 1)
pieces-on f before now after i e a =
    let n : i + 1 ≡ suc i = add-one i in
    rw (n, a, e) (append_assoc before (pieces_up_to f i) (f i))

pub pieces-done : (f : ℕ → List (List ℕ)) (before now : List (List ℕ)) (i n : ℕ) → n ≤ i → i ≤ n → now ≡ before ++ pieces_up_to f i → now ≡ before ++ pieces_up_to f n
pieces-done f before now i n le ge e = let same : n ≡ i = omega arith in rw same e

-- ---- the pieces of cells

pub cells-on : (f : List ℕ → List (List ℕ)) (count i : ℕ) (before after : List (List ℕ)) (numbers indices behind : List ℕ) (total : List (List ℕ)) → i < count → indices ≡ first_indices numbers → behind ≡ behind_first numbers → after ≡ before ++ f indices
    → before ++ in_cells f (count - i) numbers ≡ total → after ++ in_cells f (count - (i + 1)) behind ≡ total
cells-on f count i before after numbers indices behind total lt e b a so_far =
    let n : count - i ≡ suc (count - (i + 1)) = omega arith in
    let one : in_cells f (count - i) numbers ≡ f (first_indices numbers) ++ in_cells f (count - (i + 1)) (behind_first numbers) = rw n refl in
    rw (a, b, e) (append_assoc before (f (first_indices numbers)) (in_cells f (count - (i + 1)) (behind_first numbers)) ∙ sym (ap (λ (xs : List (List ℕ)). before ++ xs) one) ∙ so_far)

pub cells-done : (f : List ℕ → List (List ℕ)) (count i : ℕ) (before : List (List ℕ)) (numbers : List ℕ) (total : List (List ℕ)) → count ≤ i → before ++ in_cells f (count - i) numbers ≡ total → before ≡ total
cells-done f count i before numbers total le so_far =
    let n : count - i ≡ 0 = omega arith in
    let one : before ++ in_cells f (count - i) numbers ≡ before = rw n (append-nil before) in
    sym one ∙ so_far

-- ---- the cells that the numbers are of

take_front : (xs ys : List ℕ) → take (length xs) (xs ++ ys) ≡ xs
take_front [] ys = refl
take_front (x ∷ xs) ys = ap (λ (zs : List ℕ). x ∷ zs) (take_front xs ys)

pub in_cells-list : (f : List ℕ → List (List ℕ)) (cells : List (List ℕ)) → in_cells f (length cells) (numbers_of_cells cells) ≡ flat_map f cells
in_cells-list f [] = refl
in_cells-list f (cell ∷ cells) =
    ap (λ (xs : List ℕ). f xs ++ in_cells f (length cells) (behind_first (cell_numbers cell ++ numbers_of_cells cells))) (take_front cell (numbers_of_cells cells))
    ∙ ap (λ (xs : List ℕ). f cell ++ in_cells f (length cells) xs) (behind_cell cell (numbers_of_cells cells))
    ∙ ap (λ (xs : List (List ℕ)). f cell ++ xs) (in_cells-list f cells)

pub pieces_in-list : (all : ByKind (List (List ℕ))) → pieces_in (numbers_by_kind all) ≡ pieces_of all
pieces_in-list all =
    rw (in_cells-list vertices_of all.vertices, in_cells-list lines_of all.lines, in_cells-list (triangles_of false) all.polygons, in_cells-list (triangles_of true) all.strips) refl
