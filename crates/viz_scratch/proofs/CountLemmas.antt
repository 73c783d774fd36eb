-- The cells of one sheet more.
use Rattle.std.proofs.Common.{◌≡◌, ℕ, zero, suc, ◌+◌, ◌<◌, ◌≤◌, arith, List, [], ◌∷◌, ◌++◌, length, get_or, take, refl, sym, ap, ap₂, ◌∙◌}
use Rattle.std.specs.List.{flat_map}
use Rattle.std.proofs.lemmas.List.{length-map, length-append, flat_map_more, take_more}
use Rattle.viz_sheet.specs.Sheet.{SheetData}
use Rattle.viz_sheet.specs.Ranked.{ranks_of}
use Rattle.viz_mesh_write.specs.Cells.{moved, indices_in, cells_from, cells_of, points_of}

flat_take : {X Y : Type 0} (f : X → List Y) (xs : List X) (i : ℕ) (x : X) → i < length xs → x ≡ get_or xs i x → flat_map f (take (i + 1) xs) ≡ flat_map f (take i xs) ++ f x
flat_take {X} f xs i x lt is =
    ap (flat_map f) (take_more xs i x lt ∙ ap (λ (y : X). take i xs ++ y ∷ []) (sym is)) ∙ sym (flat_map_more f [] (take i xs) x)

-- as many cells by indices as by names
length_cells : (first : ℕ) (sheets : List SheetData) → length (cells_from first sheets) ≡ length (flat_map (λ (s : SheetData). s.cells) sheets)
length_cells first [] = refl
length_cells first (s ∷ sheets) =
    length-append (indices_in first s) (cells_from (first + length s.points) sheets)
    ∙ ap₂ (λ (a b : ℕ). a + b) (length-map s.cells (λ (cell : List (List ℕ)). moved first (ranks_of s.names cell))) (length_cells (first + length s.points) sheets)
    ∙ sym (length-append s.cells (flat_map (λ (t : SheetData). t.cells) sheets))

-- the cells of one sheet more are counted
pub cells_more : (sheets : List SheetData) (i : ℕ) (s : SheetData) → i < length sheets → s ≡ get_or sheets i s → length (cells_of (take (i + 1) sheets)) ≡ length (cells_of (take i sheets)) + length s.cells
cells_more sheets i s lt is =
    let f : SheetData → List (List (List ℕ)) = λ (t : SheetData). t.cells in
    length_cells 0 (take (i + 1) sheets) ∙ ap (λ (cs : List (List (List ℕ))). length cs) (flat_take f sheets i s lt is) ∙ length-append (flat_map f (take i sheets)) s.cells
    ∙ ap (λ (k : ℕ). k + length s.cells) (sym (length_cells 0 (take i sheets)))

flat_below : {X Y : Type 0} (f : X → List Y) (i : ℕ) (xs : List X) → length (flat_map f (take i xs)) ≤ length (flat_map f xs)
flat_below f zero xs = omega arith
flat_below f (suc i) [] = omega arith
flat_below f (suc i) (x ∷ xs) = omega (arith, length-append (f x) (flat_map f (take i xs)), length-append (f x) (flat_map f xs), flat_below f i xs)

-- the first sheets have no more cells than all
pub cells_below : (i : ℕ) (sheets : List SheetData) → length (cells_of (take i sheets)) ≤ length (cells_of sheets)
cells_below i sheets =
    let f : SheetData → List (List (List ℕ)) = λ (t : SheetData). t.cells in
    omega (arith, length_cells 0 (take i sheets), length_cells 0 sheets, flat_below f i sheets)

-- the same of points
pub points_below : (i : ℕ) (sheets : List SheetData) → length (points_of (take i sheets)) ≤ length (points_of sheets)
points_below i sheets = flat_below (λ (s : SheetData). s.points) i sheets

-- the points of one sheet more are counted
pub points_more : (sheets : List SheetData) (i : ℕ) (s : SheetData) → i < length sheets → s ≡ get_or sheets i s → length (points_of (take (i + 1) sheets)) ≡ length (points_of (take i sheets)) + length s.points
points_more sheets i s lt is =
    ap (λ ps. length ps) (flat_take (λ (t : SheetData). t.points) sheets i s lt is) ∙ length-append (points_of (take i sheets)) s.points
