-- A sheet that fits has keys only where its names have at most 4 leaves.
use Rattle.std.proofs.Common.{◌≡◌, ℕ, ◌<◌, ◌≤◌, Bool, List, [], length, get_or, map, sym, ap, subst, ◌∙◌, arith}
use Rattle.std.specs.List.{All}
use Rattle.std.proofs.lemmas.Bool.Decides.{nat_tests}
use Rattle.std.proofs.lemmas.List.{get_or-map, length-map}
use Rattle.viz_fraction.specs.declared.forms.Form.{Form}
use Rattle.viz_fraction.specs.Cases.{cells_at}
use Rattle.viz_sheet.specs.Sheet.{SheetData, IsFit, most_names}
use Rattle.viz_sheet.specs.Ranked.{IsCell, by_names, names_at}
use Rattle.viz_cells.specs.Steps.Pieces.{corner_mask, end_key, keys_in, pieces_of}
use Rattle.viz_cells.specs.Steps.Numbered.{AreKeysOf}
use Rattle.viz_cells.proofs.EdgeLemmas.{case-of, flags_of}
use Rattle.viz_meaning.proofs.EndLemmas.{two_corners}
use Rattle.viz_meaning.proofs.ListLemmas.{all-map}
use Rattle.viz_cells.proofs.NamedLemmas.{all-keys, all-pieces_of}

-- names of which a cell may have two have at most 4 leaves
level_of : (size : ℕ) → 2 ≤ most_names size → size ≤ 4
level_of size h = grind (arith, nat_tests)

-- a cell isn't too large for its names
abbrev pub FitsCell : List (List ℕ) → Type 0
FitsCell cell = All (λ n. length cell ≤ most_names (length n)) cell

-- a cell with a key has two corners
cell-level : (size : ℕ) (names : List (List ℕ)) (inside : List Bool) (cell : List ℕ) → All (λ n. length n ≡ size) names → IsCell (length names) cell → FitsCell (names_at names cell)
    → All (All (λ k. size ≤ 4)) (keys_in inside cell)
unfolding keys_in
cell-level size names inside cell sized h fit =
    let at = λ (r : ℕ). get_or names r [] in
    let m = corner_mask inside cell in
    let ends = cells_at (length cell) m in
    let count : length (names_at names cell) ≡ length cell = length-map cell at in
    all-map (All (λ k. size ≤ 4)) (map (end_key cell)) ends (λ k d l.
    let two : 2 ≤ length cell = two_corners (length cell) m k (case-of inside (length names) cell h) l in
    let is : length (get_or (names_at names cell) 0 []) ≡ size =
    ap length (get_or-map at cell 0 0 [] (omega arith)) ∙ sized (get_or cell 0 0) [] (h.below 0 0 (omega arith)) in
    let room : length cell ≤ most_names size =
    subst (λ n. length cell ≤ most_names n) is (subst (λ n. n ≤ most_names (length (get_or (names_at names cell) 0 []))) count (fit 0 [] (omega arith))) in
    λ i e il. level_of size (omega (arith, two, room)))

pub level : (size : ℕ) (f : Form) (s : SheetData) (cells pieces : List (List ℕ)) (keys : List ℕ) → All (IsCell (length s.names)) cells → by_names s.names cells ≡ s.cells
    → All (λ n. length n ≡ size) s.names → pieces ≡ pieces_of (flags_of f s.points) cells → AreKeysOf pieces keys → IsFit s → 1 ≤ length keys
    → All (λ n. length n ≤ 4) s.names
level size f s cells pieces keys valid same sized is of fit some =
    let flags = flags_of f s.points in
    let fits : All FitsCell (by_names s.names cells) = subst (All FitsCell) (sym same) fit.each in
    let each : All (All (λ k. size ≤ 4)) (pieces_of flags cells) =
    all-pieces_of (All (λ k. size ≤ 4)) flags cells (λ k d l.
    cell-level size s.names flags (get_or cells k d) sized (valid k d l)
    (subst FitsCell (get_or-map (names_at s.names) cells k d [] l) (fits k [] (subst (λ n. k < n) (sym (length-map cells (names_at s.names))) l)))) in
    let four : size ≤ 4 = all-keys (λ k. size ≤ 4) pieces keys of (subst (All (All (λ k. size ≤ 4))) (sym is) each) 0 0 some in
    λ k d l. subst (λ n. n ≤ 4) (sym (sized k d l)) four
