-- Cells of names of one leaf fit.
use Rattle.std.proofs.Common.{◌≡◌, ℕ, ◌<◌, ◌≤◌, [], ◌∷◌, List, length, sym, subst, ap, arith}
use Rattle.std.specs.List.{All}
use Rattle.std.specs.Prelude.{slice_index_or}
use Rattle.std.proofs.lemmas.List.{length-map}
use Rattle.std.proofs.lemmas.List.Elements.{All-map, All-weaker}
use Rattle.std.proofs.lemmas.List.FromFn.{get_or-map-range_with_len}
use Rattle.viz_fraction.specs.Points.{Point}
use Rattle.viz_sheet.specs.Kept.{sheet_with}
use Rattle.viz_sheet.specs.Ranked.{IsCell, leaf_names, names_at}
use Rattle.viz_sheet.specs.Sheet.{IsFit, most_names}

-- the name at a rank has one leaf
leaf_at : (count r : ℕ) → r < count → slice_index_or (leaf_names count) r [] ≡ r ∷ []
leaf_at count r h = get_or-map-range_with_len (λ leaf. leaf ∷ []) 0 count r r [] h (omega arith)

-- a name of one leaf allows cells of 4
allowed : (k : ℕ) (n : List ℕ) → k ≤ 4 → length n ≡ 1 → k ≤ most_names (length n)
allowed k n h e = subst (λ (m : ℕ). k ≤ most_names m) (sym e) h

fit_cell : (count : ℕ) (cell : List ℕ) → IsCell count cell → All (λ n. length (names_at (leaf_names count) cell) ≤ most_names (length n)) (names_at (leaf_names count) cell)
fit_cell count cell c =
    let names = leaf_names count in
    let size : length (names_at names cell) ≡ length cell = length-map cell (λ r. slice_index_or names r []) in
    let most : length (names_at names cell) ≤ 4 = subst (λ (k : ℕ). k ≤ 4) (sym size) c.most in
    All-map (λ (n : List ℕ). length (names_at names cell) ≤ most_names (length n)) (λ r. slice_index_or names r []) cell
    (All-weaker (λ r. r < count) (λ r. length (names_at names cell) ≤ most_names (length (slice_index_or names r [])))
    (λ r h. allowed (length (names_at names cell)) (slice_index_or names r []) most (ap length (leaf_at count r h))) cell c.below)

pub leaf_sheet-fits : (count : ℕ) (points : List Point) (cells : List (List ℕ)) → All (IsCell count) cells → IsFit (sheet_with (leaf_names count) points cells)
leaf_sheet-fits count points cells h = record {
  each = All-map (λ (cell : List (List ℕ)). All (λ n. length cell ≤ most_names (length n)) cell) (names_at (leaf_names count)) cells
      (All-weaker (IsCell count) (λ cell. All (λ n. length (names_at (leaf_names count) cell) ≤ most_names (length n)) (names_at (leaf_names count) cell)) (fit_cell count) cells h);
}
