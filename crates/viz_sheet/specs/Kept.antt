-- Some items of a list, kept by marks, and the rank that a kept item then has.
use Rattle.std.specs.Prelude.{◌≡◌, ◌↔◌, ℕ, Bool, true, false, nat_eq, List, [], ◌∷◌, length, map}
use Rattle.std.specs.Prelude.{take, Contains, count_by, slice_index_or, if◌then◌else◌}
use Rattle.std.specs.List.{flat_map, list_any, range_with_len}
use Rattle.viz_fraction.specs.Points.{Point}
use Rattle.viz_sheet.specs.Sheet.{SheetData}
use Rattle.viz_sheet.specs.Ranked.{AreCells, AreRanks, by_names}

-- the marked items
abbrev pub kept : {X : Type 0} → List Bool → List X → List X
kept [] xs = []
kept (m ∷ ms) [] = []
kept (m ∷ ms) (x ∷ xs) = if m then x ∷ kept ms xs else kept ms xs

-- how many marked items stand before one: its rank among them
abbrev pub kept_rank : List Bool → ℕ → ℕ
kept_rank marks r = count_by (λ m. m) (take r marks)

-- cells by the ranks that marked names have among themselves
abbrev pub renumbered : List Bool → List (List ℕ) → List (List ℕ)
renumbered marks cells = map (λ cell. map (kept_rank marks) cell) cells

-- of so many ranks, just those of the cells are marked
pub record AreMarks (count : ℕ) (cells : List (List ℕ)) (marks : List Bool) : Type 0 where
  pub size : length marks ≡ count
  pub each : (r : ℕ) → (slice_index_or marks r false ≡ true)
      ↔ Contains (flat_map (λ cell. cell) cells) r

-- whether a cell has this rank
abbrev pub is_used : List (List ℕ) → ℕ → Bool
is_used cells r = list_any (nat_eq r) (flat_map (λ cell. cell) cells)

-- of so many ranks, marks of those that the cells have
abbrev pub used_marks : ℕ → List (List ℕ) → List Bool
used_marks count cells = map (is_used cells) (range_with_len 0 count)

-- the sheet of cells by ranks: the names that they have, with their points
abbrev pub sheet_with : List (List ℕ) → List Point → List (List ℕ) → SheetData
sheet_with names points cells = record {
  names = kept (used_marks (length names) cells) names;
  points = kept (used_marks (length names) cells) points;
  cells = by_names names cells;
}

-- with the marked names alone it is a sheet, of the same cells by names
pub record IsCompacted (names : List (List ℕ)) (points : List Point) (cells : List (List ℕ))
    (marks : List Bool) : Type 0 where
  pub sheet : AreRanks (kept marks names) (kept marks points) (renumbered marks cells)
  pub same : by_names (kept marks names) (renumbered marks cells) ≡ by_names names cells

-- that holds of any cells and the marks of their ranks
abbrev pub MarksCompact : Type 0
MarksCompact =
    (names : List (List ℕ)) (points : List Point) (cells : List (List ℕ)) (marks : List Bool)
    → AreCells names points cells
    → AreMarks (length names) cells marks → IsCompacted names points cells marks

-- some of the cells are cells of the same names, and by names they are some of those by names
pub record AreSomeCells (names : List (List ℕ)) (points : List Point) (cells : List (List ℕ))
    (keeps : List Bool) : Type 0 where
  pub rule : AreCells names points (kept keeps cells)
  pub same : by_names names (kept keeps cells) ≡ kept keeps (by_names names cells)

-- that holds of any marks of the cells
abbrev pub KeptCellsAreCells : Type 0
KeptCellsAreCells =
    (names : List (List ℕ)) (points : List Point) (cells : List (List ℕ)) (keeps : List Bool)
    → AreCells names points cells
    → AreSomeCells names points cells keeps
