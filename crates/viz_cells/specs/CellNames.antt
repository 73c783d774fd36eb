-- Names of the cells in a cell: those of the edges of it that are cut (docs/FORMATS-OF-FILTERS.md,
-- "Names of a section").
use Rattle.std.specs.Prelude.{◌≡◌, ◌≢◌, ℕ, Bool, List, All, Contains}
use Rattle.std.specs.List.{flat_map}
use Rattle.viz_sheet.specs.Sheet.{IsNamedCell}
use Rattle.viz_meaning.specs.Names.{edge_name}
use Rattle.viz_meaning.specs.Section.{cells_in}

-- a name is that of an edge between two names of a cell, exactly one of which is inside
pub record NamesCutEdge (inside : List ℕ → Bool) (cell : List (List ℕ))
    (name : List ℕ) : Type 0 where
  pub m : List ℕ
  pub n : List ℕ
  pub has_m : Contains cell m
  pub has_n : Contains cell n
  pub apart : inside m ≢ inside n
  pub is : name ≡ edge_name m n

-- each name of the cells in a cell is that of a cut edge of the cell
abbrev pub NamesAreOfTheirCell : Type 0
NamesAreOfTheirCell =
    (inside : List ℕ → Bool) (cell : List (List ℕ)) → IsNamedCell cell
    → All (All (NamesCutEdge inside cell)) (cells_in inside cell)

-- each cut edge of a cell has its name among those of the cells in it
abbrev pub CutEdgesAreNamed : Type 0
CutEdgesAreNamed =
    (inside : List ℕ → Bool) (cell : List (List ℕ)) (name : List ℕ) → IsNamedCell cell
    → NamesCutEdge inside cell name → Contains
    (flat_map (λ piece. piece) (cells_in inside cell)) name
