-- Parts of a sheet joined one after the other.
use Rattle.std.specs.Prelude.{◌≡◌, ℕ, ◌<◌, ◌≤◌, List, [], ◌++◌, length, map, take, All, Contains}
use Rattle.std.specs.Prelude.{slice_index_or}
use Rattle.std.specs.List.{flat_map}
use Rattle.viz_fraction.specs.Points.{Point}
use Rattle.viz_parts.specs.Parts.{PartSheetData}
use Rattle.viz_parts.specs.Stitching.{own_items}
use Rattle.viz_sheet.specs.Ranked.{rank_of, ranks_of}
use Rattle.viz_sheet.specs.Sheet.{SheetData, IsSheet}

-- the own cells of a part, by their ranks among all names
abbrev pub own_ranks : List (List ℕ) → PartSheetData → List (List ℕ)
own_ranks names part = own_items (map (ranks_of names) part.sheet.cells) part.levels

-- all names have those of a part, which is a sheet
pub record IsHeld (names : List (List ℕ)) (part : PartSheetData) : Type 0 where
  pub sheet : IsSheet part.sheet
  pub held : All (Contains names) part.sheet.names

-- at a rank stands the point of a name of one of the parts
abbrev pub IsPointAt : List PartSheetData → List (List ℕ) → List Point → ℕ → Type 0
IsPointAt parts names points r =
    (part : PartSheetData) × Contains parts part × (j : ℕ) × (j < length part.sheet.names)
    × (rank_of names (slice_index_or part.sheet.names j []) ≡ r) × (r < length points)
    × ((d : Point) → slice_index_or points r d ≡ slice_index_or part.sheet.points j d)

-- the points of a part's names are there
abbrev pub HasPoints : List PartSheetData → List (List ℕ) → List Point → PartSheetData → Type 0
HasPoints parts names points part =
    (j : ℕ) → j < length part.sheet.names
    → IsPointAt parts names points (rank_of names (slice_index_or part.sheet.names j []))

-- so many parts are joined: their own cells stand behind those at the start, and the points of
-- their names are there
pub record AreJoined (parts : List PartSheetData) (names : List (List ℕ)) (start : List (List ℕ))
    (count : ℕ) (cells : List (List ℕ)) (points : List Point) : Type 0 where
  pub all_cells : cells ≡ start ++ flat_map (own_ranks names) (take count parts)
  pub size : length points ≤ length names
  pub there : All (HasPoints parts names points) (take count parts)

-- each name of a sheet has the point that it has in one of the parts
abbrev pub HavePoints : List PartSheetData → SheetData → Type 0
HavePoints parts whole =
    (k : ℕ) (d : Point) → k < length whole.names
    → (part : PartSheetData) × Contains parts part × (r : ℕ) × (r < length part.sheet.names)
    × (slice_index_or whole.names k [] ≡ slice_index_or part.sheet.names r [])
    × (slice_index_or whole.points k d ≡ slice_index_or part.sheet.points r d)
