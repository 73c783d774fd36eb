-- The cells of a section by the keys of their ends, and how a `Case` holds them.
use Rattle.std.specs.Prelude.{ℕ, ◌==◌, Bool, false, List, [], ◌∷◌, length, map, take, slice_index}
use Rattle.std.specs.Prelude.{slice_index_or, if◌then◌else◌}
use Rattle.std.specs.List.{flat_map}
use Rattle.viz_fraction.specs.declared.case_table.Case.{Case}
use Rattle.viz_fraction.specs.CaseRows.{End}
use Rattle.viz_fraction.specs.Cases.{cells_at}
use Rattle.viz_meaning.specs.Section.{mask_of}
use Rattle.viz_cells.specs.Steps.Keys.{key_of}

-- the key of the edge between two corners
abbrev pub end_key : List ℕ → End → ℕ
end_key cell e = key_of (slice_index cell e.low) (slice_index cell e.high)

-- which corners of a cell by ranks are inside
abbrev pub corner_mask : List Bool → List ℕ → ℕ
corner_mask inside cell = mask_of (λ r. slice_index_or inside r false) cell

-- the cells in one cell
unfoldable pub keys_in : List Bool → List ℕ → List (List ℕ)
keys_in inside cell = map (map (end_key cell)) (cells_at (length cell) (corner_mask inside cell))

-- the cells in all cells
unfoldable pub pieces_of : List Bool → List (List ℕ) → List (List ℕ)
pieces_of inside cells = flat_map (keys_in inside) cells

-- the key of an end of a `Case`
abbrev pub number_key : List ℕ → List ℕ → ℕ
number_key cell end = key_of (slice_index cell (slice_index end 0))
    (slice_index cell (slice_index end 1))

-- the first so many of three ends
abbrev pub held_from : List ℕ → ℕ → List ℕ → List ℕ → List ℕ → List ℕ
held_from cell size p q r = take size
    (number_key cell p ∷ number_key cell q ∷ number_key cell r ∷ [])

-- the cell of a `Case` from an end on
abbrev pub held_at : List ℕ → Case → ℕ → ℕ → ℕ → List ℕ
held_at cell c i j k =
    held_from cell c.size (slice_index_or c.ends i []) (slice_index_or c.ends j [])
    (slice_index_or c.ends k [])

-- the cells that a `Case` holds
abbrev pub held : List ℕ → Case → List (List ℕ)
held cell c =
    if c.count == 0 then []
    else if c.count == 1 then held_at cell c 0 1 2 ∷ []
    else held_at cell c 0 1 2 ∷ held_at cell c 3 4 5 ∷ []
