-- The keys of cut edges: one for each inside and each outside corner of a cell.
use Rattle.std.specs.Prelude.{◌≡◌, ℕ, Bool, List, length, map}
use Rattle.std.specs.List.{flat_map}
use Rattle.viz_sheet.specs.Ranked.{IsCell}
use Rattle.viz_cells.specs.Steps.Keys.{key_of}
use Rattle.viz_clip.specs.Steps.Corners.{inside_of, outside_of}

-- the keys between inside and outside corners
abbrev pub cut_keys : List ℕ → List ℕ → List ℕ
cut_keys first last = flat_map (λ i. map (key_of i) last) first

-- those of a cell
unfoldable pub keys_in : List Bool → List ℕ → List ℕ
keys_in inside cell = cut_keys (inside_of inside cell) (outside_of inside cell)

-- those of each cell
abbrev pub cell_keys : List Bool → List (List ℕ) → List (List ℕ)
cell_keys inside cells = map (keys_in inside) cells

-- a cell by ranks is a tetrahedron
pub record IsTet (count : ℕ) (ranks : List ℕ) : Type 0 where
  pub cell : IsCell count ranks
  pub four : length ranks ≡ 4
