-- The layer that a cell of a section lies in, by its leaves: words of private contracts alone.
use Rattle.std.specs.Prelude.{ℕ, ◌-◌, ◌^◌, List, [], ◌∷◌, min}
use Rattle.std.specs.List.{flat_map}
use Rattle.viz_extent.specs.Extent.{Bounds}
use Rattle.viz_piece_layers.specs.Layers.{distance, plane_of}

-- the least of some leaves, which are below 2^31
abbrev pub least_of : List ℕ → ℕ
least_of [] = 2 ^ 31 - 1
least_of (leaf ∷ leaves) = min leaf (least_of leaves)

-- the least leaf of a cell's names
abbrev pub least_leaf : List (List ℕ) → ℕ
least_leaf cell = least_of (flat_map (λ n. n) cell)

-- how far the layer of cubes that a cell begins in is from the layers from first on, up to next
abbrev pub cell_level : ℕ → ℕ → Bounds → List (List ℕ) → ℕ
cell_level first next whole cell = distance first next (plane_of whole (least_leaf cell))
