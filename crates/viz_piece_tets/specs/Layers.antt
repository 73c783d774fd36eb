-- The ghost level of each layer of cubes in a block: how far it is from the piece's own layers
-- (VTK User's Guide, "Streaming").
use Rattle.std.specs.Prelude.{ℕ, ◌-◌, List, replicate}
use Rattle.std.specs.List.{flat_map, range_with_len}
use Rattle.viz_extent.specs.Extent.{Bounds}
use Rattle.viz_extent.specs.Slabs.{first_layer, next_layer}
use Rattle.viz_piece_layers.specs.Layers.{distance, layer_size}

-- the levels of layers from one on, up to another, that have so many cells each, where the own
-- layers are those from first on, up to next
abbrev pub levels_between : ℕ → ℕ → ℕ → ℕ → ℕ → List ℕ
levels_between first next size low high =
    flat_map (λ z. replicate size (distance first next z)) (range_with_len low (high - low))

-- the level of each tetrahedron in a block of whole planes, for piece p of n of the whole
abbrev pub block_levels : ℕ → ℕ → Bounds → Bounds → List ℕ
block_levels p n whole block =
    levels_between (first_layer p n whole) (next_layer p n whole) (layer_size whole)
    (block.z0 - whole.z0) (block.z1 - whole.z0)
