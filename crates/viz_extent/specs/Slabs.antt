-- Slabs and layers of an extent, across z, in shares that follow each other (VTK User's Guide,
-- "Streaming").
use Rattle.std.specs.Prelude.{◌≡◌, ℕ, ◌+◌, ◌-◌, ◌*◌, ◌/◌, ◌<◌, Option, Some, None, List, []}
use Rattle.std.specs.Prelude.{flat_map, nat_lt, min, if◌then◌else◌}
use Rattle.std.specs.List.{range_with_len}
use Rattle.viz_extent.specs.Extent.{Bounds, size_z}

-- of a count in so many shares, where one begins: its part of the count, rounded down
abbrev pub share_begin : ℕ → ℕ → ℕ → ℕ
share_begin shares count share = share * count / shares

-- the extent from one plane to another, both counted from the lowest one
abbrev pub planes : ℕ → ℕ → Bounds → Bounds
planes first last b =
    record { x0 = b.x0; x1 = b.x1; y0 = b.y0; y1 = b.y1; z0 = b.z0 + first; z1 = b.z0 + last }

-- slab p of n: the planes of its share, if there are any
abbrev pub slab_of : ℕ → ℕ → Bounds → Option Bounds
slab_of p n b =
    let first = share_begin n (size_z b) p in
    let next = share_begin n (size_z b) (p + 1) in
    if nat_lt first next then Some (planes first (next - 1) b) else None

-- how many layers of cubes lie between the planes
abbrev pub layer_count : Bounds → ℕ
layer_count b = b.z1 - b.z0

-- the first layer of piece p of n, and the one after its last
abbrev pub first_layer : ℕ → ℕ → Bounds → ℕ
first_layer p n b = share_begin n (layer_count b) p

abbrev pub next_layer : ℕ → ℕ → Bounds → ℕ
next_layer p n b = share_begin n (layer_count b) (p + 1)

-- the planes that layers and so many more at both sides touch, as far as the whole reaches
abbrev pub touched : ℕ → ℕ → ℕ → Bounds → Bounds
touched first next ghosts b = planes (first - ghosts) (min (layer_count b) (next + ghosts)) b

-- the planes of the layers of piece p of n and of so many more at both sides, if the piece has
-- layers
abbrev pub layers_of : ℕ → ℕ → ℕ → Bounds → Option Bounds
layers_of p n ghosts b =
    let first = first_layer p n b in
    let next = next_layer p n b in
    if nat_lt first next then Some (touched first next ghosts b) else None

-- the planes that an extent has along z
abbrev pub planes_in : Option Bounds → List ℕ
planes_in (Some b) = range_with_len b.z0 (size_z b)
planes_in None = []

-- the layers that it has, by the planes below them
abbrev pub layers_in : Option Bounds → List ℕ
layers_in (Some b) = range_with_len b.z0 (layer_count b)
layers_in None = []

-- the slabs that there are, in turn, have each plane of the whole once, in order
abbrev pub SlabsAreAll : Type 0
SlabsAreAll =
    (b : Bounds) (n : ℕ) → 0 < n
    → flat_map (λ p. planes_in (slab_of p n b)) (range_with_len 0 n) ≡ planes_in (Some b)

-- and the own layers of all pieces in turn each layer
abbrev pub LayersAreAll : Type 0
LayersAreAll =
    (b : Bounds) (n : ℕ) → 0 < n
    → flat_map (λ p. layers_in (layers_of p n 0 b)) (range_with_len 0 n) ≡ layers_in (Some b)
