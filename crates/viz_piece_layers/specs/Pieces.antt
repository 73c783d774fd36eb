-- The pieces of an image: layers of cubes from one cut to the next.
use Rattle.std.specs.Prelude.{◌≡◌, ℕ, ◌-◌, ◌*◌, ◌<◌, ◌≤◌, List, [], ◌∷◌, length, map, replicate}
use Rattle.std.specs.Prelude.{take, drop, Bool}
use Rattle.std.specs.List.{flat_map, range_with_len}
use Rattle.viz_extent.specs.Extent.{Bounds, IsExtent, plane_size}
use Rattle.viz_extent.specs.Slabs.{first_layer, next_layer, touched}
use Rattle.viz_kuhn.specs.Cubes.{cubes_z, tetrahedra_of}
use Rattle.viz_piece_layers.specs.Cells.{Cell}
use Rattle.viz_parts.specs.Seen.{Seen, AreSteps, AreSeen}
use Rattle.viz_parts.specs.Seen.{cells_seen, levels_seen, whole_seen, owned_seen}
use Rattle.viz_parts.specs.Pieces.{own_range, AreAll}
use Rattle.viz_piece_layers.specs.Layers.{distance, first_there, last_there, layer_size, layer_tets}
use Rattle.viz_piece_layers.specs.Layers.{layered, shifted}

-- the planes that a piece sees: those that its layers and so many more at both sides touch
abbrev pub seen_planes : ℕ → ℕ → ℕ → Bounds → Bounds
seen_planes p n ghosts b = touched (first_layer p n b) (next_layer p n b) ghosts b

-- how much greater a leaf's number is in the whole than in a part of all points of some planes
abbrev pub leaf_shift : Bounds → Bounds → ℕ
leaf_shift whole part = (part.z0 - whole.z0) * plane_size whole

-- tetrahedra by names: each leaf is a name
abbrev pub named : List (List ℕ) → List Cell
named tets = map (map (λ leaf. leaf ∷ [])) tets

-- the tetrahedra of the whole as the piece sees them
abbrev pub seen_by : ℕ → ℕ → ℕ → Bounds → List Seen
seen_by p n ghosts b =
    layered (λ z. named (layer_tets b z)) (cubes_z b) (first_layer p n b) (next_layer p n b) ghosts

-- the own positions of the piece in the list of all tetrahedra
abbrev pub own_tets : ℕ → Bounds → ℕ → List Bool
own_tets n b p =
    own_range (layer_size b * cubes_z b) (layer_size b * first_layer p n b)
    (layer_size b * next_layer p n b)

-- the first layer that the piece has, and the one after the last
abbrev pub first_seen : ℕ → ℕ → ℕ → Bounds → ℕ
first_seen p n ghosts b = first_there (first_layer p n b) ghosts

abbrev pub last_seen : ℕ → ℕ → ℕ → Bounds → ℕ
last_seen p n ghosts b = last_there (cubes_z b) (next_layer p n b) ghosts

-- the level of each tetrahedron that it has: as many times for each layer as the layer has
-- tetrahedra
abbrev pub piece_levels : ℕ → ℕ → ℕ → Bounds → List ℕ
piece_levels p n ghosts b =
    flat_map (λ z. replicate (layer_size b) (distance (first_layer p n b) (next_layer p n b) z))
    (range_with_len (first_seen p n ghosts b) (last_seen p n ghosts b - first_seen p n ghosts b))

-- the piece is a part of the whole, and the tetrahedra that it has are those of its planes, with
-- the leaves of the whole
pub record IsPiece (p n ghosts : ℕ) (b : Bounds) : Type 0 where
  pub rule : AreSeen ghosts (seen_by p n ghosts b)
  pub whole : whole_seen (seen_by p n ghosts b) ≡ named (tetrahedra_of b)
  pub owned : owned_seen (seen_by p n ghosts b) ≡ own_tets n b p
  pub cells :
      cells_seen (seen_by p n ghosts b)
      ≡ named (shifted (leaf_shift b (seen_planes p n ghosts b))
      (tetrahedra_of (seen_planes p n ghosts b)))
  pub levels : levels_seen (seen_by p n ghosts b) ≡ piece_levels p n ghosts b

abbrev pub PiecesAreParts : Type 0
PiecesAreParts = (b : Bounds) (p n ghosts : ℕ) → IsExtent b → p < n → IsPiece p n ghosts b

-- with no more pieces than layers, each owns some
abbrev pub EachOwnsSome : Type 0
EachOwnsSome = (b : Bounds) (p n : ℕ) → 0 < n → n ≤ cubes_z b → first_layer p n b < next_layer p n b

-- a piece that owns layers has just the tetrahedra that so many steps reach from its own ones
abbrev pub PiecesGoBySteps : Type 0
PiecesGoBySteps =
    (b : Bounds) (p n ghosts : ℕ) → p < n → first_layer p n b < next_layer p n b
    → AreSteps (seen_by p n ghosts b)

-- what the piece sees is a range of the list of all tetrahedra
abbrev pub PiecesAreRanges : Type 0
PiecesAreRanges =
    (b : Bounds) (p n ghosts : ℕ) → IsExtent b → p < n
    → shifted (leaf_shift b (seen_planes p n ghosts b)) (tetrahedra_of (seen_planes p n ghosts b))
    ≡ take (layer_size b * (last_seen p n ghosts b - first_seen p n ghosts b))
    (drop (layer_size b * first_seen p n ghosts b) (tetrahedra_of b))

-- the own positions of all pieces in turn are all positions
abbrev pub OwnsAreAll : Type 0
OwnsAreAll =
    (b : Bounds) (n : ℕ) → 0 < n
    → AreAll (length (tetrahedra_of b)) (map (own_tets n b) (range_with_len 0 n))
