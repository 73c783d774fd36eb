-- Layers of cubes across z, with their tetrahedra, and cells by layers as parts.
use Rattle.std.specs.Prelude.{◌≡◌, ℕ, ◌+◌, ◌-◌, ◌*◌, ◌/◌, ◌<◌, ◌≤◌, Option, Some, None, List}
use Rattle.std.specs.Prelude.{length, map, take, drop, Contains, cond, nat_le, min}
use Rattle.std.specs.List.{flat_map, range_with_len}
use Rattle.viz_extent.specs.Extent.{Bounds, size_x, size_y, plane_size}
use Rattle.viz_extent.specs.Parts.{AreNear}
use Rattle.viz_extent.specs.Slabs.{planes}
use Rattle.viz_kuhn.specs.Cubes.{cubes_x, cubes_y, cubes_z, lowest_in_layer, six_at, tetrahedra_of}
use Rattle.viz_piece_layers.specs.Cells.{Cell}
use Rattle.viz_parts.specs.Seen.{Seen, AreSteps, Meet, AreSeen, seen_as, cells_seen, levels_seen}
use Rattle.viz_parts.specs.Seen.{whole_seen, owned_seen}
use Rattle.viz_parts.specs.Pieces.{own_range}

-- ---- tetrahedra by layers

-- the tetrahedra of the cubes in a layer, counted from the extent's lowest one
abbrev pub layer_tets : Bounds → ℕ → List (List ℕ)
layer_tets b z = flat_map (six_at b) (lowest_in_layer b (b.z0 + z))

-- of the layers from low up to high
abbrev pub tets_in : Bounds → ℕ → ℕ → List (List ℕ)
tets_in b low high = flat_map (layer_tets b) (range_with_len low (high - low))

-- how many tetrahedra a layer has
abbrev pub layer_size : Bounds → ℕ
layer_size b = 6 * (cubes_x b * cubes_y b)

-- the list of all goes layer by layer
abbrev pub GoesByLayers : Type 0
GoesByLayers = (b : Bounds) → tetrahedra_of b ≡ tets_in b 0 (cubes_z b)

-- each layer has as many
abbrev pub LayersAreEven : Type 0
LayersAreEven = (b : Bounds) (z : ℕ) → length (layer_tets b z) ≡ layer_size b

-- so those of some layers in turn are a range of the list
abbrev pub LayersAreRange : Type 0
LayersAreRange =
    (b : Bounds) (low high : ℕ) → low ≤ high → high ≤ cubes_z b
    → tets_in b low high
    ≡ take (layer_size b * (high - low)) (drop (layer_size b * low) (tetrahedra_of b))

-- the number of the plane that a leaf lies on
abbrev pub plane_of : Bounds → ℕ → ℕ
plane_of b leaf = leaf / size_x b / size_y b

-- each leaf of a layer's tetrahedron lies on the plane below the layer or on that above it
abbrev pub LeavesLieBetween : Type 0
LeavesLieBetween =
    (b : Bounds) (z : ℕ) (t : List ℕ) (leaf : ℕ) → z < cubes_z b → Contains (layer_tets b z) t
    → Contains t leaf
    → (z ≤ plane_of b leaf) × (plane_of b leaf ≤ z + 1)

-- tetrahedra that share a leaf lie in one layer or in neighbours
abbrev pub MeetNear : Type 0
MeetNear =
    (b : Bounds) (y z : ℕ) (s t : List ℕ) (leaf : ℕ) → y < cubes_z b → z < cubes_z b
    → Contains (layer_tets b y) s → Contains (layer_tets b z) t
    → Contains s leaf → Contains t leaf → AreNear 1 y z

-- a tetrahedron of a layer that shares a leaf with one
pub record Touching (b : Bounds) (z : ℕ) (t : List ℕ) : Type 0 where
  pub tet : List ℕ
  pub leaf : ℕ
  pub there_is : Contains (layer_tets b z) tet
  pub first : Contains tet leaf
  pub second : Contains t leaf

-- each tetrahedron shares a leaf with one of the layer above
abbrev pub TouchAbove : Type 0
TouchAbove =
    (b : Bounds) (z : ℕ) (t : List ℕ) → z + 1 < cubes_z b → Contains (layer_tets b z) t
    → Touching b (z + 1) t

-- and with one of the layer below
abbrev pub TouchBelow : Type 0
TouchBelow =
    (b : Bounds) (z : ℕ) (t : List ℕ) → z + 1 < cubes_z b → Contains (layer_tets b (z + 1)) t
    → Touching b z t

-- ---- the planes of some layers as an extent

-- tetrahedra with each leaf's number so much greater
abbrev pub shifted : ℕ → List (List ℕ) → List (List ℕ)
shifted by tets = map (map (λ leaf. leaf + by)) tets

-- the tetrahedra of these planes, with the leaves of the whole, are those of the layers
abbrev pub PlanesHaveLayers : Type 0
PlanesHaveLayers =
    (b : Bounds) (low high : ℕ) → low ≤ high → high ≤ cubes_z b
    → shifted (low * plane_size b) (tetrahedra_of (planes low high b)) ≡ tets_in b low high

-- ---- cells by layers as parts

-- how far a layer is from those from low up to high; with no such layer, from the plane between
-- those below and above
abbrev pub distance : ℕ → ℕ → ℕ → ℕ
distance low high z = (low - z) + (z + 1 - high)

-- the level of a layer, where levels go up to the last one
abbrev pub level_of : ℕ → ℕ → Option ℕ
level_of last word = cond (nat_le word last) (Some word) None

-- the cells of so many layers, each with its layer's distance as level
abbrev pub layered : (ℕ → List Cell) → ℕ → ℕ → ℕ → ℕ → List Seen
layered cells count low high ghosts =
    flat_map
    (λ z. map
    (seen_as (nat_le (distance low high z) 0) (level_of ghosts (distance low high z)))
    (cells z))
    (range_with_len 0 count)

-- cells that meet lie in one layer or in neighbours
abbrev pub AreLayered : (ℕ → List Cell) → ℕ → Type 0
AreLayered cells count =
    (y z : ℕ) (a b : Cell) → y < count → z < count → Contains (cells y) a → Contains (cells z) b
    → Meet a b → AreNear 1 y z

-- the first layer that is there, and the one after the last
abbrev pub first_there : ℕ → ℕ → ℕ
first_there low ghosts = low - ghosts

abbrev pub last_there : ℕ → ℕ → ℕ → ℕ
last_there count high ghosts = min count (high + ghosts)

-- the cells of some layers, and the level of each
abbrev pub cells_from : (ℕ → List Cell) → ℕ → ℕ → List Cell
cells_from cells from to = flat_map cells (range_with_len from (to - from))

abbrev pub levels_from : (ℕ → List Cell) → ℕ → ℕ → ℕ → ℕ → List ℕ
levels_from cells low high from to =
    flat_map (λ z. map (λ c. distance low high z) (cells z)) (range_with_len from (to - from))

-- they are a part: its own cells are those of its layers, and those that it has are those of the
-- layers up to so many further
pub record IsLayered (cells : ℕ → List Cell) (count size low high ghosts : ℕ) : Type 0 where
  pub rule : AreSeen ghosts (layered cells count low high ghosts)
  pub whole : whole_seen (layered cells count low high ghosts) ≡ cells_from cells 0 count
  pub owned :
      owned_seen (layered cells count low high ghosts)
      ≡ own_range (size * count) (size * low) (size * high)
  pub cells_there :
      cells_seen (layered cells count low high ghosts)
      ≡ cells_from cells (first_there low ghosts) (last_there count high ghosts)
  pub levels_there :
      levels_seen (layered cells count low high ghosts)
      ≡ levels_from cells low high (first_there low ghosts) (last_there count high ghosts)

abbrev pub LayersArePart : Type 0
LayersArePart =
    (cells : ℕ → List Cell) (count size low high ghosts : ℕ) → low ≤ high → high ≤ count
    → AreLayered cells count
    → ((z : ℕ) → length (cells z) ≡ size) → IsLayered cells count size low high ghosts

-- a cell of a layer that meets one
pub record Meeting (cells : ℕ → List Cell) (z : ℕ) (c : Cell) : Type 0 where
  pub cell : Cell
  pub there_is : Contains (cells z) cell
  pub meet : Meet c cell

-- each cell meets one of the layer above, and one of the layer below
pub record AreLinked (cells : ℕ → List Cell) (count : ℕ) : Type 0 where
  pub above : (z : ℕ) (c : Cell) → z + 1 < count → Contains (cells z) c → Meeting cells (z + 1) c
  pub below : (z : ℕ) (c : Cell) → z + 1 < count → Contains (cells (z + 1)) c → Meeting cells z c

-- then a level is the least number of steps from cell to cell: the cells of each ghost level meet
-- cells of the level before
abbrev pub LevelsAreSteps : Type 0
LevelsAreSteps =
    (cells : ℕ → List Cell) (count low high ghosts : ℕ) → low < high → high ≤ count
    → AreLinked cells count → AreSteps (layered cells count low high ghosts)
