-- Mixed cubes: those that a contour cuts, with a corner at or above the level and one below (Doi
-- and Koide 1991).
use Rattle.std.specs.Prelude.{ℕ, ℤ, ◌&&◌, Bool, false, not, List, map, slice_index_or}
use Rattle.std.specs.List.{list_all, list_any, range_with_len}
use Rattle.viz_dataset.specs.Images.{ImageData}
use Rattle.viz_extent.specs.Extent.{Bounds}
use Rattle.viz_grid_section.specs.ImageSection.{insides}
use Rattle.viz_grid_section.specs.Steps.Rows.{eight_from}
use Rattle.viz_kuhn.specs.Corners.{Corner, corner_of}
use Rattle.viz_kuhn.specs.Cubes.{all_lowest, leaves_of}
use Rattle.viz_kuhn.specs.Places.{Place}

-- the eight corners of a cube
abbrev pub eight_corners : List Corner
eight_corners = map corner_of (range_with_len 0 8)

-- which corners of the cube whose lowest corner lies at a place are inside
abbrev pub corner_flags : Bounds → List Bool → Place → List Bool
corner_flags b inside lowest = map (λ leaf. slice_index_or inside leaf false)
    (leaves_of b lowest eight_corners)

-- one of some corners is inside, and not all are
abbrev pub is_mixed : List Bool → Bool
is_mixed flags = list_any (λ f. f) flags && not (list_all (λ f. f) flags)

-- of each cube of an extent, in their order, whether it is mixed
abbrev pub mixed_cubes : Bounds → List Bool → List Bool
mixed_cubes b inside = map (λ lowest. is_mixed (corner_flags b inside lowest)) (all_lowest b)

-- of each cube of an image: a corner is inside where its number is at least the level
abbrev pub mixed_at : ℤ → ImageData → List Bool
mixed_at level image = mixed_cubes image.extent (insides level image.values.items)

-- which corners of a cube are inside, by the number of its lowest leaf, where a row and a plane of
-- points are so long
abbrev pub corners_from : List Bool → ℕ → ℕ → ℕ → List Bool
corners_from inside row plane lowest = map (λ leaf. slice_index_or inside leaf false)
    (eight_from lowest row plane)

-- whether the cube is mixed
abbrev pub mixed_from : List Bool → ℕ → ℕ → ℕ → Bool
mixed_from inside row plane lowest = is_mixed (corners_from inside row plane lowest)
