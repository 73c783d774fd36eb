-- The requests of an update in so many pieces (VTK User's Guide, "Streaming").
use Rattle.std.specs.Prelude.{ℕ, List, [], ◌∷◌, map, Option, None, Some}
use Rattle.std.specs.List.{flat_map, range_with_len}
use Rattle.std.specs.Option.{option_map_or}
use Rattle.viz_extent.specs.Extent.{Bounds}
use Rattle.viz_extent.specs.Slabs.{slab_of}
use Rattle.viz_parts.specs.declared.request.Request.{Request}
use Rattle.viz_parts.specs.declared.request.Request.TheVariants.{Block, Piece}

-- the block of a slab, if there is one
abbrev pub slab_request : Option Bounds → List Request
slab_request slab = option_map_or (λ b. Block b ∷ []) slab []

-- of an image the slabs that there are, of a mesh the pieces without ghost levels, in turn
abbrev pub requests_of : Option Bounds → ℕ → List Request
requests_of (Some whole) n = flat_map (λ p. slab_request (slab_of p n whole)) (range_with_len 0 n)
requests_of None n = map (λ p. Piece p n 0) (range_with_len 0 n)
