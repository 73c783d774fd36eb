-- What a piece of an image asks for: the planes that its layers of cubes touch (VTK User's Guide,
-- "Streaming").
use Rattle.std.specs.Prelude.{ℕ, Option, Some, None}
use Rattle.viz_extent.specs.Extent.{Bounds}
use Rattle.viz_extent.specs.Slabs.{layers_of, planes}

-- some planes of an extent, or its lowest one
abbrev pub or_lowest : Bounds → Option Bounds → Bounds
or_lowest b (Some some) = some
or_lowest b None = planes 0 0 b

-- the planes that piece p of n asks for: those that its layers and so many more at both sides
-- touch; a piece without layers asks for the lowest plane
abbrev pub asked : ℕ → ℕ → ℕ → Bounds → Bounds
asked p n ghosts b = or_lowest b (layers_of p n ghosts b)
