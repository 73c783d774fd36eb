-- Which kept request serves a wanted one (VTK User's Guide, "Streaming").
use Rattle.std.specs.Prelude.{◌≡◌, Bool, true, false, ◌&&◌, ◌||◌, nat_eq, nat_le, Option}
use Rattle.viz_extent.specs.Extent.{Bounds}
use Rattle.viz_parts.specs.declared.request.Request.{Request}
use Rattle.viz_parts.specs.declared.request.Request.TheVariants.{Block, Piece}

-- whether a part lies in an extent
abbrev pub has_block : Bounds → Bounds → Bool
has_block whole part =
    (nat_le whole.x0 part.x0 && nat_le part.x1 whole.x1)
    && ((nat_le whole.y0 part.y0 && nat_le part.y1 whole.y1)
    && (nat_le whole.z0 part.z0 && nat_le part.z1 whole.z1))

-- whether a kept request serves a wanted one: a block each block in it, and a piece itself with as
-- many ghost levels or fewer, or with any where it is the only one
abbrev pub serves : Request → Request → Bool
serves (Block kept) (Block wanted) = has_block kept wanted
serves (Piece p n ghosts) (Piece q m fewer) = (nat_eq p q && nat_eq n m)
    && (nat_le fewer ghosts || nat_eq n 1)
serves _ _ = false

-- a request serves itself
abbrev pub ServesItself : Type 0
ServesItself = (r : Request) → serves r r ≡ true

-- what serves a request serves all that this one serves
abbrev pub ServesOn : Type 0
ServesOn = (a b c : Request) → serves a b ≡ true → serves b c ≡ true → serves a c ≡ true
