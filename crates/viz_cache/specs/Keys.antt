-- When two keys of kept parts are the same: the same node, stamp and request.
use Rattle.std.specs.Prelude.{Bool, false, ◌&&◌, nat_eq}
use Rattle.std.specs.Cmp.Lexicographic.{pointwise}
use Rattle.viz_extent.specs.Extent.{numbers_of}
use Rattle.viz_parts.specs.declared.request.Request.{Request}
use Rattle.viz_parts.specs.declared.request.Request.TheVariants.{Block, Piece}
use Rattle.viz_parts.specs.declared.stored.Key.{Key}

-- requests for a block of the same six bounds, or for the same piece of as many with as many ghost
-- levels
abbrev pub same_request : Request → Request → Bool
same_request (Block a) (Block b) = pointwise nat_eq (numbers_of a) (numbers_of b)
same_request (Block a) (Piece q m h) = false
same_request (Piece p n g) (Block b) = false
same_request (Piece p n g) (Piece q m h) = nat_eq p q && nat_eq n m && nat_eq g h

-- keys of the same node, stamp and request
abbrev pub same_key : Key → Key → Bool
same_key a b = nat_eq a.node.0 b.node.0 && nat_eq a.stamp b.stamp
    && same_request a.request b.request
