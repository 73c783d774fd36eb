-- The number by which a request at a node is found. Only private contracts and proofs speak of it.
use Rattle.std.specs.Prelude.{ℕ, ◌+◌, ◌*◌}
use Rattle.viz_parts.specs.declared.request.Request.{Request}
use Rattle.viz_parts.specs.declared.request.Request.TheVariants.{Block, Piece}

-- the number of a piece
abbrev pub piece_of : Request → ℕ
piece_of (Block e) = 0
piece_of (Piece p n ghosts) = p

-- the number of a request at a node, which what is the same or serves it has too
abbrev pub number_of : ℕ → Request → ℕ
number_of id request = id * 64 + piece_of request
