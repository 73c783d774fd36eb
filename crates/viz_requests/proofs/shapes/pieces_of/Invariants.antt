use Rattle.std.specs.Prelude.{◌≡◌, map, None}
use Rattle.std.specs.List.{All, range_with_len}
use Rattle.viz_parts.specs.declared.request.Request.TheVariants.{Piece}
use Rattle.viz_requests.specs.Upstream.{Fits}
use Rattle.viz_requests.proofs.shapes.pieces_of.Given as goal

abbrev pub invariant-loop-p : goal.invariant-loop-p
invariant-loop-p l = record {
  value : l.all.items ≡ map (λ p. Piece p l.n 0) (range_with_len 0 l.p);
  fits : All (Fits None) l.all.items;
}
