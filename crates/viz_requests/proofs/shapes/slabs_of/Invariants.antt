use Rattle.std.specs.Prelude.{◌≡◌, Some}
use Rattle.std.specs.List.{All, flat_map, range_with_len}
use Rattle.viz_extent.specs.Slabs.{slab_of}
use Rattle.viz_requests.specs.Shapes.{slab_request}
use Rattle.viz_requests.specs.Upstream.{Fits}
use Rattle.viz_requests.proofs.shapes.slabs_of.Given as goal

abbrev pub invariant-loop-p : goal.invariant-loop-p
invariant-loop-p l = record {
  value : l.all.items ≡ flat_map (λ p. slab_request (slab_of p l.n l.whole)) (range_with_len 0 l.p);
  fits : All (Fits (Some l.whole)) l.all.items;
}
