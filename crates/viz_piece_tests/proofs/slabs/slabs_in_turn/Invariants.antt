use Rattle.std.specs.Prelude.{option_to_list}
use Rattle.std.specs.List.{AllZip, flat_map, range_with_len}
use Rattle.viz_extent.specs.Slabs.{slab_of}
use Rattle.viz_parts.specs.Pieces.{IsImageBlock}
use Rattle.viz_piece_tests.proofs.slabs.slabs_in_turn.Given as goal

abbrev pub invariant-loop-p : goal.invariant-loop-p
invariant-loop-p l =
    AllZip (IsImageBlock l.whole)
    (flat_map (λ p. option_to_list (slab_of p l.n l.whole.extent)) (range_with_len 0 l.p))
    l.parts.items
