use Rattle.std.proofs.Common.{ℕ, ◌+◌, option_to_list, subst, sym}
use Rattle.std.specs.List.{AllZip, flat_map, range_with_len}
use Rattle.viz_extent.specs.Slabs.{slab_of}
use Rattle.viz_parts.specs.Pieces.{IsImageBlock}
use Rattle.viz_piece_tests.proofs.SlabLemmas.{zip-more}
use Rattle.viz_piece_tests.proofs.slabs.slabs_in_turn.Goals as goal

pub loop-p-preserved : goal.loop-p-preserved
loop-p-preserved c =
    let whole = c.args.whole.now in
    let slab = λ (p : ℕ). option_to_list (slab_of p c.args.n whole.extent) in
    subst (AllZip (IsImageBlock whole) (flat_map slab (range_with_len 0 (c.loop-p.p + 1))))
    (sym c.in_ok-push_some.ensures)
    (zip-more (IsImageBlock whole) slab c.loop-p.p c.loop-p.parts.items (option_to_list c.in_ok-slab_part.field-0) c.loop-p.invariant c.in_ok-slab_part.ensures)
