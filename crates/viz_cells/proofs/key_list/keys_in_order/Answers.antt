use Rattle.viz_cells.proofs.NumberLemmas.{keys-from_sort}
use Rattle.viz_cells.proofs.key_list.keys_in_order.Goals as goal

pub returns : goal.returns
returns c = record {
  value =
      keys-from_sort c.args.pieces.now _ _ _ c.in_ok-keys.ensures.value c.sort_unstable.ensures.permutation c.sort_unstable.ensures.sorted c.dedup.ensures.filtered;
}
