use Rattle.viz_sheet.specs.Arrays.{ranks_in}
use Rattle.viz_clip.specs.Steps.Keys.{cell_keys}
use Rattle.viz_cells.proofs.NumberLemmas.{keys-from_sort}
use Rattle.viz_clip.proofs.key_list.keys_in_order.Goals as goal

pub returns : goal.returns
returns c = record {
  value =
      keys-from_sort (cell_keys c.args.inside.now (ranks_in c.args.ranks.now)) _ _ _ c.in_ok-keys.ensures.value c.sort_unstable.ensures.permutation c.sort_unstable.ensures.sorted c.dedup.ensures.filtered;
}
