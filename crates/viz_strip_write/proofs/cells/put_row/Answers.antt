use Rattle.viz_strip_write.proofs.CellLemmas.{row-is}
use Rattle.viz_strip_write.proofs.cells.put_row.Goals as goal

pub returns : goal.returns
returns c = row-is c.args.cell.now c.args.text.now.items c.put_count.new.text.items c.put_indices.new.text.items _ c.in_ok-put_count.ensures c.in_ok-put_indices.ensures c.in_ok-push.ensures.items
