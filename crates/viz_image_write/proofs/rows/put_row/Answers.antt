use Rattle.std.proofs.Common.{map}
use Rattle.viz_image_write.proofs.RowLemmas.{row_written}
use Rattle.viz_image_write.proofs.rows.put_row.Goals as goal

pub returns : goal.returns
returns g c =
    row_written (map g.T.Number.value c.args.row.now) c.args.text.now.items
    c.put_numbers.new.text.items _ c.in_ok-put_numbers.ensures c.in_ok-push.ensures.items
