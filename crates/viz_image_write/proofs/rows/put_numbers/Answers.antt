use Rattle.std.proofs.Common.{rules}
use Rattle.viz_image_write.proofs.RowLemmas.{numbers_written}
use Rattle.viz_image_write.proofs.rows.put_numbers.Goals as goal

pub returns : goal.returns
returns g c =
    numbers_written g.T.Number.value c.min.result c.args.row.now c.split_at.result.0.now
    c.split_at.result.1.now c.args.text.now.items c.put_front.new.text.items _
    (search rules) c.split_at.ensures.front c.split_at.ensures.back
    c.in_ok-put_front.ensures c.in_ok-put_others.ensures
