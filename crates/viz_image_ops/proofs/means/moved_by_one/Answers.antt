use Rattle.viz_image_ops.proofs.SumLemmas.{longer_fits, moved_fits, moved_is}
use Rattle.viz_image_ops.proofs.means.moved_by_one.Goals as goal

pub overflow_add-longer : goal.overflow_add-longer
overflow_add-longer c =
    longer_fits c.args.row.now c.args.first c.args.behind c.args.sum.now
    (record { order = c.requires.order; within = c.requires.within; room = c.requires.room; is = c.requires.sum })

pub overflow_sub-result : goal.overflow_sub-result
overflow_sub-result c =
    moved_fits c.args.row.now c.args.first c.args.behind c.args.sum.now
    (record { order = c.requires.order; within = c.requires.within; room = c.requires.room; is = c.requires.sum })

pub returns : goal.returns
returns c =
    moved_is c.args.row.now c.args.first c.args.behind c.args.sum.now
    (record { order = c.requires.order; within = c.requires.within; room = c.requires.room; is = c.requires.sum })
