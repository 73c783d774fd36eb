use Rattle.std.proofs.Common.{rules}
use Rattle.viz_column.specs.declared.kind.Kind8.TheVariants.{I64}
use Rattle.viz_mesh_write.specs.Fits.{FitsRow}
use Rattle.viz_mesh_write.specs.Rows.{row_of}
use Rattle.viz_mesh_write.proofs.BlockLemmas.{part_step, joins, in_front, in_rest, all_none}
use Rattle.viz_mesh_write.proofs.points.put_width.Goals as goal

pub loop-left-preserved : goal.loop-left-preserved
loop-left-preserved g c =
    let numbers = g.N.PointNumbers.numbers c.args.what.now in
    let point = g.P.WidePoint.point in
    let left = c.loop-left.left.now in
    record {
      written = part_step (λ x. row_of c.args.binary I64 (numbers (point x))) c.min.result left
          c.split_at.result.0.now c.split_at.result.1.now c.loop-left.text.items _ _
          c.split_at.ensures.front c.split_at.ensures.back c.in_ok-put_part.ensures.ok
          c.loop-left.invariant.written;
      whole = λ behind. c.loop-left.invariant.whole
          (joins (λ x. FitsRow (numbers (point x))) c.min.result left c.split_at.result.0.now
          c.split_at.result.1.now c.split_at.ensures.front c.split_at.ensures.back
          c.in_ok-put_part.ensures.fits behind);
      rest = λ all. in_rest (λ x. FitsRow (numbers (point x))) c.min.result left
          c.split_at.result.1.now c.split_at.ensures.back (c.loop-left.invariant.rest all);
    }

pub returns-in_err-put_part-clause-too_wide : goal.returns-in_err-put_part-clause-too_wide
returns-in_err-put_part-clause-too_wide g c =
    let numbers = g.N.PointNumbers.numbers c.args.what.now in
    let point = g.P.WidePoint.point in
    λ wide all. c.in_err-put_part.ensures.too_wide (search rules)
    (in_front (λ x. FitsRow (numbers (point x))) c.min.result c.loop-left.left.now
    c.split_at.result.0.now c.split_at.ensures.front (c.loop-left.invariant.rest all))

pub returns-clause-fits : goal.returns-clause-fits
returns-clause-fits g c =
    let numbers = g.N.PointNumbers.numbers c.args.what.now in
    c.loop-left.invariant.whole (all_none (λ x. FitsRow (numbers (g.P.WidePoint.point x)))
    c.loop-left.left.now (search rules))
