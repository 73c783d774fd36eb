use Rattle.std.proofs.Common.{◌∙◌, ◌++◌, drop, ap, subst, sym, arith, rules}
use Rattle.viz_column.specs.declared.kind.Kind8.TheVariants.{I64}
use Rattle.viz_fraction.specs.Points.{Point}
use Rattle.viz_mesh_write.specs.Fits.{FitsRow}
use Rattle.viz_mesh_write.specs.Rows.{row_of}
use Rattle.viz_mesh_write.proofs.BlockLemmas.{row_step, all_step, all_done, not_all}
use Rattle.viz_mesh_write.proofs.points.fill.Goals as goal

pub loop-k-preserved : goal.loop-k-preserved
loop-k-preserved g c =
    let numbers = g.N.PointNumbers.numbers c.args.what.now in
    let point = g.P.WidePoint.point in
    let points = c.args.points.now in
    let k = c.loop-k.k in
    let x = c.index-points-n.result in
    record {
      written = row_step (λ y. row_of c.args.binary I64 (numbers (point y))) points k x
          (drop c.loop-k.end c.loop-k.block) _ c.loop-k-test.true c.index-points-n.is
          c.loop-k.invariant.written
          (c.in_ok-end.ensures.ok ∙ ap (λ (p : Point). row_of c.args.binary I64 (numbers p) ++ drop c.loop-k.end c.loop-k.block) c.wide.ensures);
      fits = all_step (λ y. FitsRow (numbers (point y))) points k x c.loop-k-test.true
          c.index-points-n.is c.loop-k.invariant.fits
          (subst (λ (p : Point). FitsRow (numbers p)) c.wide.ensures c.in_ok-end.ensures.fits);
      len = (search rules);
      at = omega (arith, c.in_ok-end.ensures.at, c.loop-k.invariant.at);
      room = omega (arith, c.in_ok-end.ensures.most, c.loop-k.invariant.room);
    }

pub returns-clause-fits : goal.returns-clause-fits
returns-clause-fits g c =
    let numbers = g.N.PointNumbers.numbers c.args.what.now in
    all_done (λ y. FitsRow (numbers (g.P.WidePoint.point y))) c.args.points.now c.loop-k.k
    (omega (arith, c.loop-k-test.false)) c.loop-k.invariant.fits

pub returns-in_err-end-clause-too_wide : goal.returns-in_err-end-clause-too_wide
returns-in_err-end-clause-too_wide g c =
    let numbers = g.N.PointNumbers.numbers c.args.what.now in
    λ wide. not_all (λ y. FitsRow (numbers (g.P.WidePoint.point y))) c.args.points.now c.loop-k.k
    c.index-points-n.result c.loop-k-test.true c.index-points-n.is
    (λ fits. c.in_err-end.ensures.too_wide (search rules)
    (subst (λ (p : Point). FitsRow (numbers p)) (sym c.wide.ensures) fits))
