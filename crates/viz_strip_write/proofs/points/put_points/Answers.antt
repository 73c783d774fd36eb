use Rattle.std.proofs.Common.{◌<◌, length, arith, rules}
use Rattle.viz_sheet.specs.Arrays.{points_in}
use Rattle.viz_strip_write.proofs.PointLemmas.{fits-more, one-wide, points-more}
use Rattle.viz_strip_write.proofs.points.put_points.Goals as goal

pub loop-rank-preserved : goal.loop-rank-preserved
loop-rank-preserved g c =
    let numbers = g.N.PointNumbers.numbers in
    let points = points_in c.args.places.now in
    let i = c.loop-rank.rank in
    let x = c.get-point.result in
    let below : i < length points = omega (arith, c.loop-rank-test.true, c.len-rank-end.ensures, c.loop-rank.auto.rank-end) in
    record {
      written = points-more numbers points i x c.args.text.now.items c.loop-rank.text.items c.put.new.text.items below c.get-point.ensures.value c.loop-rank.invariant.written c.in_ok-put.ensures.ok;
      fits = fits-more numbers points i x below c.get-point.ensures.value c.loop-rank.invariant.fits c.in_ok-put.ensures.fits;
    }

pub returns-in_err-put-clause-too_wide : goal.returns-in_err-put-clause-too_wide
returns-in_err-put-clause-too_wide g c =
    let points = points_in c.args.places.now in
    let below : c.loop-rank.rank < length points = omega (arith, c.loop-rank-test.true, c.len-rank-end.ensures, c.loop-rank.auto.rank-end) in
    λ wide. one-wide g.N.PointNumbers.numbers points c.loop-rank.rank c.get-point.result below c.get-point.ensures.value (c.in_err-put.ensures.too_wide (search rules))
