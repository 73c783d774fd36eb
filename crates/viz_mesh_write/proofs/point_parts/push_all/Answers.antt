use Rattle.std.proofs.Common.{◌∙◌, arith, rules}
use Rattle.viz_column.specs.declared.kind.Kind8.TheVariants.{I64}
use Rattle.viz_mesh_write.specs.Fits.{FitsRow}
use Rattle.viz_mesh_write.specs.Rows.{row_of}
use Rattle.viz_mesh_write.proofs.PartLemmas.{rows_more, rows_all, all_more, all_parts}
use Rattle.viz_mesh_write.proofs.PartLemmas.{not_all_parts}
use Rattle.viz_mesh_write.proofs.point_parts.push_all.Goals as goal

pub returns-in_err-rows-clause-too_wide : goal.returns-in_err-rows-clause-too_wide
returns-in_err-rows-clause-too_wide g c =
    λ wide all. not_all_parts g.P.WidePoint.point (g.N.PointNumbers.numbers c.args.what.now)
    c.args.binary c.args.points.now c.loop-part.part c.in_err-rows.field-0.0
    c.in_err-rows.ensures.part (search (rules, wide)) all

pub loop-part-preserved : goal.loop-part-preserved
loop-part-preserved g c =
    let numbers = g.N.PointNumbers.numbers c.args.what.now in
    let point = g.P.WidePoint.point in
    record {
      written = rows_more (λ x. row_of c.args.binary I64 (numbers (point x)))
          c.args.points.now c.loop-part.part c.args.text.now c.loop-part.text _ c.in_ok-rows.rows
          c.loop-part.invariant.written c.in_ok-rows.ensures.part.0 c.in_ok-push_part.ensures;
      fits = all_more (λ x. FitsRow (numbers (point x))) c.args.points.now c.loop-part.part
          c.loop-part.invariant.fits c.in_ok-rows.ensures.part.1;
      parts = c.taken.ensures.parts;
      len = c.taken.ensures.len ∙ c.loop-part.invariant.len;
    }

pub returns-clause-ok : goal.returns-clause-ok
returns-clause-ok g c =
    rows_all (λ x. row_of c.args.binary I64
    (g.N.PointNumbers.numbers c.args.what.now (g.P.WidePoint.point x)))
    c.args.points.now c.loop-part.part c.args.text.now c.loop-part.text
    (omega (arith, c.requires.enough, c.loop-part-test.false, c.loop-part.invariant.len))
    c.loop-part.invariant.written

pub returns-clause-fits : goal.returns-clause-fits
returns-clause-fits g c =
    all_parts (λ x. FitsRow (g.N.PointNumbers.numbers c.args.what.now (g.P.WidePoint.point x)))
    c.args.points.now c.loop-part.part
    (omega (arith, c.requires.enough, c.loop-part-test.false, c.loop-part.invariant.len))
    c.loop-part.invariant.fits
