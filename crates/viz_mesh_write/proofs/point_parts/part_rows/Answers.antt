use Rattle.std.proofs.Common.{◌≡◌, ◌∙◌, sym, subst, rules, Err}
use Rattle.viz_image_write.specs.declared.stop.WriteStop.{WriteStop}
use Rattle.viz_image_write.specs.declared.stop.WriteStop.TheVariants as stop
use Rattle.viz_column.specs.declared.kind.Kind8.TheVariants.{I64}
use Rattle.viz_mesh_write.specs.Rows.{row_of}
use Rattle.viz_mesh_write.specs.Steps.Parts.{IsPointPart}
use Rattle.viz_mesh_write.specs.Steps.Passes.{FitBy}
use Rattle.viz_mesh_write.proofs.PartLemmas.{rows_of_part, no_rows}
use Rattle.viz_mesh_write.proofs.point_parts.part_rows.Goals as goal

pub returns-in_err-put_width : goal.returns-in_err-put_width
returns-in_err-put_width g c =
    let numbers = g.N.PointNumbers.numbers c.args.what.now in
    let point = g.P.WidePoint.point in
    let e : WriteStop = c.in_err-put_width.field-0.0 in
    let is : c.from_residual-in_err-put_width.result ≡ Err e = search rules in
    subst (IsPointPart point numbers c.args.binary c.args.points.now c.args.part) (sym is)
    (no_rows point numbers c.args.binary
    c.part_at-rows.result.now c.args.points.now c.args.part e c.part_at-rows.ensures
    (λ (wide : e ≡ stop.TooWide). c.in_err-put_width.ensures.too_wide (search (rules, wide)))
    (λ (many : e ≡ stop.TooMany). c.in_err-put_width.ensures.few (search (rules, many))))

pub returns : goal.returns
returns g c =
    let numbers = g.N.PointNumbers.numbers c.args.what.now in
    let point = g.P.WidePoint.point in (
      c.new-2.ensures.value ∙ rows_of_part (λ x. row_of c.args.binary I64 (numbers (point x)))
          c.part_at-rows.result.now c.args.points.now c.args.part c.in_ok-text.text.items _
          c.part_at-rows.ensures c.in_ok-text.ensures.items c.in_ok-put_width.ensures.ok,
      subst (FitBy point numbers) c.part_at-rows.ensures c.in_ok-put_width.ensures.fits,
    )
