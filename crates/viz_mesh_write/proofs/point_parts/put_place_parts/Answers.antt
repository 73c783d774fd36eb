use Rattle.std.proofs.Common.{ap, sym, ◌∙◌}
use Rattle.std.proofs.lemmas.Result.{on_ok_weaker}
use Rattle.viz_sheet.specs.Arrays.{points_in}
use Rattle.viz_mesh_write.proofs.PointLemmas.{rows_fit, rows_fit_back}
use Rattle.viz_mesh_write.proofs.point_parts.put_place_parts.Goals as goal

pub returns-in-Small-clause-fits : goal.returns-in-Small-clause-fits
returns-in-Small-clause-fits g c =
    let same = c.deref.ensures.value ∙ sym (ap points_in c.in-Small.is) in
    on_ok_weaker c.put_point_parts.result
    (rows_fit (g.N.PointNumbers.numbers c.args.what.now) c.deref.result.now
    (points_in c.args.places.now) same) c.put_point_parts.ensures.fits

pub returns-in-Small-clause-too_wide : goal.returns-in-Small-clause-too_wide
returns-in-Small-clause-too_wide g c =
    let same = c.deref.ensures.value ∙ sym (ap points_in c.in-Small.is) in
    λ wide fits. c.put_point_parts.ensures.too_wide wide
    (rows_fit_back (g.N.PointNumbers.numbers c.args.what.now) c.deref.result.now
    (points_in c.args.places.now) same fits)

pub returns-in-Wide-clause-fits : goal.returns-in-Wide-clause-fits
returns-in-Wide-clause-fits g c =
    let same = c.deref-in-Wide.ensures.value ∙ sym (ap points_in c.in-Wide.is) in
    on_ok_weaker c.put_point_parts-in-Wide.result
    (rows_fit (g.N.PointNumbers.numbers c.args.what.now) c.deref-in-Wide.result.now
    (points_in c.args.places.now) same) c.put_point_parts-in-Wide.ensures.fits

pub returns-in-Wide-clause-too_wide : goal.returns-in-Wide-clause-too_wide
returns-in-Wide-clause-too_wide g c =
    let same = c.deref-in-Wide.ensures.value ∙ sym (ap points_in c.in-Wide.is) in
    λ wide fits. c.put_point_parts-in-Wide.ensures.too_wide wide
    (rows_fit_back (g.N.PointNumbers.numbers c.args.what.now) c.deref-in-Wide.result.now
    (points_in c.args.places.now) same fits)
