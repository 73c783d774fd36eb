use Rattle.std.proofs.Common.{subst, sym, rules}
use Rattle.viz_mesh_write.specs.Fits.{FitRows}
use Rattle.viz_mesh_write.specs.Steps.Kinds.{numbers_by}
use Rattle.viz_mesh_write.proofs.PointLemmas.{sheet_more, sheet_fits, no_sheet}
use Rattle.viz_mesh_write.proofs.points.put_points.Goals as goal

pub loop-sheet-preserved : goal.loop-sheet-preserved
loop-sheet-preserved g c =
    let numbers = numbers_by c.args.what.now in
    record {
      written = sheet_more numbers c.args.binary (g.T.Target.text c.args.text.now) (g.T.Target.text c.loop-sheet.text) _ c.args.sheets.now c.loop-sheet.sheet-index c.sheet-item.result _ c.loop-sheet-test.true c.sheet-item.is c.places.ensures.value c.loop-sheet.invariant.written c.in_ok-put_places.ensures.ok;
      fits = sheet_fits numbers c.args.sheets.now c.loop-sheet.sheet-index c.sheet-item.result c.loop-sheet-test.true c.sheet-item.is c.loop-sheet.invariant.fits (subst (FitRows numbers) c.places.ensures.value c.in_ok-put_places.ensures.fits);
    }

pub returns-in_err-put_places-clause-too_wide : goal.returns-in_err-put_places-clause-too_wide
returns-in_err-put_places-clause-too_wide g c =
    let numbers = numbers_by c.args.what.now in
    λ wide. no_sheet numbers c.args.sheets.now c.loop-sheet.sheet-index c.sheet-item.result c.loop-sheet-test.true c.sheet-item.is (λ fits. c.in_err-put_places.ensures.too_wide (search rules) (subst (FitRows numbers) (sym c.places.ensures.value) fits))
