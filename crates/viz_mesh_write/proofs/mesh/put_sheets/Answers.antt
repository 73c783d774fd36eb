use Rattle.std.proofs.Common.{◌≡◌, ℕ, List, ◌++◌, ◌<◌, ◌^◌, subst, sym}
use Rattle.std.specs.Prelude.{OnOk}
use Rattle.viz_mesh_write.specs.MeshText.{cells_text}
use Rattle.viz_mesh_write.specs.Steps.Tallies.{AreCounted}
use Rattle.viz_mesh_write.proofs.SheetLemmas.{cells_again, points_again, counted_again}
use Rattle.viz_mesh_write.proofs.mesh.put_sheets.Goals as goal

pub put_cells_text-requires-clause-few : goal.put_cells_text-requires-clause-few
put_cells_text-requires-clause-few g c =
    subst (λ (n : ℕ). n < 2 ^ 31) (sym (points_again c.args.sheets.now)) c.requires.ready.fits.points

pub put_cells_text-requires-clause-ready : goal.put_cells_text-requires-clause-ready
put_cells_text-requires-clause-ready g c =
    subst (λ (cells : List (List ℕ)). AreCounted cells c.args.tally.now) (sym (cells_again c.args.sheets.now)) (counted_again c.args.sheets.now c.args.tally.now c.requires.ready)

pub returns : goal.returns
returns g c =
    subst (λ (cells : List (List ℕ)). OnOk c.put_cells_text.result ((g.T.Target.text c.put_cells_text.new.text) ≡ (g.T.Target.text c.args.text.now) ++ cells_text c.args.later c.args.binary cells)) (cells_again c.args.sheets.now) c.put_cells_text.ensures
