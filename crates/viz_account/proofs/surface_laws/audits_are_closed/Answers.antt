use Rattle.viz_account.proofs.SurfaceLemmas.{audits_are_closed, surfaces_are_closed}
use Rattle.viz_account.proofs.CutLemmas.{cuts_are_closed}
use Rattle.viz_account.proofs.surface_laws.audits_are_closed.Goals as goal

pub returns-clause-closed : goal.returns-clause-closed
returns-clause-closed c =
    let law = c.contours_are_closed.ensures in
    audits_are_closed c.scratch_is_one.ensures.cones law.sides law.lone

pub returns-clause-surfaces : goal.returns-clause-surfaces
returns-clause-surfaces c =
    surfaces_are_closed c.scratch_is_one.ensures.cones c.contours_are_closed.ensures.closed

pub returns-clause-cuts : goal.returns-clause-cuts
returns-clause-cuts c =
    cuts_are_closed c.scratch_is_one.ensures.cones c.form_sections_are_closed.ensures.closed
