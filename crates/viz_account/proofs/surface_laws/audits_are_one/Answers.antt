use Rattle.viz_account.proofs.SurfaceLemmas.{audits_are_one}
use Rattle.viz_account.proofs.surface_laws.audits_are_one.Goals as goal

pub returns : goal.returns
returns c = record { one = audits_are_one c.scratch_is_one.ensures.cones }
