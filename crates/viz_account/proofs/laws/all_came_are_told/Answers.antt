use Rattle.viz_account.proofs.CompleteLemmas.{all_came}
use Rattle.viz_account.proofs.laws.all_came_are_told.Goals as goal

pub returns : goal.returns
returns g c = record { came = all_came c.files_are_one.ensures.law c.audits_are_one.ensures.one g.P.Port }
