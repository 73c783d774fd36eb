use Rattle.viz_account.proofs.AloneLemmas.{lines_count}
use Rattle.viz_account.proofs.laws.lines_count_edits.Goals as goal

pub returns : goal.returns
returns g c = record { counts = lines_count g.P.Port }
