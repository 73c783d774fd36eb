use Rattle.viz_account.proofs.OnceLemmas.{told_once}
use Rattle.viz_account.proofs.laws.entries_are_told_once.Goals as goal

pub returns : goal.returns
returns g c = record { once = told_once g.P.Port }
