use Rattle.viz_account.proofs.AccountLemmas.{told_longer}
use Rattle.viz_account.proofs.laws.accounts_hold_later.Goals as goal

pub returns : goal.returns
returns c = record { later = told_longer }
