use Rattle.viz_journal.proofs.EntriesLemmas.{only}
use Rattle.viz_journal.proofs.laws.nothing_else_is_read.Goals as goal

pub returns : goal.returns
returns c = record { only = only }
