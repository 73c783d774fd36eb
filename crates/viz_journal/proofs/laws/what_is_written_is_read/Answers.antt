use Rattle.viz_journal.proofs.WholeLemmas.{again}
use Rattle.viz_journal.proofs.laws.what_is_written_is_read.Goals as goal

pub returns : goal.returns
returns c = record { again = again }
