use Rattle.viz_journal.proofs.WholeLemmas.{written-again}
use Rattle.viz_journal.proofs.laws.what_is_read_is_written_again.Goals as goal

pub returns : goal.returns
returns c = record { again = written-again }
