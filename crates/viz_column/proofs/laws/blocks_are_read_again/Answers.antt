use Rattle.viz_column.proofs.ListLemmas.{length-block, numbers_again}
use Rattle.viz_column.proofs.laws.blocks_are_read_again.Goals as goal

pub returns-clause-long : goal.returns-clause-long
returns-clause-long c = λ n. length-block n.kind n.items

pub returns-clause-again : goal.returns-clause-again
returns-clause-again c = λ n within. numbers_again n.kind n.items within
