use Rattle.viz_lex.proofs.BlockLemmas.{block_at-found, text_of-block, rest_of-block, block_at-Ok, block_at-Truncated}
use Rattle.viz_lex.proofs.laws_pass.finds_each_block.Goals as goal

pub returns-clause-found : goal.returns-clause-found
returns-clause-found c = block_at-found

pub returns-clause-bytes : goal.returns-clause-bytes
returns-clause-bytes c = text_of-block

pub returns-clause-left : goal.returns-clause-left
returns-clause-left c = rest_of-block

pub returns-clause-ok : goal.returns-clause-ok
returns-clause-ok c = block_at-Ok

pub returns-clause-truncated : goal.returns-clause-truncated
returns-clause-truncated c = block_at-Truncated
