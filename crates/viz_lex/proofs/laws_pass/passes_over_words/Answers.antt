use Rattle.viz_lex.proofs.PassLemmas.{words_at-found, words_at-Ok, words_at-Truncated}
use Rattle.viz_lex.proofs.laws_pass.passes_over_words.Goals as goal

pub returns-clause-found : goal.returns-clause-found
returns-clause-found c = words_at-found

pub returns-clause-ok : goal.returns-clause-ok
returns-clause-ok c = words_at-Ok

pub returns-clause-truncated : goal.returns-clause-truncated
returns-clause-truncated c = words_at-Truncated
