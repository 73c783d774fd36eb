use Rattle.std.proofs.Common.{◌∙◌, arith}
use Rattle.viz_lex.proofs.PassLemmas.{words_len-passed}
use Rattle.viz_lex.proofs.pass.words_len.Goals as goal

pub returns-clause-value : goal.returns-clause-value
returns-clause-value c = c.pass_by.ensures.value ∙ words_len-passed c.args.count c.args.text.now (omega arith)
