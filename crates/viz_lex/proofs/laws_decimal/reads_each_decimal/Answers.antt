use Rattle.viz_lex.proofs.DecimalLemmas.{decimal_of-Some, decimal_of-is, decimal_at-some, decimal_at-Ok, decimal_at-Truncated, decimal_at-blank, decimal_at-HeaderNumber}
use Rattle.viz_lex.proofs.laws_decimal.reads_each_decimal.Goals as goal

pub returns-clause-word : goal.returns-clause-word
returns-clause-word c = λ word z. (decimal_of-Some word z, decimal_of-is word z)

pub returns-clause-each : goal.returns-clause-each
returns-clause-each c = decimal_at-some

pub returns-clause-ok : goal.returns-clause-ok
returns-clause-ok c = decimal_at-Ok

pub returns-clause-truncated : goal.returns-clause-truncated
returns-clause-truncated c = λ r. (decimal_at-Truncated r _, decimal_at-blank r)

pub returns-clause-header_number : goal.returns-clause-header_number
returns-clause-header_number c = decimal_at-HeaderNumber
