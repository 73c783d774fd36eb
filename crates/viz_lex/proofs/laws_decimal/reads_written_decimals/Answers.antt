use Rattle.viz_lex.proofs.WrittenLemmas.{decimal_at-written}
use Rattle.viz_lex.proofs.laws_decimal.reads_written_decimals.Goals as goal

pub returns : goal.returns
returns c = record { law = decimal_at-written }
