use Rattle.viz_lex.proofs.WrittenLemmas.{places-digits, places-few, places-value, places-last}
use Rattle.viz_lex.proofs.laws_decimal.writes_each_fraction.Goals as goal

pub returns-clause-digits : goal.returns-clause-digits
returns-clause-digits c = places-digits

pub returns-clause-few : goal.returns-clause-few
returns-clause-few c = places-few

pub returns-clause-value : goal.returns-clause-value
returns-clause-value c = places-value

pub returns-clause-last : goal.returns-clause-last
returns-clause-last c = places-last
