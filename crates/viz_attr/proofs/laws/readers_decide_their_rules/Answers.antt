use Rattle.viz_attr.proofs.AttributeLaws.{decides-attributes}
use Rattle.viz_attr.proofs.PartLaws.{decides-type_word}
use Rattle.viz_attr.proofs.PassedLaws.{decides-passed_field}
use Rattle.viz_attr.proofs.laws.readers_decide_their_rules.Goals as goal

pub returns-clause-type_word : goal.returns-clause-type_word
returns-clause-type_word c = decides-type_word

pub returns-clause-field : goal.returns-clause-field
returns-clause-field c = decides-passed_field

pub returns-clause-attributes : goal.returns-clause-attributes
returns-clause-attributes c = decides-attributes
