use Rattle.viz_attr.proofs.AttributeLaws.{definite-attributes}
use Rattle.viz_attr.proofs.laws.attributes_are_definite.Goals as goal

pub returns : goal.returns
returns c = record { definite = definite-attributes }
