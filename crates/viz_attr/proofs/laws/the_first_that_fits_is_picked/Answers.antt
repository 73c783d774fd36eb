use Rattle.viz_attr.proofs.FirstLaws.{parts_keep_the_first}
use Rattle.viz_attr.proofs.laws.the_first_that_fits_is_picked.Goals as goal

pub returns : goal.returns
returns c = record { first = parts_keep_the_first }
