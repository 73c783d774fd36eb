use Rattle.viz_attr.proofs.FirstLaws.{words_alone, bytes_alone}
use Rattle.viz_attr.proofs.laws.other_arrays_are_counted.Goals as goal

pub returns-clause-words : goal.returns-clause-words
returns-clause-words c = words_alone

pub returns-clause-bytes : goal.returns-clause-bytes
returns-clause-bytes c = bytes_alone
