use Rattle.viz_node_meaning.proofs.RuleLemmas.{information_one}
use Rattle.viz_node_meaning.proofs.DataOneLemmas.{data_one}
use Rattle.viz_node_meaning.proofs.laws.rules_are_one.Goals as goal

pub returns-clause-information : goal.returns-clause-information
returns-clause-information c = information_one c.files_are_definite.ensures.header

pub returns-clause-data : goal.returns-clause-data
returns-clause-data c = data_one c.parts_are_determined.ensures.one c.files_are_definite.ensures.file
