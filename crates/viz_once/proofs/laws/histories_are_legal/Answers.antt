use Rattle.viz_once.proofs.NetworkLemmas as network
use Rattle.viz_once.proofs.NumberLemmas.{words_have_numbers}
use Rattle.viz_once.proofs.laws.histories_are_legal.Goals as goal

pub returns-clause-words : goal.returns-clause-words
returns-clause-words c = words_have_numbers

pub returns-clause-legal : goal.returns-clause-legal
returns-clause-legal c = network.histories_are_legal
