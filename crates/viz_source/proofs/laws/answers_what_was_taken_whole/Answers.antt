use Rattle.viz_source.proofs.StreamLemmas.{answered-whole}
use Rattle.viz_source.proofs.laws.answers_what_was_taken_whole.Goals as goal

pub returns : goal.returns
returns c = record { law = answered-whole }
