use Rattle.viz_turn.proofs.LawLemmas.{no_other}
use Rattle.viz_turn.proofs.laws.no_other_is_all.Goals as goal

pub returns : goal.returns
returns g c = record { law = λ ns tale h. no_other g.S.Story.by ns tale h }
