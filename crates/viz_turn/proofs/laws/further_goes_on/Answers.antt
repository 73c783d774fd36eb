use Rattle.viz_turn.specs.Known.{numbers}
use Rattle.viz_turn.proofs.TaleLemmas.{further_still}
use Rattle.viz_turn.proofs.laws.further_goes_on.Goals as goal

pub returns : goal.returns
returns g c = record { law = λ p q tale within on further. further_still g.S.Story.by (numbers q) (numbers p) p.seen q.seen tale within on further }
