use Rattle.viz_turn.proofs.LawLemmas.{one_grows, ended_stays}
use Rattle.viz_turn.proofs.laws.append_adds_one_entry.Goals as goal

pub returns : goal.returns
returns g c = record {
  own = λ p tale new on one. one_grows g.S.Story.by p.number p.ended p.seen tale new one.0 one.1 one.2 on;
  ended = λ p tale new n differ old on one. ended_stays g.S.Story.by p.number n p.ended p.seen tale new one.0 differ old one.1 one.2 on;
}
