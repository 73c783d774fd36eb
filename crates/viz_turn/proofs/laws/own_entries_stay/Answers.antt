use Rattle.viz_turn.specs.Known.{numbers}
use Rattle.viz_turn.proofs.TaleLemmas.{entries_stay}
use Rattle.viz_turn.proofs.LawLemmas.{one_stays}
use Rattle.viz_turn.proofs.laws.own_entries_stay.Goals as goal

pub returns : goal.returns
returns g c = record {
  all = λ p tale on. entries_stay g.S.Story.by (numbers p) p.seen tale on;
  each = λ p tale n h on. one_stays g.S.Story.by n (numbers p) p.seen tale h on;
}
