use Rattle.viz_hub.specs.Passes.{numbers}
use Rattle.viz_turn.proofs.LawLemmas.{one_stays}
use Rattle.viz_entries.specs.History.{by_of}
use Rattle.viz_hub.proofs.PassLemmas.{journal_is_seen}
use Rattle.viz_hub.proofs.laws.journal_is_of_joined_passes.Goals as goal

pub returns : goal.returns
returns c = record {
  each = λ p journal n mine on. one_stays by_of n (numbers p) p.seen journal mine on;
  all = journal_is_seen;
}
