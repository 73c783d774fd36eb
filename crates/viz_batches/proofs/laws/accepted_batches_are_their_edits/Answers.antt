use Rattle.viz_batches.proofs.BatchLemmas.{accepted_all, made_behind}
use Rattle.viz_batches.proofs.laws.accepted_batches_are_their_edits.Goals as goal

pub returns : goal.returns
returns c = record {
  same = λ at edits net made p. accepted_all 1 at edits net made p;
  longer = λ edits more made p. made_behind edits more made p;
}
