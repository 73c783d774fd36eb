use Rattle.std.proofs.Common.{ap}
use Rattle.viz_turn.specs.Passes.{known}
use Rattle.viz_hub.proofs.PassLemmas.{same_count}
use Rattle.viz_hub.proofs.turns.join_by.Goals as goal

pub invariant_of-result : goal.invariant_of-result
invariant_of-result c = record {
  counted = same_count c.args.kept.count (known c.args.kept.pass) (known c.join-pass.result) c.args.kept.counted (ap (λ k. k.number) c.join-pass.ensures.joined) c.join-pass.ensures.kept_further;
}
