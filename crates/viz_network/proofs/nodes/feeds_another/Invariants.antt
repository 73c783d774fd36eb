use Rattle.std.proofs.Common.{◌≡◌, drop}
use Rattle.viz_network.specs.Edits.{is_used}
use Rattle.viz_network.proofs.nodes.feeds_another.Given as goal

abbrev pub invariant-loop-rank : goal.invariant-loop-rank
invariant-loop-rank l = is_used l.id.0 (drop l.rank l.nodes.entries) ≡ is_used l.id.0 l.nodes.entries
