use Rattle.std.proofs.Common.{◌≡◌, map, take}
use Rattle.viz_strip.specs.Steps.Named.{name_at}
use Rattle.viz_strip.proofs.naming.named.Given as goal

abbrev pub invariant-loop-rank : goal.invariant-loop-rank
invariant-loop-rank l = l.strip.items ≡ map (name_at l.names) (take l.rank-index l.row)
