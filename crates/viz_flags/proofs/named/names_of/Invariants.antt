use Rattle.std.proofs.Common.{◌≡◌}
use Rattle.viz_flags.proofs.NameLemmas.{name_by, names_so_far}
use Rattle.viz_flags.proofs.named.names_of.Given as goal

abbrev pub invariant-loop-leaf : goal.invariant-loop-leaf
invariant-loop-leaf l = l.names.items ≡ names_so_far (name_by l.first l.row l.plane) l.flags l.leaf
