use Rattle.std.proofs.Common.{◌≡◌, map}
use Rattle.viz_attr.specs.Values.{firsts}
use Rattle.viz_attr.proofs.values.firsts.Given as goal

-- the first numbers of the tuples so far
abbrev pub invariant-loop-i : goal.invariant-loop-i
invariant-loop-i g l = map g.T.Number.value l.kept.items ≡ firsts l.components l.i (map g.T.Number.value l.numbers)
