use Rattle.std.proofs.Common.{◌≡◌, true, map, take}
use Rattle.std.specs.List.{list_all}
use Rattle.viz_column.specs.Kinds.{fits}
use Rattle.viz_column.proofs.column.show_range.Given as goal

-- the numbers in front lie in the range
abbrev pub invariant-loop-n : goal.invariant-loop-n
invariant-loop-n g l = list_all (fits g.T.Number.kind) (take l.n-index (map g.T.Number.value l.numbers)) ≡ true
