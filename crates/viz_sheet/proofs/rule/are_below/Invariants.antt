use Rattle.std.proofs.Common.{take, ◌<◌}
use Rattle.std.specs.List.{All}
use Rattle.viz_sheet.proofs.rule.are_below.Given as goal

abbrev pub invariant-loop-rank : goal.invariant-loop-rank
invariant-loop-rank l = All (λ r. r < l.count) (take l.rank-index l.cell)
