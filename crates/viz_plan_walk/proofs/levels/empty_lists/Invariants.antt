use Rattle.std.proofs.Common.{◌≡◌, [], length}
use Rattle.std.specs.List.{All}
use Rattle.viz_plan_walk.proofs.levels.empty_lists.Given as goal

abbrev pub invariant-loop : goal.invariant-loop
invariant-loop l = record {
  count : length l.all.items ≡ l.counter;
  empty : All (λ list. list.items ≡ []) l.all.items;
}
