use Rattle.std.proofs.Common.{◌≡◌, ◌+◌, ◌≤◌, ◌++◌, take, filter}
use Rattle.viz_network.specs.Steps.Marks.{is_kept}
use Rattle.viz_network.proofs.part.keep.Given as goal

abbrev pub invariant-loop-id : goal.invariant-loop-id
invariant-loop-id l = record {
  value : take l.count l.kept ≡ take l.at l.initial.kept ++ filter (is_kept l.late l.nodes.entries l.marks) (take l.id-index l.order);
  within : l.count ≤ l.at + l.id-index;
}
