use Rattle.std.proofs.Common.{◌≡◌, ◌-◌, ◌≤◌}
use Rattle.std.specs.List.{flat_map, range_with_len}
use Rattle.viz_kuhn.specs.Cubes.{lowest_in_layer, six_at}
use Rattle.viz_tets.proofs.cubes.cells.Given as goal

abbrev pub invariant-loop-k : goal.invariant-loop-k
invariant-loop-k l = record {
  from : l.whole.z0 ≤ l.k;
  made : l.out.items ≡ flat_map (six_at l.whole) (flat_map (lowest_in_layer l.whole) (range_with_len l.whole.z0 (l.k - l.whole.z0)));
}
