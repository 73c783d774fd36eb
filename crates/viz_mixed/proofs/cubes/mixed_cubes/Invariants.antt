use Rattle.std.proofs.Common.{◌≡◌, ◌-◌, ◌≤◌, map}
use Rattle.std.specs.List.{flat_map, range_with_len}
use Rattle.viz_kuhn.specs.Cubes.{lowest_in_layer}
use Rattle.viz_mixed.specs.Mixed.{corner_flags, is_mixed}
use Rattle.viz_mixed.proofs.cubes.mixed_cubes.Given as goal

abbrev pub invariant-loop-k : goal.invariant-loop-k
invariant-loop-k l = record {
  from : l.whole.z0 ≤ l.k;
  made : l.out ≡ map (λ at. is_mixed (corner_flags l.whole l.flags at)) (flat_map (lowest_in_layer l.whole) (range_with_len l.whole.z0 (l.k - l.whole.z0)));
}
