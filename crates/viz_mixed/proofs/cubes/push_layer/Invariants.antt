use Rattle.std.proofs.Common.{◌≡◌, ◌++◌, ◌-◌, ◌≤◌, map}
use Rattle.std.specs.List.{flat_map, range_with_len}
use Rattle.viz_kuhn.specs.Cubes.{lowest_in_row}
use Rattle.viz_mixed.specs.Mixed.{corner_flags, is_mixed}
use Rattle.viz_mixed.proofs.cubes.push_layer.Given as goal

abbrev pub invariant-loop-j : goal.invariant-loop-j
invariant-loop-j l = record {
  from : l.whole.y0 ≤ l.j;
  made : l.out ≡ l.initial.out ++ map (λ at. is_mixed (corner_flags l.whole l.flags at)) (flat_map (λ j. lowest_in_row l.whole j l.fn.k) (range_with_len l.whole.y0 (l.j - l.whole.y0)));
}
