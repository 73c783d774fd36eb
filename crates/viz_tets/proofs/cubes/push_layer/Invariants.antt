use Rattle.std.proofs.Common.{◌≡◌, ◌++◌, ◌-◌, ◌≤◌}
use Rattle.std.specs.List.{flat_map, range_with_len}
use Rattle.viz_kuhn.specs.Cubes.{lowest_in_row, six_at}
use Rattle.viz_tets.proofs.cubes.push_layer.Given as goal

abbrev pub invariant-loop-j : goal.invariant-loop-j
invariant-loop-j l = record {
  from : l.whole.y0 ≤ l.j;
  made : l.out.items ≡ l.initial.out.items ++ flat_map (six_at l.whole) (flat_map (λ j. lowest_in_row l.whole j l.fn.k) (range_with_len l.whole.y0 (l.j - l.whole.y0)));
}
