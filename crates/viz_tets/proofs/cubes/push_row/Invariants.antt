use Rattle.std.proofs.Common.{◌≡◌, ◌++◌, ◌-◌, ◌≤◌, map}
use Rattle.std.specs.List.{flat_map, range_with_len}
use Rattle.viz_kuhn.specs.Cubes.{six_at}
use Rattle.viz_kuhn.specs.Places.{place}
use Rattle.viz_tets.proofs.cubes.push_row.Given as goal

abbrev pub invariant-loop-i : goal.invariant-loop-i
invariant-loop-i l = record {
  from : l.whole.x0 ≤ l.i;
  made : l.out.items ≡ l.initial.out.items ++ flat_map (six_at l.whole) (map (λ i. place i l.fn.j l.fn.k) (range_with_len l.whole.x0 (l.i - l.whole.x0)));
}
