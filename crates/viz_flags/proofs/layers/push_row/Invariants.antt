use Rattle.std.proofs.Common.{◌≡◌, ◌-◌, ◌++◌, ◌≤◌, map}
use Rattle.viz_grid_section.specs.Steps.Rows.{cells_in_row}
use Rattle.viz_flags.specs.Edges.{cells_by}
use Rattle.viz_flags.proofs.layers.push_row.Given as goal

abbrev pub invariant-loop-at : goal.invariant-loop-at
invariant-loop-at g l = record {
  within : l.at ≤ l.across_x;
  made : cells_by l.row l.plane (map g.T.Ends.list l.out.items)
      ≡ cells_by l.row l.plane (map g.T.Ends.list l.initial.out.items) ++ cells_in_row l.inside l.row l.plane l.at l.first;
}

abbrev pub decreases-loop-at : goal.decreases-loop-at
decreases-loop-at g l = l.across_x - l.at
