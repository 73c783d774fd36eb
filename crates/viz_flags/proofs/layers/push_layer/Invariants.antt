use Rattle.std.proofs.Common.{◌≡◌, ◌++◌, map}
use Rattle.viz_grid_section.specs.Steps.Rows.{cells_in_layer}
use Rattle.viz_flags.specs.Edges.{cells_by}
use Rattle.viz_flags.proofs.layers.push_layer.Given as goal

abbrev pub invariant-loop-j : goal.invariant-loop-j
invariant-loop-j g l =
    cells_by l.row l.plane (map g.T.Ends.list l.out.items)
    ≡ cells_by l.row l.plane (map g.T.Ends.list l.initial.out.items) ++ cells_in_layer l.inside l.row l.plane l.across_x l.j l.first
