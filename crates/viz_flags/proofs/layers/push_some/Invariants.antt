use Rattle.std.proofs.Common.{◌≡◌, ◌++◌, map}
use Rattle.viz_grid_section.specs.Steps.Rows.{cells_in_row}
use Rattle.viz_flags.specs.Edges.{cells_by}
use Rattle.viz_flags.proofs.layers.push_some.Given as goal

abbrev pub invariant-loop-t : goal.invariant-loop-t
invariant-loop-t g l =
    cells_by l.row l.plane (map g.T.Ends.list l.out.items)
    ≡ cells_by l.row l.plane (map g.T.Ends.list l.initial.out.items) ++ cells_in_row l.inside l.row l.plane l.t l.first
