use Rattle.std.proofs.Common.{◌≡◌, ◌+◌, map}
use Rattle.viz_grid_section.specs.Steps.Rows.{cells_in_layers}
use Rattle.viz_flags.specs.Edges.{cells_by}
use Rattle.viz_flags.proofs.layers.section.Given as goal

abbrev pub invariant-loop-k : goal.invariant-loop-k
invariant-loop-k g l =
    cells_by (l.across_x + 1) l.plane (map g.T.Ends.list l.out.items) ≡ cells_in_layers l.inside (l.across_x + 1) l.plane l.across_x l.across_y l.k
