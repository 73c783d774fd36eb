use Rattle.viz_mesh_read.specs.Grid.{grid_of, grid_numbers}
use Rattle.viz_mesh_read.specs.GridSteps.{grid_at}
use Rattle.viz_counted_cells.proofs.MeetLemmas.{meets-decided}
use Rattle.viz_mesh_read.proofs.GridLaws.{decides-grid_numbers}
use Rattle.viz_mesh_read.proofs.grids.grid.Goals as goal

pub returns-clause-meets : goal.returns-clause-meets
returns-clause-meets c =
    meets-decided grid_of (grid_numbers c.args.binary c.args.later) (grid_at c.args.binary c.args.later) (decides-grid_numbers c.args.binary c.args.later) c.whole_grid.result c.args.lexer.now c.whole_grid.new.lexer c.whole_grid.ensures
