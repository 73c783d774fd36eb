use Rattle.viz_file_mesh.proofs.GridCells.{grid-cells}
use Rattle.viz_file_mesh.proofs.PolyCells.{polydata-cells, points-few}
use Rattle.viz_file_mesh.proofs.laws.read_pieces_are_cells.Goals as goal

pub returns-clause-grid : goal.returns-clause-grid
returns-clause-grid c = grid-cells

pub returns-clause-polydata : goal.returns-clause-polydata
returns-clause-polydata c = polydata-cells

pub returns-clause-few : goal.returns-clause-few
returns-clause-few c = points-few
