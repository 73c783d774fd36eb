use Rattle.viz_mesh_meaning.proofs.CellLemmas.{cells-made, made-is}
use Rattle.viz_mesh_meaning.proofs.laws.cells_make_sheets.Goals as goal

pub returns-clause-sheet : goal.returns-clause-sheet
returns-clause-sheet c s cells h named among = cells-made s cells h named among

pub returns-clause-one : goal.returns-clause-one
returns-clause-one c s t h k keep = made-is s t h k keep
