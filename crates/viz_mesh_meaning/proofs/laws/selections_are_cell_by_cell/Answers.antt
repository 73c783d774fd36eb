use Rattle.viz_mesh_meaning.proofs.SelectLemmas.{selection-cells, selection-sheet, test-within}
use Rattle.viz_mesh_meaning.proofs.laws.selections_are_cell_by_cell.Goals as goal

pub returns-clause-cells : goal.returns-clause-cells
returns-clause-cells c all lo hi s = selection-cells all lo hi s

pub returns-clause-sheet : goal.returns-clause-sheet
returns-clause-sheet c all lo hi s h = selection-sheet all lo hi s h

pub returns-clause-within : goal.returns-clause-within
returns-clause-within c lo hi p = test-within lo hi p
