use Rattle.viz_fraction.proofs.CaseEdges.{uses_cut_edges, whole_cells, cells_fit_places, no_cell_of_one_side, complement_has_same_ends}
use Rattle.viz_fraction.proofs.case_laws.cells_cut_the_simplex.Goals as goal

pub returns : goal.returns
returns c = record {
  edges = uses_cut_edges;
  whole = whole_cells;
  fits = cells_fit_places;
  one_side = no_cell_of_one_side;
  complement = complement_has_same_ends;
}
