use Rattle.viz_mesh_meaning.proofs.FacetLemmas.{boundary-sheet, lone-facets_of}
use Rattle.viz_mesh_meaning.proofs.laws.boundaries_have_facets.Goals as goal

pub returns-clause-sheet : goal.returns-clause-sheet
returns-clause-sheet c s h = boundary-sheet s h

pub returns-clause-facets : goal.returns-clause-facets
returns-clause-facets c cells cell h = lone-facets_of cells cell h
