use Rattle.viz_cells.proofs.NameLemmas.{cut-edges, cut-named}
use Rattle.viz_cells.proofs.laws.names_are_of_their_cell.Goals as goal

pub returns-clause-names : goal.returns-clause-names
returns-clause-names c inside cell h = cut-edges inside cell h

pub returns-clause-cut : goal.returns-clause-cut
returns-clause-cut c inside cell name h e = cut-named inside cell name h e
