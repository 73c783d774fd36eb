use Rattle.viz_mesh_meaning.proofs.FitLemmas.{boundary-fits, merge-fits, selection-fits}
use Rattle.viz_mesh_meaning.proofs.laws.filters_fit.Goals as goal

pub returns-clause-selection : goal.returns-clause-selection
returns-clause-selection c all lo hi s fit = selection-fits all lo hi s fit

pub returns-clause-boundary : goal.returns-clause-boundary
returns-clause-boundary c s h fit = boundary-fits s h fit

pub returns-clause-merge : goal.returns-clause-merge
returns-clause-merge c sheets h = merge-fits sheets h
