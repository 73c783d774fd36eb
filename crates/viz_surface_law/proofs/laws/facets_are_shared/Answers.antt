use Rattle.viz_surface_law.proofs.Sharing.SharedLaw as law
use Rattle.viz_surface_law.proofs.laws.facets_are_shared.Goals as goal

pub returns : goal.returns
returns c = record { shared = law.facets_are_shared }
