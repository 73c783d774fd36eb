use Rattle.viz_clip_law.proofs.FacetLaw.{facets-lie}
use Rattle.viz_clip_law.proofs.laws.facets_lie_in_two.Goals as goal

pub returns : goal.returns
returns c = record { facets = facets-lie }
