use Rattle.viz_clip_image.proofs.FitLaw.{images-simple}
use Rattle.viz_clip_image.proofs.OnceLemmas.{tetrahedra-differ}
use Rattle.viz_clip_image.proofs.laws.images_are_simple.Goals as goal

pub returns-clause-differ : goal.returns-clause-differ
returns-clause-differ c = tetrahedra-differ

pub returns-clause-simple : goal.returns-clause-simple
returns-clause-simple c = images-simple tetrahedra-differ c.facets_are_shared.ensures.shared
