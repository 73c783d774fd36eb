use Rattle.viz_clip_image.proofs.FitLaw.{clips-fit}
use Rattle.viz_clip_image.proofs.laws.clips_of_images_fit.Goals as goal

pub returns : goal.returns
returns c = record {
  facets = clips-fit c.corners_are_the_cubes.ensures.only c.edges_are_steps.ensures.steps c.facets_are_shared.ensures.shared c.facets_lie_in_two.ensures.facets c.images_are_simple.ensures.simple;
}
