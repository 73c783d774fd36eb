use Rattle.viz_piece_layers.proofs.StitchLemmas as lemma
use Rattle.viz_piece_layers.proofs.laws.pieces_stitch.Goals as goal

pub returns : goal.returns
returns c = record {
  whole = lemma.pieces_stitch c.corners_are_the_cubes.ensures.only c.edges_are_steps.ensures.steps c.tetrahedra_are_a_sheet.ensures.sheet;
}
