use Rattle.viz_plan_truth.proofs.FaultLemmas.{faults_show}
use Rattle.viz_plan_truth.proofs.laws.faults_show.Goals as goal

pub returns : goal.returns
returns c = record {
  faults =
      faults_show c.rules_are_one.ensures.data c.given_sections_are_narrow.ensures.narrow
      c.datasets_are_divided.ensures.given c.sections_of_pieces_are_narrow.ensures.piece
      c.pieces_make_narrow.ensures.slab c.given_meshes_are_leveled.ensures.leveled;
}
