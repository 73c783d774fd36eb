use Rattle.viz_fraction.proofs.CaseFacingLemmas.{faces_outside, faces_away}
use Rattle.viz_fraction.proofs.case_laws.triangles_face_outside.Goals as goal

pub returns : goal.returns
returns c = record { outside = faces_outside; inside = faces_away }
