use Rattle.viz_strip.proofs.KeptLemmas.{keep}
use Rattle.viz_strip.proofs.laws.strips_keep_triangles.Goals as goal

pub returns : goal.returns
returns c = record { kept = keep }
