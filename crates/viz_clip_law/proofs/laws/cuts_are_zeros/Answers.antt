use Rattle.viz_clip_law.proofs.ZeroLaw.{cuts-zero}
use Rattle.viz_clip_law.proofs.laws.cuts_are_zeros.Goals as goal

pub returns : goal.returns
returns c = record { zeros = cuts-zero }
