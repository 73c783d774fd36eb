use Rattle.viz_strip.proofs.OneLemmas.{strips-one}
use Rattle.viz_strip.proofs.laws.strips_are_one.Goals as goal

pub returns : goal.returns
returns c = record { one = strips-one }
