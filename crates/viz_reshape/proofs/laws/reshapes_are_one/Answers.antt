use Rattle.viz_reshape.proofs.OneLemmas.{reshapes_one}
use Rattle.viz_reshape.proofs.laws.reshapes_are_one.Goals as goal

pub returns : goal.returns
returns c = record { one = reshapes_one c.rules_are_one.ensures.data c.strips_are_one.ensures.one }
