use Rattle.std.proofs.lemmas.Nat.Bits.{bit_at_and}
use Rattle.viz_mixed.proofs.corners.all.Goals as goal

pub returns : goal.returns
returns c = bit_at_and c.args.a c.args.b
