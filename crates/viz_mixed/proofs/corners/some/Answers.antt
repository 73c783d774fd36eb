use Rattle.std.proofs.lemmas.Nat.Bits.{bit_at_or}
use Rattle.viz_mixed.proofs.corners.some.Goals as goal

pub returns : goal.returns
returns c = bit_at_or c.args.a c.args.b
