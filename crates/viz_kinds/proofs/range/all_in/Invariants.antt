use Rattle.std.proofs.Common.{◌≡◌, drop}
use Rattle.viz_kinds.specs.Values.{fits_range}
use Rattle.viz_kinds.proofs.range.all_in.Given as goal

abbrev pub invariant-loop-n : goal.invariant-loop-n
invariant-loop-n l = fits_range l.low l.high (drop l.n-index l.numbers) ≡ fits_range l.low l.high l.numbers
