use Rattle.std.proofs.Common.{◌≡◌, ℕ, ◌<◌, get_or, pos}
use Rattle.viz_image_ops.proofs.means.clear.Given as goal

-- the sums that are cleared
abbrev pub invariant-loop-sum : goal.invariant-loop-sum
invariant-loop-sum l = (p : ℕ) → p < l.sum-index → get_or l.sums p (pos 0) ≡ pos 0
