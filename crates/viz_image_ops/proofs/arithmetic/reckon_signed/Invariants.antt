use Rattle.std.proofs.Common.{map, get_or, pos}
use Rattle.viz_meaning.specs.ImageFilters.{reckoned, clamped}
use Rattle.viz_image_ops.proofs.ArithLemmas.{AreMade}
use Rattle.viz_image_ops.proofs.arithmetic.reckon_signed.Given as goal

-- what is reckoned so far
abbrev pub invariant-loop-p : goal.invariant-loop-p
invariant-loop-p g l =
    AreMade (λ p. clamped (reckoned g.R.Reckoning.op (get_or (map g.T.Number.value l.xs) p (pos 0)) (get_or (map g.U.Number.value l.ys) p (pos 0)))) l.p l.row
