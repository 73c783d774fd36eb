use Rattle.std.proofs.Common.{◌≡◌, ◌-◌, ◌++◌, map, get_or, pos}
use Rattle.viz_meaning.specs.ImageFilters.{sum_of}
use Rattle.viz_image_ops.specs.Joined.{run_of}
use Rattle.viz_image_ops.specs.Sums.{row_mean}
use Rattle.viz_image_ops.proofs.MeanLemmas.{IsBehind}
use Rattle.viz_image_ops.proofs.means.push_any.Given as goal

-- the means so far, and the window of the sum
abbrev pub invariant-loop-i : goal.invariant-loop-i
invariant-loop-i g l = record {
  means : map g.T.Number.value l.means.items ≡ map g.T.Number.value l.fn.means.items ++ run_of (row_mean l.row l.rows l.axis) l.first_index (l.i - l.first_index);
  sum : l.sum ≡ sum_of (λ p. get_or l.row p (pos 0)) l.first (l.behind - l.first);
  window : IsBehind l.axis l.i l.first l.behind;
}
