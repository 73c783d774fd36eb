use Rattle.std.proofs.Common.{◌≡◌, ◌+◌, ◌-◌, ◌*◌, ◌≤◌, ◌++◌, map, get_or, pos}
use Rattle.std.specs.Vec.{vec_len, vec_capacity}
use Rattle.viz_meaning.specs.ImageFilters.{sum_of}
use Rattle.viz_image_ops.specs.Joined.{run_of}
use Rattle.viz_image_ops.specs.Sums.{row_mean}
use Rattle.viz_image_ops.proofs.MeanLemmas.{IsWindow}
use Rattle.viz_image_ops.proofs.means.push_whole.Given as goal

-- the means so far, room for those that are left, and the window of the sum
abbrev pub invariant-loop-i : goal.invariant-loop-i
invariant-loop-i g l = record {
  means : map g.T.Number.value l.means.items ≡ map g.T.Number.value l.fn.means.items ++ run_of (row_mean l.row l.rows l.axis) (l.before + 1) (l.i - (l.before + 1));
  room : vec_len l.means + (l.last_index + 1 - l.i) ≤ vec_capacity l.means;
  sum : l.sum ≡ sum_of (λ p. get_or l.row p (pos 0)) l.first (l.behind - l.first);
  window : IsWindow l.axis (l.i - 1) l.first l.behind;
  count : l.count.number ≡ l.rows * (l.behind - l.first);
}
