use Rattle.std.proofs.Common.{◌≡◌, ◌-◌, ◌*◌, ℕ, ℤ, pos, map, length, get_or, to_z, of_z, ap, ap₂, ◌∙◌, sym, subst, arith}
use Rattle.std.specs.Int.{w128}
use Rattle.std.proofs.lemmas.Int.{ints}
use Rattle.viz_meaning.specs.ImageFilters.{sum_of, floor_of}
use Rattle.viz_image_ops.specs.Sums.{IsWithin, reach_below, reach_above, row_mean, window_size}
use Rattle.viz_image_ops.proofs.JoinedLemmas.{run_more}
use Rattle.viz_image_ops.proofs.MeanLemmas.{room_of, less_room, row_sum_within, reach_of, behind_more}
use Rattle.viz_image_ops.proofs.means.push_any.Goals as goal

pub moved-sum-requires-clause-room : goal.moved-sum-requires-clause-room
moved-sum-requires-clause-room g c =
    let row = c.args.row.now in
    less_room row c.window-next.result.1 (length row) (room_of g.T.Number.kind row c.args.rows (length row) c.requires.range c.requires.few)
    (omega (arith, c.window-next.ensures.places, c.requires.row))

pub mean-requires : goal.mean-requires
mean-requires g c =
    let kind = g.T.Number.kind in
    let row = c.args.row.now in
    let first = c.window-next.result.0 in
    let size = c.window-next.result.1 - first in
    let kept : to_z w128 (of_z w128 c.moved-sum.result) ≡ c.moved-sum.result = omega (arith, ints) in
    let is : to_z w128 (of_z w128 c.moved-sum.result) ≡ sum_of (λ p. get_or row p (pos 0)) first size = kept ∙ c.moved-sum.ensures in
    subst (λ (n : ℕ). IsWithin (n * reach_below kind) (n * reach_above kind) (to_z w128 (of_z w128 c.moved-sum.result))) (sym c.renewed-count.ensures)
    (subst (λ (z : ℤ). IsWithin (c.args.rows * size * reach_below kind) (c.args.rows * size * reach_above kind) z) (sym is)
    (row_sum_within kind row c.args.rows first size c.requires.range (omega (arith, c.window-next.ensures.some, c.window-next.ensures.places, c.requires.row))))

pub loop-i-preserved : goal.loop-i-preserved
loop-i-preserved g c =
    let value = g.T.Number.value in
    let row = c.args.row.now in
    let axis = c.args.axis.now in
    let rows = c.args.rows in
    let i = c.loop-i.i in
    let first = c.window-next.result.0 in
    let behind = c.window-next.result.1 in
    let is_first = c.window-next.ensures.first in
    let is_behind = c.window-next.ensures.behind in
    let kept : to_z w128 (of_z w128 c.moved-sum.result) ≡ c.moved-sum.result = omega (arith, ints) in
    let is : to_z w128 (of_z w128 c.moved-sum.result) ≡ sum_of (λ p. get_or row p (pos 0)) first (behind - first) = kept ∙ c.moved-sum.ensures in
    let size : behind - first ≡ window_size axis i = ap₂ (λ (a b : ℕ). a - b) is_behind is_first in
    let mean : value c.mean.result ≡ row_mean row rows axis i =
    c.mean.ensures ∙ ap₂ floor_of (is ∙ ap₂ (sum_of (λ p. get_or row p (pos 0))) is_first size) (c.renewed-count.ensures ∙ ap (λ (n : ℕ). rows * n) size) in
    record {
      means =
          run_more value (row_mean row rows axis) c.args.first_index i (map value c.args.means.now.items) c.loop-i.means.items c.push.new.self.items
          c.mean.result c.loop-i.auto.i c.loop-i.invariant.means c.in_ok-push.ensures.items mean;
      sum = is;
      window =
          behind_more axis i first behind (reach_of axis c.args.first_index c.args.last_index i c.requires.reach c.loop-i.auto.i (omega (arith, c.loop-i-test.true)))
          is_first is_behind;
    }
