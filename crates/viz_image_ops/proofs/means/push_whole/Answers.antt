use Rattle.std.proofs.Common.{◌≡◌, ◌+◌, ◌-◌, ◌*◌, ◌≤◌, ℕ, ℤ, pos, map, length, get_or, to_z, of_z, ap, ap₂, ◌∙◌, sym, subst, arith}
use Rattle.std.specs.Int.{w128}
use Rattle.std.proofs.lemmas.Int.{ints}
use Rattle.viz_meaning.specs.ImageFilters.{sum_of, floor_of}
use Rattle.viz_image_ops.specs.Sums.{IsWithin, reach_below, reach_above, row_mean, window_size}
use Rattle.viz_image_ops.proofs.JoinedLemmas.{run_more}
use Rattle.viz_image_ops.proofs.MeanLemmas.{IsWindow, room_of, less_room, row_sum_within, window_places, whole_next}
use Rattle.viz_image_ops.proofs.means.push_whole.Goals as goal

pub moved-sum-requires-clause-room : goal.moved-sum-requires-clause-room
moved-sum-requires-clause-room g c =
    let row = c.args.row.now in
    less_room row c.window-first.result.1 (length row) (room_of g.T.Number.kind row c.args.rows (length row) c.requires.range c.requires.few)
    (omega (arith, c.window-first.ensures.places, c.requires.row))

pub moved_by_one-sum-requires-clause-room : goal.moved_by_one-sum-requires-clause-room
moved_by_one-sum-requires-clause-room g c =
    let row = c.args.row.now in
    let axis = c.args.axis.now in
    let before = c.args.before in
    let last = c.args.last_index in
    let i = c.loop-i.i in
    let to : i ≤ last = omega (arith, c.loop-i-test.true) in
    let next = whole_next axis before last i c.loop-i.first c.loop-i.behind c.requires.reach c.loop-i.auto.i to c.requires.low c.requires.high c.loop-i.invariant.window in
    let places = window_places axis before last i c.requires.reach (omega (arith, c.loop-i.auto.i)) to in
    less_room row (c.loop-i.behind + 1) (length row) (room_of g.T.Number.kind row c.args.rows (length row) c.requires.range c.requires.few)
    (omega (arith, next.to, places, c.requires.row))

pub mean-requires : goal.mean-requires
mean-requires g c =
    let kind = g.T.Number.kind in
    let row = c.args.row.now in
    let axis = c.args.axis.now in
    let before = c.args.before in
    let last = c.args.last_index in
    let i = c.loop-i.i in
    let first = c.loop-i.first + 1 in
    let size = c.loop-i.behind + 1 - first in
    let to : i ≤ last = omega (arith, c.loop-i-test.true) in
    let next = whole_next axis before last i c.loop-i.first c.loop-i.behind c.requires.reach c.loop-i.auto.i to c.requires.low c.requires.high c.loop-i.invariant.window in
    let places = window_places axis before last i c.requires.reach (omega (arith, c.loop-i.auto.i)) to in
    let kept : to_z w128 (of_z w128 c.moved_by_one-sum.result) ≡ c.moved_by_one-sum.result = omega (arith, ints) in
    let is : to_z w128 (of_z w128 c.moved_by_one-sum.result) ≡ sum_of (λ p. get_or row p (pos 0)) first size = kept ∙ c.moved_by_one-sum.ensures in
    let same : c.loop-i.behind - c.loop-i.first ≡ size = omega arith in
    let number : c.new-count.result.number ≡ c.args.rows * size = c.loop-i.invariant.count ∙ ap (λ (n : ℕ). c.args.rows * n) same in
    subst (λ (n : ℕ). IsWithin (n * reach_below kind) (n * reach_above kind) (to_z w128 (of_z w128 c.moved_by_one-sum.result))) (sym number)
    (subst (λ (z : ℤ). IsWithin (c.args.rows * size * reach_below kind) (c.args.rows * size * reach_above kind) z) (sym is)
    (row_sum_within kind row c.args.rows first size c.requires.range (omega (arith, next.from, next.to, places, c.requires.row, c.loop-i.invariant.window.from, c.loop-i.invariant.window.to))))

pub loop-i-preserved : goal.loop-i-preserved
loop-i-preserved g c =
    let value = g.T.Number.value in
    let row = c.args.row.now in
    let axis = c.args.axis.now in
    let rows = c.args.rows in
    let before = c.args.before in
    let last = c.args.last_index in
    let i = c.loop-i.i in
    let first = c.loop-i.first + 1 in
    let behind = c.loop-i.behind + 1 in
    let to : i ≤ last = omega (arith, c.loop-i-test.true) in
    let next = whole_next axis before last i c.loop-i.first c.loop-i.behind c.requires.reach c.loop-i.auto.i to c.requires.low c.requires.high c.loop-i.invariant.window in
    let kept : to_z w128 (of_z w128 c.moved_by_one-sum.result) ≡ c.moved_by_one-sum.result = omega (arith, ints) in
    let is : to_z w128 (of_z w128 c.moved_by_one-sum.result) ≡ sum_of (λ p. get_or row p (pos 0)) first (behind - first) = kept ∙ c.moved_by_one-sum.ensures in
    let size : behind - first ≡ window_size axis i = ap₂ (λ (a b : ℕ). a - b) next.to next.from in
    let same : c.loop-i.behind - c.loop-i.first ≡ behind - first = omega arith in
    let number : c.new-count.result.number ≡ rows * (behind - first) = c.loop-i.invariant.count ∙ ap (λ (n : ℕ). rows * n) same in
    let mean : value c.mean.result ≡ row_mean row rows axis i =
    c.mean.ensures ∙ ap₂ floor_of (is ∙ ap₂ (sum_of (λ p. get_or row p (pos 0))) next.from size) (number ∙ ap (λ (n : ℕ). rows * n) size) in
    let here : i ≡ i + 1 - 1 = omega arith in
    record {
      means =
          run_more value (row_mean row rows axis) (before + 1) i (map value c.args.means.now.items) c.loop-i.means.items c.push_reserved.new.self.items
          c.mean.result c.loop-i.auto.i c.loop-i.invariant.means c.push_reserved.ensures.items mean;
      room = omega (arith, c.loop-i.invariant.room, c.push_reserved.ensures.len, c.push_reserved.ensures.capacity, c.loop-i-test.true);
      sum = is;
      window = subst (λ (n : ℕ). IsWindow axis n first behind) here next;
      count = number;
    }
