use Rattle.std.proofs.Common.{◌≡◌, ℕ, ℤ, List, ◌++◌, ◌≤◌, ◌<◌, length, map, ap, ap₂, ◌∙◌, arith}
use Rattle.std.proofs.lemmas.List.{length-map}
use Rattle.viz_extent.specs.Extent.{size_x, IsOnAxis}
use Rattle.viz_extent.specs.Numbering.{index_at}
use Rattle.viz_extent.proofs.PartLemmas.{numbers-read}
use Rattle.viz_meaning.specs.ImageFilters.{reckoned, clamped}
use Rattle.viz_image_ops.specs.Joined.{run_of}
use Rattle.viz_image_ops.specs.Reckoned.{reckoned_at}
use Rattle.viz_image_ops.proofs.JoinedLemmas.{lists_more}
use Rattle.viz_image_ops.proofs.ArithLemmas.{run_from_items, number_of_row, row_within}
use Rattle.viz_image_ops.proofs.arithmetic.push_plane.Goals as goal

pub part_of-first-requires : goal.part_of-first-requires
part_of-first-requires g c =
    let whole = c.args.grids.now.first in
    let out = c.args.grids.now.out in
    let j = c.loop-j.j in
    let read = numbers-read c.bounds.result out c.bounds.ensures.value in
    let y : IsOnAxis out.y0 out.y1 j = record { at_least = omega (arith, read.y0, c.loop-j.auto.j); at_most = omega (arith, read.y1, c.loop-j-test.true) } in
    let start = c.index_of-first_start.ensures.value ∙ ap (λ (n : ℕ). index_at whole n j c.args.k) read.x0 in
    let within = row_within whole out j c.args.k c.requires.on.in_first c.bounds.ensures.valid.x.order y c.requires.z in
    record { within = omega (arith, start, within, c.requires.row, c.requires.on.first, length-map c.args.xs.now g.T.Number.value) }

pub part_of-second-requires : goal.part_of-second-requires
part_of-second-requires g c =
    let whole = c.args.grids.now.second in
    let out = c.args.grids.now.out in
    let j = c.loop-j.j in
    let read = numbers-read c.bounds.result out c.bounds.ensures.value in
    let y : IsOnAxis out.y0 out.y1 j = record { at_least = omega (arith, read.y0, c.loop-j.auto.j); at_most = omega (arith, read.y1, c.loop-j-test.true) } in
    let start = c.index_of-second_start.ensures.value ∙ ap (λ (n : ℕ). index_at whole n j c.args.k) read.x0 in
    let within = row_within whole out j c.args.k c.requires.on.in_second c.bounds.ensures.valid.x.order y c.requires.z in
    record { within = omega (arith, start, within, c.requires.row, c.requires.on.second, length-map c.args.ys.now g.U.Number.value) }

pub loop-j-preserved : goal.loop-j-preserved
loop-j-preserved g c =
    let grids = c.args.grids.now in
    let out = grids.out in
    let op = c.args.op in
    let xs = map g.T.Number.value c.args.xs.now in
    let ys = map g.U.Number.value c.args.ys.now in
    let j = c.loop-j.j in
    let k = c.args.k in
    let read = numbers-read c.bounds.result out c.bounds.ensures.value in
    let from : out.y0 ≤ j = omega (arith, read.y0, c.loop-j.auto.j) in
    let at = λ (j i : ℕ). reckoned_at op grids xs ys i j k in
    let row = c.reckon_row.new.row in
    let same : length c.loop-j.row ≡ size_x out = omega (arith, c.loop-j.auto.row, c.requires.row) in
    let long : length row ≡ size_x out = omega (arith, c.reckon_row.auto.row, same) in
    let first_start = c.index_of-first_start.ensures.value ∙ ap (λ (n : ℕ). index_at grids.first n j k) read.x0 in
    let second_start = c.index_of-second_start.ensures.value ∙ ap (λ (n : ℕ). index_at grids.second n j k) read.x0 in
    let made : row ≡ run_of (at j) out.x0 (size_x out) =
    run_from_items row (at j) out.x0 (size_x out) long (λ m below.
    let here : m < length c.args.row.now = omega (arith, below, c.requires.row) in
    c.reckon_row.ensures m (omega (arith, below, same))
    ∙ ap₂ (λ (p q : ℤ). clamped (reckoned op p q))
    (number_of_row g.T.Number.value c.args.xs.now c.part_of-first.result.now grids.first c.index_of-first_start.result (length c.args.row.now) out.x0 m j k here c.requires.on.in_first.x.first first_start c.part_of-first.ensures.value)
    (number_of_row g.U.Number.value c.args.ys.now c.part_of-second.result.now grids.second c.index_of-second_start.result (length c.args.row.now) out.x0 m j k here c.requires.on.in_second.x.first second_start c.part_of-second.ensures.value)) in
    lists_more (λ j. run_of (at j) out.x0 (size_x out)) out.y0 j c.args.all.now.items c.loop-j.all.items c.extend_from_slice.new.self.items from c.loop-j.invariant
    (c.in_ok-extend_from_slice.ensures.items ∙ ap (λ (t : List ℤ). c.loop-j.all.items ++ t) made)
