use Rattle.std.proofs.Common.{◌≡◌, ◌<◌, map, length, get_or, pos, to_z, of_z, ap, ap₂, ◌∙◌, arith}
use Rattle.std.specs.Int.{w64, w128}
use Rattle.std.proofs.lemmas.Int.{ints}
use Rattle.viz_meaning.specs.ImageFilters.{reckoned, clamped}
use Rattle.viz_image_ops.proofs.ArithLemmas.{made_more}
use Rattle.viz_image_ops.proofs.SampleLemmas.{value_read}
use Rattle.viz_image_ops.proofs.arithmetic.reckon_wide.Goals as goal

pub loop-p-preserved : goal.loop-p-preserved
loop-p-preserved g c =
    let xs = c.args.xs.now in
    let ys = c.args.ys.now in
    let first = g.T.Number.value in
    let second = g.U.Number.value in
    let p = c.loop-p.p in
    let in_ys : p < length ys = omega (arith, c.loop-p-test.true, c.requires.first, c.requires.second) in
    let in_row : p < length c.loop-p.row = omega (arith, c.loop-p-test.true, c.requires.first, c.loop-p.auto.row) in
    let x : to_z w128 (of_z w128 c.whole.result) ≡ c.whole.result = omega (arith, ints) in
    let y : to_z w128 (of_z w128 c.whole-in-loop-p.result) ≡ c.whole-in-loop-p.result = omega (arith, ints) in
    let n : to_z w128 (of_z w128 c.reckoned.result) ≡ c.reckoned.result = omega (arith, ints) in
    let z : to_z w64 (of_z w64 c.clamped.result) ≡ c.clamped.result = omega (arith, ints) in
    let read_x = value_read first xs p c.index-xs-p.result c.loop-p-test.true c.index-xs-p.is in
    let read_y = value_read second ys p c.index-ys-p.result in_ys c.index-ys-p.is in
    made_more (λ p. clamped (reckoned c.args.op (get_or (map first xs) p (pos 0)) (get_or (map second ys) p (pos 0)))) c.loop-p.row p
    (to_z w64 (of_z w64 c.clamped.result)) in_row c.loop-p.invariant
    (z ∙ c.clamped.ensures
    ∙ ap clamped (n ∙ c.reckoned.ensures ∙ ap₂ (reckoned c.args.op) (x ∙ c.whole.ensures.value ∙ read_x) (y ∙ c.whole-in-loop-p.ensures.value ∙ read_y)))
