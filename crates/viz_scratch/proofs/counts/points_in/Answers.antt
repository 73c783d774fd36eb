use Rattle.std.proofs.Common.{◌+◌, ◌∙◌, ap, length, arith}
use Rattle.viz_scratch.proofs.CountLemmas.{points_more, points_below}
use Rattle.viz_scratch.proofs.counts.points_in.Goals as goal

pub returns-in_err-count-clause-none : goal.returns-in_err-count-clause-none
returns-in_err-count-clause-none c none =
    let more = points_more c.args.sheets.now c.loop-sheet.sheet-index c.sheet-item.result c.loop-sheet-test.true c.sheet-item.is in
    omega (arith, c.in_err-count.ensures, more, c.loop-sheet.invariant, c.len.ensures.value ∙ ap (λ ps. length ps) c.places.ensures.value, points_below (c.loop-sheet.sheet-index + 1) c.args.sheets.now)
