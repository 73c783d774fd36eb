use Rattle.std.proofs.Common.{◌+◌, ◌<◌, length, arith}
use Rattle.viz_strip_write.proofs.CellLemmas.{size-front-le, size-more}
use Rattle.viz_strip_write.proofs.cells.size_of_rows.Goals as goal

pub returns-then-size-clause-none : goal.returns-then-size-clause-none
returns-then-size-clause-none c =
    let rows = c.args.rows.now in
    let i = c.loop-index.index in
    let below : i < length rows = omega (arith, c.loop-index-test.true, c.len-index-end.ensures.value, c.loop-index.auto.index-end) in
    omega (arith, size-more rows i c.get.result.now below c.get.ensures.value, size-front-le rows (i + 1))
