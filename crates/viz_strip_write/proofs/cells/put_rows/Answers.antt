use Rattle.std.proofs.Common.{◌<◌, ◌++◌, ◌∙◌, List, ℕ, length, ap, arith}
use Rattle.std.proofs.lemmas.List.{take_all}
use Rattle.viz_strip_write.specs.Steps.Rows.{rows_of}
use Rattle.viz_strip_write.proofs.CellLemmas.{rows-more}
use Rattle.viz_strip_write.proofs.cells.put_rows.Goals as goal

pub loop-index-preserved : goal.loop-index-preserved
loop-index-preserved c =
    let rows = c.args.rows.now in
    let i = c.loop-index.index in
    let below : i < length rows = omega (arith, c.loop-index-test.true, c.len-index-end.ensures.value, c.loop-index.auto.index-end) in
    rows-more rows i c.get.result.now c.args.text.now.items c.loop-index.text.items c.put_row.new.text.items below c.get.ensures.value c.loop-index.invariant c.in_ok-put_row.ensures

pub returns : goal.returns
returns c =
    let rows = c.args.rows.now in
    c.loop-index.invariant ∙ ap (λ (rs : List (List ℕ)). c.args.text.now.items ++ rows_of rs) (take_all c.loop-index.index rows (omega (arith, c.loop-index-test.false, c.len-index-end.ensures.value)))
