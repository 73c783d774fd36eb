use Rattle.std.proofs.Common.{◌<◌, ◌++◌, ◌∙◌, List, ℕ, length, ap, arith}
use Rattle.std.proofs.lemmas.List.{take_all}
use Rattle.viz_sheet.specs.Arrays.{ranks_in}
use Rattle.viz_mesh_write.specs.Cells.{of_size}
use Rattle.viz_strip_write.specs.Steps.Rows.{rows_of}
use Rattle.viz_strip_write.proofs.CellLemmas.{sized-rows-more}
use Rattle.viz_strip_write.proofs.cells.put_of_size.Goals as goal

pub loop-index-preserved : goal.loop-index-preserved
loop-index-preserved c =
    let cells = ranks_in c.args.ranks.now in
    let i = c.loop-index.index in
    let below : i < length cells = omega (arith, c.loop-index-test.true, c.len-index-end.ensures.value, c.loop-index.auto.index-end) in
    sized-rows-more c.args.size cells i c.get.result.now c.args.text.now.items c.loop-index.text.items c.put_sized.new.text.items below c.get.ensures.value c.loop-index.invariant c.in_ok-put_sized.ensures

pub returns : goal.returns
returns c =
    let cells = ranks_in c.args.ranks.now in
    c.loop-index.invariant ∙ ap (λ (cs : List (List ℕ)). c.args.text.now.items ++ rows_of (of_size c.args.size cs)) (take_all c.loop-index.index cells (omega (arith, c.loop-index-test.false, c.len-index-end.ensures.value)))
