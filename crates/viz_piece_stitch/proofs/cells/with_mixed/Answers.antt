use Rattle.std.proofs.Common.{◌<◌, [], length, ap, sym, ◌∙◌, arith}
use Rattle.viz_sheet.specs.Arrays.{ranks_in}
use Rattle.viz_sheet.specs.Steps.Lookup.{looked_up}
use Rattle.viz_piece_stitch.proofs.ListLemmas.{pushed-own}
use Rattle.viz_piece_stitch.proofs.cells.with_mixed.Goals as goal

pub loop-i-preserved : goal.loop-i-preserved
loop-i-preserved c =
    let cells = ranks_in c.args.ranks.now in
    let i = c.loop-i.i in
    let l : i < length cells = omega (arith, c.loop-i-test.true, c.len-i-end.ensures.value) in
    pushed-own (looked_up c.args.numbers.now) cells c.args.part.now.levels i []
    c.args.cells.items c.loop-i.cells.items c.push_if.new.cells.items c.mixed_numbered-cell.result c.level.result
    l (c.known.ensures.valid.matched ∙ sym c.requires.matched) c.in_ok-push_if.ensures c.level.ensures.value
    (c.mixed_numbered-cell.ensures ∙ ap (looked_up c.args.numbers.now) c.get.ensures.value)
    c.loop-i.invariant
