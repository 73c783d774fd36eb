use Rattle.std.proofs.Common.{◌<◌, ◌==◌, length, map, ap, sym, ◌∙◌}
use Rattle.viz_sheet.specs.Steps.Lookup.{looked_up}
use Rattle.viz_piece_stitch.proofs.ListLemmas.{map-fork, pushed-own}
use Rattle.viz_piece_stitch.proofs.cells.with_cells.Goals as goal

pub loop-i-preserved : goal.loop-i-preserved
loop-i-preserved g c =
    let ranks = g.C.RankCell.ranks in
    let cells = c.args.ranks.now in
    let i = c.loop-i.i in
    let l : i < length cells = c.loop-i-test.true in
    pushed-own (λ (cell : _). looked_up c.args.numbers.now (ranks cell)) cells c.args.part.now.levels i c.index-ranks-i.result
    (map ranks c.args.cells.items) (map ranks c.loop-i.cells.items) (map ranks c.push_if.new.cells.items) (ranks c.numbered.result) c.level.result
    l (c.known.ensures.valid.matched ∙ sym c.requires.matched)
    (map-fork ranks (c.level.result == 0) c.numbered.result c.loop-i.cells.items c.push_if.new.cells.items c.in_ok-push_if.ensures)
    c.level.ensures.value
    (c.numbered.ensures ∙ ap (λ (cell : _). looked_up c.args.numbers.now (ranks cell)) c.index-ranks-i.is)
    c.loop-i.invariant
