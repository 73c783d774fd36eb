use Rattle.std.proofs.Common.{◌<◌, length, get_or, take, arith}
use Rattle.std.proofs.lemmas.List.{take_more}
use Rattle.std.proofs.lemmas.List.Elements.{All-get_or}
use Rattle.viz_sheet.proofs.MarkingLemmas.{rank_marked}
use Rattle.viz_piece_restrict.proofs.marking.mark_cell.Goals as goal

pub loop-rank-preserved : goal.loop-rank-preserved
loop-rank-preserved c =
    let cell = c.args.cell.now in
    let i = c.loop-rank.rank-index in
    let l : i < length cell = c.loop-rank-test.true in
    let below : get_or cell i 0 < length c.args.marks.now = All-get_or (λ r. r < length c.args.marks.now) cell i 0 l c.requires in
    rw (take_more cell i 0 l)
    (rank_marked c.args.marks.now (take i cell) c.loop-rank.marks (get_or cell i 0) (omega (arith, c.loop-rank.invariant.size)) c.loop-rank.invariant)
