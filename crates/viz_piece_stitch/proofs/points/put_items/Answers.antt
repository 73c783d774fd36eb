use Rattle.std.proofs.Common.{◌<◌, length, get_or, take, arith}
use Rattle.std.proofs.lemmas.List.{take_more, length-take-le, get_or_read}
use Rattle.viz_piece_stitch.proofs.PutLemmas.{put_more}
use Rattle.viz_piece_stitch.proofs.points.put_items.Goals as goal

pub loop-i-preserved : goal.loop-i-preserved
loop-i-preserved g c =
    let ranks = c.args.ranks.now in
    let i = c.loop-i.i in
    let l : i < length ranks = c.loop-i-test.true in
    rw (take_more ranks i 0 l)
    (put_more c.args.points.now.items (take i ranks) c.args.piece.now c.loop-i.points.items _ (get_or ranks i 0) i _ (length-take-le i ranks (omega (arith, l))) c.loop-i.invariant c.in_ok-put_item.ensures
    (get_or_read c.args.piece.now i c.index-piece-i.result (omega (arith, l, c.requires.matched)) c.index-piece-i.is))
