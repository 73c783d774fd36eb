use Rattle.std.proofs.Common.{subst, arith}
use Rattle.viz_cells.specs.Steps.Numbered.{AreAdded}
use Rattle.viz_cells.proofs.AddedLemmas.{ends-more, ends-of}
use Rattle.viz_cells.proofs.key_list.ends.Goals as goal

pub loop-piece-preserved : goal.loop-piece-preserved
loop-piece-preserved c =
    ends-more c.args.pieces.now c.loop-piece.ends.items c.add_keys.new.ends.items c.piece-item.result c.loop-piece.piece-index c.loop-piece-test.true c.piece-item.is c.loop-piece.invariant
    (subst (λ t. AreAdded c.loop-piece.ends.items t c.add_keys.new.ends.items) c.keys.ensures.value c.in_ok-add_keys.ensures)

pub returns : goal.returns
returns c =
    let whole = c.loop-piece-test.false in
    record { value = ends-of c.args.pieces.now c.loop-piece.ends.items c.loop-piece.piece-index (omega (arith, whole)) c.loop-piece.invariant }
