use Rattle.std.proofs.Common.{◌+◌, [], ◌∙◌, subst, sym, take}
use Rattle.std.specs.List.{All, Contains}
use Rattle.viz_cells.specs.Steps.Numbered.{AreNumbered}
use Rattle.viz_cells.proofs.NumberLemmas.{all-at, item-at, numbered-more}
use Rattle.viz_cells.proofs.numbering.lines.Goals as goal

pub two-requires-clause-has : goal.two-requires-clause-has
two-requires-clause-has c =
    all-at (All (Contains c.args.keys.now)) c.args.pieces.now c.loop-piece.piece-index c.piece-item.result c.keys.result.now
    c.requires.keys.has c.loop-piece-test.true c.piece-item.is c.keys.ensures.value

pub loop-piece-preserved : goal.loop-piece-preserved
loop-piece-preserved c =
    let i = c.loop-piece.piece-index in
    let pieces = c.args.pieces.now in
    let keys = c.args.keys.now in
    subst (AreNumbered keys (take (i + 1) pieces)) (sym c.in_ok-push.ensures.items)
    (numbered-more keys pieces c.loop-piece.cells.items i c.keys.result.now c.two.result c.loop-piece-test.true
    (c.keys.ensures.value ∙ item-at pieces i c.piece-item.result [] c.loop-piece-test.true c.piece-item.is) c.loop-piece.invariant c.two.ensures.value)
