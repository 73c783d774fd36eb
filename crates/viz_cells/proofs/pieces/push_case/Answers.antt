use Rattle.viz_cells.proofs.PieceLemmas.{two_held}
use Rattle.viz_cells.proofs.pieces.push_case.Goals as goal

pub returns : goal.returns
returns c =
    two_held c.args.cell.now c.args.case.now c.args.out.now.items c.push.new.self.items _ c.piece.result c.piece-2.result c.if-case-eq0.false c.if-case-eq1.false
    c.piece.ensures.value c.piece-2.ensures.value c.in_ok-push.ensures.items c.in_ok-push-2.ensures.items
