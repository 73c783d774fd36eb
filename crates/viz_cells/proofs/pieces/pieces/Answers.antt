use Rattle.std.proofs.Common.{◌<◌, ◌++◌, ◌∙◌, ap, arith, length, sym, take}
use Rattle.viz_sheet.specs.Arrays.{ranks_in}
use Rattle.viz_cells.specs.Steps.Pieces.{keys_in, pieces_of}
use Rattle.viz_cells.proofs.PieceLemmas.{pieces-none, pieces-more}
use Rattle.viz_cells.proofs.pieces.pieces.Goals as goal

pub loop-i-init : goal.loop-i-init
loop-i-init c = c.new-out.ensures.items ∙ sym (pieces-none c.args.inside.now)

pub loop-i-preserved : goal.loop-i-preserved
loop-i-preserved c =
    let cells = ranks_in c.args.ranks.now in
    let inside = c.args.inside.now in
    let i = c.loop-i.i in
    let l : i < length cells = omega (arith, c.loop-i-test.true, c.len-i-end.ensures.value) in
    c.in_ok-push_cell.ensures
    ∙ ap (λ m. m ++ keys_in inside c.get.result.now) c.loop-i.invariant
    ∙ ap (λ cell. pieces_of inside (take i cells) ++ keys_in inside cell) c.get.ensures.value
    ∙ sym (pieces-more inside cells i l)
