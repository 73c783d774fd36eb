use Rattle.std.proofs.Common.{◌+◌, List, length, sym, subst, ◌∙◌}
use Rattle.std.proofs.lemmas.List.{get_or_default}
use Rattle.viz_parts.specs.Parts.{PartSheetData}
use Rattle.viz_parts.specs.Pieces.{IsSheetPart, own_share}
use Rattle.viz_sheet.specs.Sheet.{SheetData}
use Rattle.viz_piece_restrict.specs.Steps.Cuts.{ArePieces}
use Rattle.viz_piece_restrict.proofs.PieceLemmas.{pieces-more}
use Rattle.viz_piece_restrict.proofs.mesh.pieces_in_turn.Goals as goal

pub loop-part-preserved : goal.loop-part-preserved
loop-part-preserved c =
    let i = c.loop-part.part-index in
    let parts = c.args.parts.now in
    let item = c.part-item.result in
    let cut = c.in_ok-piece_in_turn.field-0 in
    let is : IsSheetPart item.sheet (own_share c.args.p c.args.n (length item.sheet.cells)) c.args.ghosts cut =
    subst (λ (s : SheetData). IsSheetPart s (own_share c.args.p c.args.n (length s.cells)) c.args.ghosts cut) c.sheet.ensures.value c.in_ok-piece_in_turn.ensures in
    subst (λ (cuts : List PartSheetData). ArePieces c.args.p c.args.n c.args.ghosts (i + 1) parts cuts) (sym {A = List PartSheetData} c.in_ok-push.ensures.items)
    (pieces-more c.args.p c.args.n c.args.ghosts i parts c.loop-part.cuts.items item cut (λ d. get_or_default parts i d item c.loop-part-test.true ∙ sym c.part-item.is) is c.loop-part.invariant)
