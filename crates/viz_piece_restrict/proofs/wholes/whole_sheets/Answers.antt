use Rattle.std.proofs.Common.{◌++◌, ◌∷◌, [], List, subst, sym}
use Rattle.viz_parts.specs.Parts.{PartSheetData}
use Rattle.viz_piece_restrict.specs.Steps.Cuts.{AreWholes}
use Rattle.viz_piece_restrict.proofs.PieceLemmas.{wholes-more}
use Rattle.viz_piece_restrict.proofs.wholes.whole_sheets.Goals as goal

pub loop-sheet-preserved : goal.loop-sheet-preserved
loop-sheet-preserved c =
    subst (λ (parts : List PartSheetData). AreWholes (c.loop-sheet.yielded ++ c.in-Some.sheet ∷ []) parts) (sym c.in_ok-push.ensures.items)
    (wholes-more c.loop-sheet.yielded c.loop-sheet.parts.items c.in-Some.sheet c.whole_sheet.result c.whole_sheet.ensures.value c.whole_sheet.ensures.part c.loop-sheet.invariant)
