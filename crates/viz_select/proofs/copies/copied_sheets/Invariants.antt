use Rattle.std.proofs.Common.{◌≡◌, take}
use Rattle.viz_select.proofs.copies.copied_sheets.Given as goal

abbrev pub invariant-loop-sheet : goal.invariant-loop-sheet
invariant-loop-sheet l = l.copies.items ≡ take l.sheet-index l.sheets
