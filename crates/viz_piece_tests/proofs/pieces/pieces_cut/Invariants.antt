use Rattle.std.proofs.Common.{List}
use Rattle.viz_sheet.specs.Sheet.{SheetData}
use Rattle.viz_piece_tests.specs.Steps.Cut.{AreCut, IsCutInTurn}
use Rattle.viz_piece_tests.proofs.pieces.pieces_cut.Given as goal

abbrev pub invariant-loop-p : goal.invariant-loop-p
invariant-loop-p l =
    (sheets : List SheetData) → IsCutInTurn sheets 0 1 0 l.whole
    → AreCut sheets l.n l.ghosts l.p l.parts.items
