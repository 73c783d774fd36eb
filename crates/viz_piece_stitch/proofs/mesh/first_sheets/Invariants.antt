use Rattle.viz_piece_stitch.specs.Steps.Columns.{AreJoinedSheets}
use Rattle.viz_piece_stitch.proofs.mesh.first_sheets.Given as goal

abbrev pub invariant-loop-sheet : goal.invariant-loop-sheet
invariant-loop-sheet l = AreJoinedSheets l.sheet l.parts l.sheets.items
