use Rattle.viz_piece_restrict.specs.Steps.Cuts.{AreWholes}
use Rattle.viz_piece_restrict.proofs.wholes.whole_sheets.Given as goal

abbrev pub invariant-loop-sheet : goal.invariant-loop-sheet
invariant-loop-sheet l = AreWholes l.yielded l.parts.items
