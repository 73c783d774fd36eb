use Rattle.std.proofs.Common.{take}
use Rattle.viz_kept.specs.Steps.{AreSheets}
use Rattle.viz_kept.proofs.whole.know_all.Given as goal

abbrev pub invariant-loop-sheet : goal.invariant-loop-sheet
invariant-loop-sheet l = AreSheets (take l.sheet-index l.sheets)
