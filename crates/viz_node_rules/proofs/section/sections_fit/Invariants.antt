use Rattle.std.proofs.Common.{take}
use Rattle.std.specs.List.{All}
use Rattle.viz_node_rules.specs.Steps.Made.{HasFitSections}
use Rattle.viz_node_rules.proofs.section.sections_fit.Given as goal

abbrev pub invariant-loop-sheet : goal.invariant-loop-sheet
invariant-loop-sheet l = All HasFitSections (take l.sheet-index l.sheets)
