use Rattle.viz_inform.specs.Steps.Taking.{AreTaken}
use Rattle.viz_inform.proofs.told.told_of.Given as goal

-- the marked steps so far are told
abbrev pub invariant-loop-place : goal.invariant-loop-place
invariant-loop-place l = AreTaken l.steps l.marks l.table l.place l.told.items
