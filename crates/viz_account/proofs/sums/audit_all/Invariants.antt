use Rattle.std.proofs.Common.{take}
use Rattle.viz_account.specs.Audited.{AreSums}
use Rattle.viz_account.proofs.sums.audit_all.Given as goal

-- the counts of the sheets so far
abbrev pub invariant-loop-sheet : goal.invariant-loop-sheet
invariant-loop-sheet l = AreSums l.whole (take l.sheet-index l.sheets) l.total
