use Rattle.viz_offset_cells.proofs.BlockLoops.{AreStepsSoFar}
use Rattle.viz_offset_cells.proofs.steps.are_steps.Given as goal

-- the offsets so far, and the bytes behind them
abbrev pub invariant-loop : goal.invariant-loop
invariant-loop l = AreStepsSoFar l.step l.most l.counter l.offset l.left l.bytes
