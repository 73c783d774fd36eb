use Rattle.viz_offset_cells.proofs.WideRuns.{AreRunsSoFar}
use Rattle.viz_offset_cells.proofs.wide_runs.runs_in.Given as goal

-- the cells so far, and the bytes behind them
abbrev pub invariant-loop-next : goal.invariant-loop-next
invariant-loop-next l = AreRunsSoFar l.points l.offsets l.indices l.next-index l.last l.fn.numbers.items l.numbers.items l.left l.bytes
