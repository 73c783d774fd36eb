use Rattle.viz_offset_cells.proofs.WideRuns.{IsRunSoFar}
use Rattle.viz_offset_cells.proofs.wide_runs.run_in.Given as goal

-- the indices so far, and the bytes behind them
abbrev pub invariant-loop : goal.invariant-loop
invariant-loop l = IsRunSoFar l.points l.count l.counter l.fn.numbers.items l.numbers.items l.left l.bytes
