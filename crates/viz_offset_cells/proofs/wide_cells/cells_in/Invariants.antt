use Rattle.viz_offset_cells.proofs.BlockLoops.{AreCellsSoFar}
use Rattle.viz_offset_cells.proofs.wide_cells.cells_in.Given as goal

-- the cells so far, and the bytes behind them
abbrev pub invariant-loop : goal.invariant-loop
invariant-loop g l = AreCellsSoFar g.C.WideCell.list l.points g.C.WideCell.size l.count l.counter l.cells.items l.left l.bytes
