use Rattle.std.specs.List.{flat_map}
use Rattle.viz_counted_cells.specs.Numbered.{cell_numbers}
use Rattle.viz_counted_cells.proofs.BlockLoops.{AreCellsSoFar}
use Rattle.viz_counted_cells.proofs.blocks.cells_of_size.Given as goal

-- the cells so far, and the bytes behind them
abbrev pub invariant-loop : goal.invariant-loop
invariant-loop g l = AreCellsSoFar l.points l.size l.count l.counter g.C.FixedCell.size (flat_map (λ c. cell_numbers (g.C.FixedCell.list c)) l.cells.items) l.left l.lexer
