use Rattle.std.proofs.Common.{◌≡◌, take}
use Rattle.std.specs.List.{flat_map}
use Rattle.viz_counted_cells.specs.Numbered.{cell_numbers}
use Rattle.viz_counted_cells.proofs.fixed_cells.flattened.Given as goal

-- the numbers of the cells so far
abbrev pub invariant-loop-cell : goal.invariant-loop-cell
invariant-loop-cell g l = l.numbers.items ≡ flat_map (λ c. cell_numbers (g.C.FixedCell.list c)) (take l.cell-index l.cells)
