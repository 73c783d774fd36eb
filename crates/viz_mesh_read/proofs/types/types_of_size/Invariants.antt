use Rattle.std.proofs.Common.{◌≡◌, ◌-◌}
use Rattle.std.specs.Prelude.{drop}
use Rattle.std.specs.List.{flat_map}
use Rattle.viz_counted_cells.specs.Numbered.{cell_numbers}
use Rattle.viz_mesh_read.specs.GridSteps.{cell_types_at}
use Rattle.viz_mesh_read.proofs.types.types_of_size.Given as goal

-- what comes of the types that are left is what comes of all
abbrev pub invariant-loop-i : goal.invariant-loop-i
invariant-loop-i g l = cell_types_at l.binary (l.count - l.i) (flat_map (λ c. cell_numbers (g.C.FixedCell.list c)) (drop l.i l.cells)) l.lexer ≡ cell_types_at l.fn.binary l.fn.count (flat_map (λ c. cell_numbers (g.C.FixedCell.list c)) l.fn.cells) l.fn.lexer
