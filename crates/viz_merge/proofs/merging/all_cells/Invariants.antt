use Rattle.std.proofs.Common.{◌≡◌, length, take}
use Rattle.std.specs.List.{filter, flat_map}
use Rattle.viz_mesh_meaning.specs.Merge.{all_points, cells_by_leaves, firsts, has_no_repeat}
use Rattle.viz_merge.proofs.merging.all_cells.Given as goal

abbrev pub invariant-loop-sheet : goal.invariant-loop-sheet
invariant-loop-sheet l = record {
  place : l.at ≡ length (all_points (take l.sheet-index l.sheets));
  made : l.out.items ≡ filter has_no_repeat (flat_map (cells_by_leaves (firsts (all_points l.sheets))) (take l.sheet-index l.sheets));
}
