use Rattle.std.proofs.Common.{◌≡◌, length, take}
use Rattle.viz_sheet.specs.Kept.{kept}
use Rattle.viz_mesh_meaning.specs.Merge.{all_points}
use Rattle.viz_merge.proofs.groups.small_points.Given as goal

abbrev pub invariant-loop-sheet : goal.invariant-loop-sheet
invariant-loop-sheet l = record {
  place : l.at ≡ length (all_points (take l.sheet-index l.sheets));
  made : l.points.items ≡ kept (take l.at l.marks) (all_points (take l.sheet-index l.sheets));
}
