use Rattle.std.proofs.Common.{◌≡◌, map, take}
use Rattle.std.specs.List.{All}
use Rattle.viz_sheet.specs.Arrays.{points_in}
use Rattle.viz_cells.specs.Steps.Crossings.{key_crossing, IsNarrowKey}
use Rattle.viz_cells.proofs.crossings.wide_crossings.Given as goal

abbrev pub invariant-loop-key : goal.invariant-loop-key
invariant-loop-key l = record {
  made : l.points.items ≡ map (key_crossing l.form (points_in l.places)) (take l.key-index l.keys);
  narrow : All (IsNarrowKey l.form (points_in l.places)) (take l.key-index l.keys);
}
