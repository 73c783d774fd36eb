use Rattle.std.proofs.Common.{◌≡◌, map, take}
use Rattle.std.specs.List.{All}
use Rattle.viz_fraction.specs.Forms.{IsNarrowValue, value_of}
use Rattle.viz_sheet.specs.Arrays.{points_in}
use Rattle.viz_clip.proofs.values.values.Given as goal

abbrev pub invariant-loop-rank : goal.invariant-loop-rank
invariant-loop-rank l = record {
  made : l.values.items ≡ map (value_of l.form) (take l.rank (points_in l.places));
  narrow : All (IsNarrowValue l.form) (take l.rank (points_in l.places));
}
