use Rattle.std.proofs.Common.{◌≡◌, map, take}
use Rattle.std.specs.List.{All}
use Rattle.viz_fraction.specs.Forms.{IsNarrowValue}
use Rattle.viz_sheet.specs.Arrays.{points_in}
use Rattle.viz_meaning.specs.Section.{is_inside_at}
use Rattle.viz_cells.proofs.insides.insides.Given as goal

abbrev pub invariant-loop-rank : goal.invariant-loop-rank
invariant-loop-rank l = record {
  made : l.inside.items ≡ map (is_inside_at l.form) (take l.rank (points_in l.places));
  narrow : All (IsNarrowValue l.form) (take l.rank (points_in l.places));
}
