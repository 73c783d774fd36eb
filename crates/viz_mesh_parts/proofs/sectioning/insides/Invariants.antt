use Rattle.std.proofs.Common.{◌≡◌, map, take}
use Rattle.viz_sheet.specs.Arrays.{points_in}
use Rattle.viz_meaning.specs.Section.{is_inside_at}
use Rattle.viz_mesh_parts.proofs.sectioning.insides.Given as goal

abbrev pub invariant-loop-rank : goal.invariant-loop-rank
invariant-loop-rank l = l.inside.items ≡ map (is_inside_at l.form) (take l.rank (points_in l.places))
