use Rattle.std.proofs.Common.{◌≡◌, take}
use Rattle.viz_meaning.specs.Section.{cells_in, is_inside_at, point_of}
use Rattle.viz_piece_filters.specs.HandedOn.{counts, handed_on}
use Rattle.viz_mesh_parts.proofs.sectioning.section_levels.Given as goal

abbrev pub invariant-loop-i : goal.invariant-loop-i
invariant-loop-i l =
    l.levels.items ≡ handed_on (take l.i l.part.levels) (counts (cells_in (λ n. is_inside_at l.form (point_of l.part.sheet n))) (take l.i l.part.sheet.cells))
