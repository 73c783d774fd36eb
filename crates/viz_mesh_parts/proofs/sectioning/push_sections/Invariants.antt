use Rattle.std.proofs.Common.{◌≡◌, ◌++◌, map, take}
use Rattle.std.specs.List.{All}
use Rattle.viz_meaning.specs.Narrow.{IsNarrowSection}
use Rattle.viz_piece_filters.specs.Filters.{section_part}
use Rattle.viz_mesh_parts.proofs.sectioning.push_sections.Given as goal

abbrev pub invariant-loop-part : goal.invariant-loop-part
invariant-loop-part l = record {
  value : l.out.items ≡ l.initial.out.items ++ map (section_part l.form) (take l.part-index l.parts);
  narrow : All (λ p. IsNarrowSection l.form p.sheet) (take l.part-index l.parts);
}
