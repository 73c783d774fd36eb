use Rattle.std.proofs.Common.{◌≡◌, ◌++◌, map, take}
use Rattle.std.specs.List.{All}
use Rattle.viz_meaning.specs.Narrow.{IsNarrowSection}
use Rattle.viz_meaning.specs.Section.{section_of}
use Rattle.viz_cells.proofs.sectioning.push_sections.Given as goal

abbrev pub invariant-loop-sheet : goal.invariant-loop-sheet
invariant-loop-sheet l = record {
  value : l.out.items ≡ l.initial.out.items ++ map (section_of l.form) (take l.sheet-index l.sheets);
  narrow : All (IsNarrowSection l.form) (take l.sheet-index l.sheets);
}
