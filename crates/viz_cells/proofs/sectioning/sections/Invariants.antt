use Rattle.std.proofs.Common.{◌≡◌, take}
use Rattle.std.specs.List.{All}
use Rattle.viz_meaning.specs.Narrow.{IsNarrowSection}
use Rattle.viz_meaning.specs.Section.{sections_of}
use Rattle.viz_cells.proofs.sectioning.sections.Given as goal

abbrev pub invariant-loop-form : goal.invariant-loop-form
invariant-loop-form l = record {
  value : l.out.items ≡ sections_of (take l.form-index l.forms) l.sheets;
  narrow : All (λ f. All (IsNarrowSection f) l.sheets) (take l.form-index l.forms);
}
