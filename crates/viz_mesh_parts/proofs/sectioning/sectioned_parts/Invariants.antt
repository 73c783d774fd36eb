use Rattle.std.proofs.Common.{◌≡◌, take}
use Rattle.std.specs.List.{All}
use Rattle.viz_meaning.specs.Narrow.{IsNarrowSection}
use Rattle.viz_piece_divisions.specs.Divisions.{section_parts}
use Rattle.viz_mesh_parts.proofs.sectioning.sectioned_parts.Given as goal

abbrev pub invariant-loop-form : goal.invariant-loop-form
invariant-loop-form l = record {
  value : l.out.items ≡ section_parts (take l.form-index l.forms) l.parts;
  narrow : All (λ f. All (λ p. IsNarrowSection f p.sheet) l.parts) (take l.form-index l.forms);
}
