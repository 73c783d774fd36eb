use Rattle.std.proofs.Common.{◌≡◌, [], ◌∷◌, map, take}
use Rattle.std.specs.List.{All}
use Rattle.viz_meaning.specs.Narrow.{IsNarrowSection}
use Rattle.viz_meaning.specs.Tetrahedra.{tetrahedra_sheet}
use Rattle.viz_piece_section.specs.Sections.{section_piece}
use Rattle.viz_piece_section.proofs.pieces.parts_of.Given as goal

abbrev pub invariant-loop-form : goal.invariant-loop-form
invariant-loop-form l = record {
  value : l.parts.items ≡ map (λ f. section_piece f l.p l.n l.whole l.slab) (take l.form-index l.forms);
  narrow : All (λ f. IsNarrowSection f (tetrahedra_sheet l.slab)) (take l.form-index l.forms);
}
