use Rattle.std.proofs.Common.{◌≡◌, ◌∷◌, [], map, take}
use Rattle.std.specs.List.{All}
use Rattle.viz_fraction.specs.Forms.{contour_form}
use Rattle.viz_meaning.specs.Narrow.{IsNarrowSection}
use Rattle.viz_meaning.specs.Section.{sections_of}
use Rattle.viz_meaning.specs.Tetrahedra.{tetrahedra_sheet}
use Rattle.viz_sheet.specs.Sheet.{IsFit}
use Rattle.viz_node_rules.proofs.section.image_contours.Given as goal

abbrev pub invariant-loop-level : goal.invariant-loop-level
invariant-loop-level l = record {
  value : l.sheets.items ≡ sections_of (take l.level-index (map contour_form l.levels)) (tetrahedra_sheet l.image ∷ []);
  narrow : All (λ f. All (IsNarrowSection f) (tetrahedra_sheet l.image ∷ [])) (take l.level-index (map contour_form l.levels));
  fits : All IsFit l.sheets.items;
}
