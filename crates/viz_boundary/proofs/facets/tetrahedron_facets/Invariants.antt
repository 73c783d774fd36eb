use Rattle.std.proofs.Common.{◌≡◌, length, take}
use Rattle.std.specs.List.{flat_map}
use Rattle.viz_sheet.specs.Kept.{kept}
use Rattle.viz_mesh_meaning.specs.Facets.{facets_of}
use Rattle.viz_boundary.proofs.facets.tetrahedron_facets.Given as goal

abbrev pub invariant-loop-cell : goal.invariant-loop-cell
invariant-loop-cell l = record {
  place : l.at ≡ length (flat_map facets_of (take l.cell-index l.cells));
  made : l.out.items ≡ kept (take l.at l.marks) (flat_map facets_of (take l.cell-index l.cells));
}
