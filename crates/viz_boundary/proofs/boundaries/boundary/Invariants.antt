use Rattle.std.proofs.Common.{◌≡◌, map, take}
use Rattle.viz_mesh_meaning.specs.Facets.{boundary_of}
use Rattle.viz_boundary.proofs.boundaries.boundary.Given as goal

abbrev pub invariant-loop-sheet : goal.invariant-loop-sheet
invariant-loop-sheet l = l.made.items ≡ map boundary_of (take l.sheet-index l.sheets)
