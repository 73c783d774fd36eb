-- Polydata whose only cells are polygons (docs/FORMATS-OF-FILES.md, "Grids and polydata").
use Rattle.std.specs.Prelude.{◌≡◌, ℕ, List}
use Rattle.viz_mesh_read.specs.Poly.{ByKind}

-- no section but that of the polygons has a cell
pub record HasPolygonsAlone (all : ByKind (ℕ × List ℕ)) : Type 0 where
  pub no_vertices : all.vertices.0 ≡ 0
  pub no_lines : all.lines.0 ≡ 0
  pub no_strips : all.strips.0 ≡ 0
