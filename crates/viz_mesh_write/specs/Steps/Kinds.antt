-- What one pass writes of points and of cells, by its kind.
use Rattle.std.specs.Prelude.{ℕ, ℤ, Bool, List}
use Rattle.viz_fraction.specs.Points.{Point}
use Rattle.viz_mesh_write.specs.declared.point_rows.OfPoints.{OfPoints}
use Rattle.viz_mesh_write.specs.declared.point_rows.OfPoints.TheVariants.{Coordinates, Scalar}
use Rattle.viz_mesh_write.specs.declared.cell_rows.OfCells.{OfCells}
use Rattle.viz_mesh_write.specs.declared.cell_rows.OfCells.TheVariants.{Numbers, Types}
use Rattle.viz_mesh_write.specs.MeshText.{coordinates, scalars}
use Rattle.viz_mesh_write.specs.Steps.Passes.{kept_row, type_row}

-- the written numbers of a point
abbrev pub numbers_by : OfPoints → Point → List ℤ
numbers_by (Coordinates c) = coordinates c.digits
numbers_by (Scalar s) = scalars

-- the written row of a cell, with so many points in front
abbrev pub written_by : OfCells → Bool → ℕ → List ℕ → List ℕ
written_by (Numbers n) = kept_row n.size n.later
written_by (Types t) = type_row
