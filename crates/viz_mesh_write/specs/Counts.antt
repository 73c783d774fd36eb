-- How many cells and points are written of a dataset (docs/FORMATS.md, "Report").
use Rattle.std.specs.Prelude.{ℕ, length}
use Rattle.viz_extent.specs.Extent.{count_of}
use Rattle.viz_kuhn.specs.Cubes.{cubes_of}
use Rattle.viz_dataset.specs.declared.dataset.Dataset.{Dataset}
use Rattle.viz_dataset.specs.declared.dataset.Dataset.TheVariants.{Image, Mesh}
use Rattle.viz_mesh_write.specs.Cells.{points_of, cells_of}

-- how many cells are written: the cubes of an image, none in a single layer; the cells of a mesh
abbrev pub cells_written : Dataset → ℕ
cells_written (Image i) = cubes_of i.extent
cells_written (Mesh sheets) = length (cells_of sheets)

-- how many points are written
abbrev pub points_written : Dataset → ℕ
points_written (Image i) = count_of i.extent
points_written (Mesh sheets) = length (points_of sheets)
