-- The sheets of a dataset: an image is taken through its tetrahedra (docs/FORMATS-OF-FILTERS.md,
-- "Kuhn's subdivision").
use Rattle.std.specs.Prelude.{ℕ, ◌+◌, ◌/◌, ◌%◌, List, [], ◌∷◌, map}
use Rattle.std.specs.List.{range_with_len}
use Rattle.viz_extent.specs.Extent.{size_x, size_y, count_of}
use Rattle.viz_fraction.specs.Points.{Point}
use Rattle.viz_kuhn.specs.Cubes.{tetrahedra_of}
use Rattle.viz_dataset.specs.Images.{ImageData, point_at}
use Rattle.viz_dataset.specs.declared.dataset.Dataset.{Dataset}
use Rattle.viz_dataset.specs.declared.dataset.Dataset.TheVariants.{Image, Mesh}
use Rattle.viz_sheet.specs.Kept.{sheet_with}
use Rattle.viz_sheet.specs.Ranked.{leaf_names}
use Rattle.viz_sheet.specs.Sheet.{SheetData}

-- the point of a leaf: that of its indices, with the number there as its scalar
abbrev pub point_of_leaf : ImageData → ℕ → Point
point_of_leaf image leaf =
    let b = image.extent in
    point_at image (b.x0 + leaf % size_x b) (b.y0 + leaf / size_x b % size_y b)
    (b.z0 + leaf / size_x b / size_y b)

-- the points of all leaves
abbrev pub leaf_points : ImageData → List Point
leaf_points image = map (point_of_leaf image) (range_with_len 0 (count_of image.extent))

-- the tetrahedra of an image as a sheet: a leaf for each point that a cube has
abbrev pub tetrahedra_sheet : ImageData → SheetData
tetrahedra_sheet image = sheet_with (leaf_names (count_of image.extent)) (leaf_points image)
    (tetrahedra_of image.extent)

-- the sheets that a dataset is taken through
abbrev pub sheets_of : Dataset → List SheetData
sheets_of (Image image) = tetrahedra_sheet image ∷ []
sheets_of (Mesh sheets) = sheets
