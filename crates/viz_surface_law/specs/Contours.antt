-- The contour of an image, and that it is closed up to the boundary of the grid (Doi and Koide
-- 1991).
use Rattle.std.specs.Prelude.{◌≡◌, ◌+◌, ℤ, List}
use Rattle.viz_fraction.specs.Forms.{contour_form}
use Rattle.viz_dataset.specs.Images.{ImageData, IsImage}
use Rattle.viz_sheet.specs.Sheet.{SheetData}
use Rattle.viz_meaning.specs.Section.{section_of}
use Rattle.viz_meaning.specs.Tetrahedra.{tetrahedra_sheet}
use Rattle.viz_grid_section.specs.Edges.{Edge}
use Rattle.viz_surface_law.specs.Closed.{IsClosedUpToBoundary}
use Rattle.viz_surface_law.specs.Audit.{count_sides, count_two, count_lone, count_border}
use Rattle.viz_surface_law.specs.Surfaces.{by_edges, IsSurface}

-- the contour of an image at a level: the section of its tetrahedra
abbrev pub contour_of : ℤ → ImageData → SheetData
contour_of level image = section_of (contour_form level) (tetrahedra_sheet image)

-- its triangles, by edges
abbrev pub triangles_of : ℤ → ImageData → List (List Edge)
triangles_of level image = by_edges (contour_of level image).cells

-- an audit takes the contour of each image, at each level
abbrev pub ContoursAreSurfaces : Type 0
ContoursAreSurfaces =
    (level : ℤ) (image : ImageData) → IsImage image
    → IsSurface image.extent (contour_of level image)

-- it is closed up to the boundary
abbrev pub ContoursAreClosed : Type 0
ContoursAreClosed =
    (level : ℤ) (image : ImageData) → IsImage image
    → IsClosedUpToBoundary image.extent (triangles_of level image)

-- each of its sides lies in two triangles or is a border side
abbrev pub ContourSidesAddUp : Type 0
ContourSidesAddUp =
    (level : ℤ) (image : ImageData) → IsImage image
    → let cells = triangles_of level image in
    count_sides cells ≡ count_two cells + count_border image.extent cells

-- each of its lone sides is a border side
abbrev pub LoneSidesAreBorders : Type 0
LoneSidesAreBorders =
    (level : ℤ) (image : ImageData) → IsImage image
    → let cells = triangles_of level image in
    count_lone cells ≡ count_border image.extent cells
