-- The section of an image by a linear form, so by a level or a plane, and that it is closed up to
-- the boundary of the grid (Doi and Koide 1991).
use Rattle.std.specs.Prelude.{◌≡◌, ◌+◌, Bool, List, map}
use Rattle.viz_fraction.specs.declared.forms.Form.{Form}
use Rattle.viz_dataset.specs.Images.{ImageData}
use Rattle.viz_sheet.specs.Sheet.{SheetData}
use Rattle.viz_meaning.specs.Section.{is_inside_at, section_of}
use Rattle.viz_meaning.specs.Tetrahedra.{leaf_points, tetrahedra_sheet}
use Rattle.viz_grid_section.specs.Edges.{Edge}
use Rattle.viz_grid_section.specs.GridSection.{grid_cells}
use Rattle.viz_surface_law.specs.Closed.{IsClosedUpToBoundary}
use Rattle.viz_surface_law.specs.Audit.{count_sides, count_two, count_lone, count_border}
use Rattle.viz_surface_law.specs.Surfaces.{by_edges, IsSurface}

-- which points of an image are inside: those at which the form is at least 0
abbrev pub insides_of : Form → ImageData → List Bool
insides_of f image = map (is_inside_at f) (leaf_points image)

-- the section of an image by a form: that of its tetrahedra
abbrev pub form_section : Form → ImageData → SheetData
form_section f image = section_of f (tetrahedra_sheet image)

-- its triangles, by edges
abbrev pub form_triangles : Form → ImageData → List (List Edge)
form_triangles f image = by_edges (form_section f image).cells

-- they are those of the grid, by which points are inside
abbrev pub FormSectionsAreOfGrid : Type 0
FormSectionsAreOfGrid =
    (f : Form) (image : ImageData) → form_triangles f image
    ≡ grid_cells image.extent (insides_of f image)

-- an audit takes the section of each image, by each form
abbrev pub FormSectionsAreSurfaces : Type 0
FormSectionsAreSurfaces =
    (f : Form) (image : ImageData) → IsSurface image.extent (form_section f image)

-- it is closed up to the boundary
abbrev pub FormSectionsAreClosed : Type 0
FormSectionsAreClosed =
    (f : Form) (image : ImageData) → IsClosedUpToBoundary image.extent (form_triangles f image)

-- each of its sides lies in two triangles or is a border side
abbrev pub FormSidesAddUp : Type 0
FormSidesAddUp =
    (f : Form) (image : ImageData)
    → let cells = form_triangles f image in
    count_sides cells ≡ count_two cells + count_border image.extent cells

-- each of its lone sides is a border side
abbrev pub LoneFormSidesAreBorders : Type 0
LoneFormSidesAreBorders =
    (f : Form) (image : ImageData)
    → let cells = form_triangles f image in
    count_lone cells ≡ count_border image.extent cells
