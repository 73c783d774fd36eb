-- Values counted by hand, which pin the definitions of what a filter makes: the texts of a threshold and of contours.
use Rattle.std.specs.Prelude.{◌≡◌, ℕ, ℤ, pos, false, ◌*◌, ◌^◌, List, [], ◌∷◌, codes, refl}
use Rattle.std.specs.Fmt.{digits}
use Rattle.viz_column.specs.declared.kind.Kind8.TheVariants.{I32}
use Rattle.viz_dataset.specs.Images.{ImageData}
use Rattle.viz_dataset.specs.declared.dataset.Dataset.{Dataset}
use Rattle.viz_dataset.specs.declared.dataset.Dataset.TheVariants.{Image, Mesh}
use Rattle.viz_extent.specs.Extent.{Bounds}
use Rattle.viz_fraction.specs.Cases.{cells_at}
use Rattle.viz_fraction.specs.Decimals.{fixed_of}
use Rattle.viz_fraction.specs.Divisors.{gcd}
use Rattle.viz_fraction.specs.Points.{divisor_of, numbers}
use Rattle.viz_kuhn.specs.Cubes.{cubes_of}
use Rattle.viz_kuhn.specs.Kuhn.{rows}
use Rattle.viz_image_write.specs.ImageText.{title_lines, form_line, dataset_line, dimensions_line, vector_line, origin_line, spacing_line, geometry_lines, point_data_line, array_line, table_line, header_lines, image_text}
use Rattle.viz_image_write.specs.Version.{version_line}
use Rattle.viz_meaning.specs.Section.{sections_of}
use Rattle.viz_meaning.specs.Tetrahedra.{sheets_of}
use Rattle.viz_meaning.specs.Threshold.{thresholded}
use Rattle.viz_mesh_write.specs.Counts.{cells_written, points_written}
use Rattle.viz_mesh_write.specs.MeshText.{title_lines as mesh_titles, dataset_line as mesh_line, points_line, points_text, scalars_head, parts_text, mesh_text}
use Rattle.viz_mesh_write.specs.Sections.{section_line, counted_section}
use Rattle.viz_node_meaning.specs.Data.{contour_forms}
use Rattle.viz_scratch.specs.Written.{plain, text_with}
use Rattle.viz_sheet.specs.Sheet.{SheetData}

-- the text of a node that is no writer
abbrev plain_text : Dataset → List ℕ
plain_text = text_with plain

-- the contour of a dataset at one level
abbrev contoured : ℤ → Dataset → Dataset
contoured level d = Mesh (sections_of (contour_forms 1 (level ∷ [])) (sheets_of d))

-- so many units, in billionths
abbrev units : ℕ → ℤ
units n = pos (n * 10 ^ 9)

-- an image at the origin with steps of 1
abbrev unit_image : Bounds → List ℤ → ImageData
unit_image extent values = record {
  extent = extent;
  origin = record { x = units 0; y = units 0; z = units 0 };
  spacing = record { x = units 1; y = units 1; z = units 1 };
  values = record { kind = I32; items = values };
}

-- two by two points
abbrev square : Bounds
square = record { x0 = 0; x1 = 1; y0 = 0; y1 = 1; z0 = 0; z1 = 0 }

-- two by two by two points
abbrev cube : Bounds
cube = record { x0 = 0; x1 = 1; y0 = 0; y1 = 1; z0 = 0; z1 = 1 }

threshold_two_by_two : plain_text (Image (thresholded (pos 2) (pos 3) (unit_image square (pos 1 ∷ pos 2 ∷ pos 3 ∷ pos 4 ∷ []))))
    ≡ codes "# vtk DataFile Version 3.0\nvizrun image\nASCII\nDATASET STRUCTURED_POINTS\nDIMENSIONS 2 2 1\nORIGIN 0 0 0\nSPACING 1 1 1\nPOINT_DATA 4\nSCALARS scalars int 1\nLOOKUP_TABLE default\n0 2\n3 0\n"
unfolding digits version_line title_lines form_line dataset_line dimensions_line vector_line origin_line spacing_line geometry_lines point_data_line array_line table_line header_lines image_text
threshold_two_by_two = refl

-- a cube whose values are 0, but at its highest corner
abbrev cube_to : ℤ → ImageData
cube_to corner = unit_image cube (pos 0 ∷ pos 0 ∷ pos 0 ∷ pos 0 ∷ pos 0 ∷ pos 0 ∷ pos 0 ∷ corner ∷ [])

-- a triangle in each of the six tetrahedra, and a point on each edge to that corner
first_contour_cells : cells_written (contoured (pos 5) (Image (cube_to (pos 9)))) ≡ 6
unfolding rows cells_at gcd divisor_of
first_contour_cells = refl

first_contour_points : points_written (contoured (pos 5) (Image (cube_to (pos 9)))) ≡ 7
unfolding rows cells_at gcd divisor_of
first_contour_points = refl

-- a level above all values
empty_contour : plain_text (contoured (pos 10) (Image (cube_to (pos 9))))
    ≡ codes "# vtk DataFile Version 3.0\nvizrun fixed 10^-3\nASCII\nDATASET POLYDATA\nPOINTS 0 long\nPOLYGONS 0 0\n"
unfolding digits rows cells_at gcd divisor_of form_line mesh_titles mesh_line points_line points_text version_line section_line counted_section parts_text mesh_text
empty_contour = refl

-- a line along x from the scalar 0 to the scalar 2
abbrev line_to : ℕ → SheetData
line_to far = record {
  names = (0 ∷ []) ∷ (1 ∷ []) ∷ [];
  points = numbers (pos 0) (pos 0) (pos 0) (pos 0) (pos 1) ∷ numbers (pos far) (pos 0) (pos 0) (pos 2) (pos 1) ∷ [];
  cells = ((0 ∷ []) ∷ (1 ∷ []) ∷ []) ∷ [];
}

-- its middle
middle_of_a_line : plain_text (contoured (pos 1) (Mesh (line_to 3 ∷ [])))
    ≡ codes "# vtk DataFile Version 3.0\nvizrun fixed 10^-3\nASCII\nDATASET POLYDATA\nPOINTS 1 long\n1500 0 0\nVERTICES 1 2\n1 0\nPOINT_DATA 1\nSCALARS scalars long 1\nLOOKUP_TABLE default\n1\n"
unfolding digits cells_at fixed_of gcd divisor_of form_line scalars_head mesh_titles mesh_line points_line points_text version_line section_line counted_section parts_text mesh_text
middle_of_a_line = refl

single_layer : cubes_of square ≡ 0
single_layer = refl
