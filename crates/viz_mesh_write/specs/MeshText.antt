-- The text of a written mesh (VTK User's Guide, "Simple legacy formats"; docs/FORMATS-OF-OUTPUT.md,
-- "Written meshes").
use Rattle.std.specs.Prelude.{ℕ, ◌==◌, ℤ, pos, Bool, true, false, List, [], ◌∷◌, ◌++◌, length, map}
use Rattle.std.specs.Prelude.{codes, if◌then◌else◌}
use Rattle.std.specs.Fmt.{decimal}
use Rattle.viz_fraction.specs.Points.{Point}
use Rattle.viz_fraction.specs.Decimals.{fixed_of}
use Rattle.viz_column.specs.declared.kind.Kind8.TheVariants.{I32, I64}
use Rattle.viz_sheet.specs.Sheet.{SheetData}
use Rattle.viz_image_write.specs.ImageText.{form_line}
use Rattle.viz_image_write.specs.Version.{version_line}
use Rattle.viz_mesh_write.specs.Cells.{points_of, cells_of, of_size, has_tetrahedra}
use Rattle.viz_mesh_write.specs.Rows.{block_text}
pub use Rattle.viz_mesh_write.specs.Sections.{cell_numbers, size_of, section_line, section_text}
pub use Rattle.viz_mesh_write.specs.Sections.{counted_section, index_count, offsets_of}
pub use Rattle.viz_mesh_write.specs.Sections.{offsets_text, connectivity_text, offset_section}

-- the version, and the title with the number of places
unfoldable pub title_lines : Bool → ℕ → List ℕ
title_lines later digits = version_line later ++ codes "vizrun fixed 10^-" ++ decimal digits
    ++ 10 ∷ []

-- the kind of dataset, by whether a tetrahedron is there
unfoldable pub dataset_line : Bool → List ℕ
dataset_line true = codes "DATASET UNSTRUCTURED_GRID\n"
dataset_line false = codes "DATASET POLYDATA\n"

-- how many points, each of three signed numbers of 64 bits
unfoldable pub points_line : ℕ → List ℕ
points_line n = codes "POINTS " ++ decimal n ++ codes " long\n"

-- the coordinates of a point, rounded down at so many places and counted in the last one
abbrev pub coordinates : ℕ → Point → List ℤ
coordinates digits p =
    fixed_of p.x p.w digits ∷ fixed_of p.y p.w digits ∷ fixed_of p.z p.w digits ∷ []

-- the points, a row for each
unfoldable pub points_text : Bool → ℕ → List Point → List ℕ
points_text binary digits points = points_line (length points)
    ++ block_text binary I64 (map (coordinates digits) points)

-- VTK's type of a cell of 1 to 4 points
abbrev pub type_of : ℕ → ℤ
type_of n = if n == 1 then pos 1 else (if n == 2 then pos 3 else (if n == 3 then pos 5 else pos 10))

-- how many types
unfoldable pub types_line : ℕ → List ℕ
types_line n = codes "CELL_TYPES " ++ decimal n ++ 10 ∷ []

-- the types of cells, a row for each
unfoldable pub types_text : Bool → List (List ℕ) → List ℕ
types_text binary cells = types_line (length cells)
    ++ block_text binary I32 (map (λ cell. type_of (length cell) ∷ []) cells)

-- the cells of a grid, and their types
unfoldable pub grid_text : Bool → Bool → List (List ℕ) → List ℕ
grid_text later binary cells = section_text later binary (codes "CELLS") cells
    ++ types_text binary cells

-- a section where it has a cell
abbrev pub some_section : Bool → Bool → List ℕ → List (List ℕ) → List ℕ
some_section later binary keyword [] = []
some_section later binary keyword (cell ∷ cells) =
    section_text later binary keyword (cell ∷ cells)

-- the cells of polydata: vertices, lines and triangles, each where there is one
unfoldable pub parts_text : Bool → Bool → List (List ℕ) → List ℕ
parts_text later binary cells =
    some_section later binary (codes "VERTICES") (of_size 1 cells)
    ++ some_section later binary (codes "LINES") (of_size 2 cells)
    ++ some_section later binary (codes "POLYGONS") (of_size 3 cells)

-- the same, and without any cell a section of no polygons
abbrev pub poly_text : Bool → Bool → List (List ℕ) → List ℕ
poly_text later binary [] = section_text later binary (codes "POLYGONS") []
poly_text later binary (cell ∷ cells) = parts_text later binary (cell ∷ cells)

-- the cells: of a grid where a tetrahedron is there, and else of polydata
abbrev pub cells_text : Bool → Bool → List (List ℕ) → List ℕ
cells_text later binary cells = if has_tetrahedra cells then grid_text later binary cells
    else poly_text later binary cells

-- the lines in front of so many scalars
unfoldable pub scalars_head : ℕ → List ℕ
scalars_head n = codes "POINT_DATA " ++ decimal n
    ++ codes "\nSCALARS scalars long 1\nLOOKUP_TABLE default\n"

-- the scalar of a point, rounded down
abbrev pub scalar : Point → ℤ
scalar p = fixed_of p.s p.w 0

-- a row of it alone
abbrev pub scalars : Point → List ℤ
scalars p = scalar p ∷ []

-- the scalars, a row for each, where there are points
abbrev pub scalars_text : Bool → List Point → List ℕ
scalars_text binary [] = []
scalars_text binary (p ∷ points) =
    scalars_head (length (p ∷ points)) ++ block_text binary I64 (map scalars (p ∷ points))

-- the whole text: head, points, cells by the indices of their points, scalars
unfoldable pub mesh_text : Bool → Bool → ℕ → List SheetData → List ℕ
mesh_text later binary digits sheets =
    title_lines later digits ++ form_line binary ++ dataset_line (has_tetrahedra (cells_of sheets))
    ++ points_text binary digits (points_of sheets)
    ++ cells_text later binary (cells_of sheets) ++ scalars_text binary (points_of sheets)
