-- The text of a mesh whose triangles are written as strips (VTK User's Guide, "Simple legacy
-- formats"; docs/FORMATS-OF-OUTPUT.md, "Written strips").
use Rattle.std.specs.Prelude.{◌≡◌, ℕ, ◌≤◌, false, List, [], ◌∷◌, ◌++◌, length, All, codes}
use Rattle.viz_fraction.specs.Points.{Point}
use Rattle.viz_sheet.specs.Sheet.{SheetData}
use Rattle.viz_image_write.specs.ImageText.{form_line}
use Rattle.viz_mesh_write.specs.Cells.{points_of, cells_of, of_size}
use Rattle.viz_mesh_write.specs.MeshText.{title_lines, dataset_line, points_text, scalars_text}
use Rattle.viz_mesh_write.specs.MeshText.{section_text, some_section}
use Rattle.viz_strip.specs.Strips.{AreStrips}
use Rattle.viz_strip_write.specs.declared.stripped.Stripped.{Stripped}

-- a mesh that may be written so: one sheet without tetrahedra, whose names are leaves
pub record IsFlat (sheets : List SheetData) : Type 0 where
  pub sheet : SheetData
  pub one : sheets ≡ sheet ∷ []
  pub leaves : All (λ name. length name ≡ 1) sheet.names
  pub small : All (λ cell. length cell ≤ 3) sheet.cells

-- the lines in front of the points
unfoldable pub head_text : List ℕ
head_text = title_lines false 3 ++ form_line false ++ dataset_line false

-- the cells: vertices, lines and strips, each where there is one
abbrev pub sections_text : List (List ℕ) → List (List ℕ) → List ℕ
sections_text cells strips =
    some_section false false (codes "VERTICES") (of_size 1 cells)
    ++ some_section false false (codes "LINES") (of_size 2 cells)
    ++ some_section false false (codes "TRIANGLE_STRIPS") strips

-- the same, and without any cell a section of no polygons
abbrev pub cells_text : List (List ℕ) → List (List ℕ) → List ℕ
cells_text [] strips = section_text false false (codes "POLYGONS") []
cells_text (cell ∷ cells) strips = sections_text (cell ∷ cells) strips

-- the whole text of points and cells: head, points, cells by the indices of their points, scalars
unfoldable pub text_by : List Point → List (List ℕ) → List (List ℕ) → List ℕ
text_by points cells strips =
    head_text ++ points_text false 3 points ++ cells_text cells strips ++ scalars_text false points

-- the text of points and cells with the strips of their triangles
pub record IsTextOf (points : List Point) (cells : List (List ℕ)) (text : List ℕ) : Type 0 where
  pub strips : List (List ℕ)
  pub are : AreStrips (of_size 3 cells) strips
  pub text_is : text ≡ text_by points cells strips

-- the same with how many strips and triangles there are
pub record IsCountedText (points : List Point) (cells : List (List ℕ)) (made : Stripped) : Type 0 where
  pub strips : List (List ℕ)
  pub are : AreStrips (of_size 3 cells) strips
  pub text_is : made.text ≡ text_by points cells strips
  pub strips_are : made.strips ≡ length strips
  pub triangles_are : made.triangles ≡ length (of_size 3 cells)

-- the text of a mesh with strips, and how many strips and triangles it has
abbrev pub IsStripped : List SheetData → Stripped → Type 0
IsStripped sheets made = IsCountedText (points_of sheets) (cells_of sheets) made

-- the text of a mesh
abbrev pub IsStripText : List SheetData → List ℕ → Type 0
IsStripText sheets text = IsTextOf (points_of sheets) (cells_of sheets) text
