-- The readers of a file, which proofs compare with the rules (docs/FORMATS-OF-FILES.md, "Reading").
use Rattle.std.specs.Prelude.{ℕ, ℤ, ◌+◌, ◌*◌, ◌^◌, Bool, true, false, not, ◌&&◌, ◌||◌, nat_le}
use Rattle.std.specs.Prelude.{nat_lt, List, length, drop, codes, Some, ok_or, Result, Ok, Err}
use Rattle.std.specs.Prelude.{unsigned_abs, if◌then◌else◌}
use Rattle.viz_base.specs.declared.node.Pick.{Pick}
use Rattle.viz_extent.specs.Extent.{Bounds}
use Rattle.viz_dataset.specs.Images.{Vector, ImageData}
use Rattle.viz_attr.specs.Counts.{is_at_least}
use Rattle.viz_attr.specs.PassedSteps.{passed_field_at}
use Rattle.viz_attr.specs.Steps.Parts.{attributes_at}
use Rattle.viz_lex.specs.declared.fault.FileKind.{FileKind}
use Rattle.viz_lex.specs.declared.fault.FileKind.TheVariants.{Magic, Title, Form, Count, Spacing}
use Rattle.viz_lex.specs.declared.fault.FileKind.TheVariants.{HeaderNumber, TooMany, Unsupported}
use Rattle.viz_lex.specs.declared.fault.FileFault.{FileFault}
use Rattle.viz_lex.specs.Reading.{Reading, fault_at, ◌>>=◌}
use Rattle.viz_lex.specs.Words.{line_at, text_of}
use Rattle.viz_lex.specs.Steps.{guard, has, same_word, due_word, due_number, due_decimal}
use Rattle.viz_lex.specs.Steps.{keyword_kind, keyword_at, is_next}
use Rattle.viz_lex.specs.Readers.{skip_at}
use Rattle.viz_mesh_read.specs.Poly.{ByKind}
use Rattle.viz_mesh_read.specs.Pieces.{pieces_in}
use Rattle.viz_mesh_read.specs.GridSteps.{grid_at}
use Rattle.viz_mesh_read.specs.PolySteps.{polydata_at}
use Rattle.viz_sheet.specs.Sheet.{SheetData}
use Rattle.viz_file_mesh.specs.FileMesh.{mesh_of}
use Rattle.viz_file_mesh.specs.GridPieces.{grid_pieces_in}
use Rattle.viz_dataset.specs.declared.dataset.Dataset.{Dataset}
use Rattle.viz_dataset.specs.declared.dataset.Dataset.TheVariants.{Image, Mesh}
use Rattle.viz_legacy_read.specs.declared.front.DatasetWord.{DatasetWord}
use Rattle.viz_legacy_read.specs.declared.front.DatasetWord.TheVariants.{Points, Grid, Polydata}
use Rattle.viz_legacy_read.specs.declared.front.Preamble.{Preamble}
use Rattle.viz_legacy_read.specs.Magic.{magic, is_magic, is_later}
use Rattle.viz_legacy_read.specs.MeshFile.{asked_of, is_grid}
use Rattle.viz_legacy_read.specs.Header.{is_left_out_dataset, is_image, Geometry, no_line}
use Rattle.viz_legacy_read.specs.Header.{whole_of, is_above, Header, header_of, Heading}
use Rattle.viz_legacy_read.specs.Header.Heading.{OfImage, OfMesh}
use Rattle.viz_legacy_read.specs.ImageFile.{asked, image_of}

-- a line
unfoldable pub due_line : FileKind → Reading → Result (List ℕ × Reading) FileFault
due_line kind r = do
  found ← ok_or (line_at r) (fault_at kind r.place)
  Ok (text_of r found.0, found.1)

-- the two lines in front
unfoldable pub two_lines_at : Reading → Result (Bool × Reading) FileFault
two_lines_at r = do
  first ← due_line Magic r
  is ← guard (is_magic first.0) Magic 0
  title ← due_line Title first.1
  Ok (is_later (drop (length magic) first.0), title.1)

-- ASCII or BINARY
unfoldable pub form_at : Reading → Result (Bool × Reading) FileFault
form_at r = do
  word ← due_word r
  if same_word word.0.1 (codes "ASCII") then Ok (false, word.1)
      else (if same_word word.0.1 (codes "BINARY") then Ok (true, word.1)
      else Err (fault_at Form word.0.0))

-- a word for a dataset
unfoldable pub dataset_word_at : ℕ × List ℕ → Reading → Result (DatasetWord × Reading) FileFault
dataset_word_at w r =
    if same_word w.1 (codes "STRUCTURED_POINTS") then Ok (Points, r)
    else (if same_word w.1 (codes "UNSTRUCTURED_GRID") then Ok (Grid, r)
    else (if same_word w.1 (codes "POLYDATA") then Ok (Polydata, r)
    else (if is_left_out_dataset w.1 then Err (fault_at Unsupported w.0)
    else Err (fault_at (keyword_kind w.1) w.0))))

-- DATASET and a word for a dataset
unfoldable pub dataset_at : Reading → Result (DatasetWord × Reading) FileFault
dataset_at r = do
  key ← keyword_at (codes "DATASET") r
  word ← due_word key.1
  dataset_word_at word.0 word.1

-- what stands in front of the geometry
unfoldable pub preamble_at : Reading → Result (Preamble × Reading) FileFault
preamble_at r = do
  later ← two_lines_at r
  binary ← form_at later.1
  points ← dataset_at binary.1
  Ok (record { later = later.0; binary = binary.0; dataset = points.0 }, points.1)

-- a size
unfoldable pub size_at : Reading → Result ((ℕ × ℕ) × Reading) FileFault
size_at r = do
  n ← due_number r
  some ← guard (is_at_least 1 n.0.1) Count n.0.0
  Ok ((n.0.0, unsigned_abs n.0.1), n.1)

-- DIMENSIONS
unfoldable pub sizes_at : Reading → Result (Bounds × Reading) FileFault
sizes_at r = do
  x ← size_at r
  y ← size_at x.1
  z ← size_at y.1
  few ← guard (nat_lt (x.0.1 * y.0.1 * z.0.1) (2 ^ 31)) TooMany z.0.0
  Ok (whole_of x.0.1 y.0.1 z.0.1, z.1)

-- ORIGIN
unfoldable pub origin_at : Reading → Result (Vector × Reading) FileFault
origin_at r = do
  x ← due_decimal r
  y ← due_decimal x.1
  z ← due_decimal y.1
  Ok (record { x = x.0.1; y = y.0.1; z = z.0.1 }, z.1)

-- a step
unfoldable pub step_at : Reading → Result (ℤ × Reading) FileFault
step_at r = do
  n ← due_decimal r
  within ← guard (nat_le (unsigned_abs n.0.1) (10 ^ 18)) HeaderNumber n.0.0
  above ← guard (is_above n.0.1) Spacing n.0.0
  Ok (n.0.1, n.1)

-- SPACING or ASPECT_RATIO
unfoldable pub spacing_at : Reading → Result (Vector × Reading) FileFault
spacing_at r = do
  x ← step_at r
  y ← step_at x.1
  z ← step_at y.1
  Ok (record { x = x.0; y = y.0; z = z.0 }, z.1)

-- what is known behind the keyword of a header line
unfoldable pub behind_at : Geometry → ℕ × List ℕ → Reading → Result (Geometry × Reading) FileFault
behind_at g key r =
    if same_word key.1 (codes "DIMENSIONS") && not (has g.whole)
    then (sizes_at r >>= λ v. Ok (record g { whole = Some v.0 }, v.1))
    else (if same_word key.1 (codes "ORIGIN") && not (has g.origin)
    then (origin_at r >>= λ v. Ok (record g { origin = Some v.0 }, v.1))
    else (if (same_word key.1 (codes "SPACING") || same_word key.1 (codes "ASPECT_RATIO"))
    && not (has g.spacing) then (spacing_at r >>= λ v. Ok (record g { spacing = Some v.0 }, v.1))
    else Err (fault_at (keyword_kind key.1) key.0)))

-- a FIELD
unfoldable pub one_field_at : Bool → Reading → Result (Unit {0} × Reading) FileFault
one_field_at binary r = due_word r >>= λ key. passed_field_at binary key.1

-- FIELDs
unfoldable pub fields_at : Bool → ℕ → Reading → Result (Unit {0} × Reading) FileFault
fields_at binary steps r = skip_at (is_next (codes "FIELD")) (one_field_at binary) steps r

-- a header line
unfoldable pub header_line_at : Bool → Geometry → Reading → Result (Geometry × Reading) FileFault
header_line_at binary g r = do
  fields ← fields_at binary (length r.bytes + 1) r
  key ← due_word fields.1
  behind_at g key.0 key.1

-- three header lines
unfoldable pub lines_at : Bool → Reading → Result (Geometry × Reading) FileFault
lines_at binary r = do
  first ← header_line_at binary no_line r
  second ← header_line_at binary first.0 first.1
  header_line_at binary second.0 second.1

-- the header that they make
unfoldable pub lines_header_at : Bool → Reading → Result (Header × Reading) FileFault
lines_header_at binary r = do
  all ← lines_at binary r
  Ok (header_of binary all.0, all.1)

-- the header of an image
unfoldable pub image_heading_at : Bool → Reading → Result (Heading × Reading) FileFault
image_heading_at binary r = do
  h ← lines_header_at binary r
  Ok (OfImage h.0, h.1)

-- the header, behind the preamble
unfoldable pub behind_preamble_at : Preamble → Reading → Result (Heading × Reading) FileFault
behind_preamble_at p r = if is_image p then image_heading_at p.binary r else Ok (OfMesh p, r)

-- the header
unfoldable pub header_at : Reading → Result (Heading × Reading) FileFault
header_at r = do
  p ← preamble_at r
  behind_preamble_at p.0 p.1

-- ---- behind the header

-- an image
unfoldable pub image_behind_at : Pick → Header → Reading → Result (ImageData × Reading) FileFault
image_behind_at pick h r = do
  column ← attributes_at (asked h pick) r
  Ok (image_of h column.0, column.1)

-- a grid
unfoldable pub grid_behind_at : Pick → ℕ → Preamble → Reading
    → Result (List SheetData × Reading) FileFault
grid_behind_at pick unit p r = do
  g ← grid_at p.binary p.later r
  picked ← attributes_at (asked_of p pick g.0.0.count g.0.1.0) g.1
  Ok (mesh_of unit g.0.0 picked.0 (grid_pieces_in g.0.1), picked.1)

-- how many cells there are in all sections
abbrev pub cells_in : ByKind (ℕ × List ℕ) → ℕ
cells_in all = all.vertices.0 + all.lines.0 + all.polygons.0 + all.strips.0

-- polydata
unfoldable pub poly_behind_at : Pick → ℕ → Preamble → Reading
    → Result (List SheetData × Reading) FileFault
poly_behind_at pick unit p r = do
  all ← polydata_at p.binary p.later r
  picked ← attributes_at (asked_of p pick all.0.0.count (cells_in all.0.1)) all.1
  Ok (mesh_of unit all.0.0 picked.0 (pieces_in all.0.1), picked.1)

-- a mesh
unfoldable pub mesh_behind_at : Pick → ℕ → Preamble → Reading
    → Result (List SheetData × Reading) FileFault
mesh_behind_at pick unit p r = if is_grid p then grid_behind_at pick unit p r
    else poly_behind_at pick unit p r

-- what stands behind a header
unfoldable pub contents_at : Pick → ℕ → Heading → Reading → Result (Dataset × Reading) FileFault
contents_at pick unit (OfImage h) r = image_behind_at pick h r >>= λ i. Ok (Image i.0, i.1)
contents_at pick unit (OfMesh p) r = mesh_behind_at pick unit p r >>= λ m. Ok (Mesh m.0, m.1)

-- the file
unfoldable pub file_at : Pick → ℕ → Reading → Result (Dataset × Reading) FileFault
file_at pick unit r = do
  h ← header_at r
  contents_at pick unit h.0 h.1
