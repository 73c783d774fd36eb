-- Strips and clips of a file, as VTK's vtkStripper and vtkClipDataSet make them of a dataset, and
-- their text (docs/FORMATS-OF-OUTPUT.md, "Strips and clips of a file").
use Rattle.std.specs.Prelude.{◌≡◌, ◌⊎◌, ℕ, ◌≤◌, false, List, [], ◌∷◌, length, All, Some, Result}
use Rattle.std.specs.Prelude.{Ok, Err}
use Rattle.viz_base.specs.declared.node.Pick.TheVariants.{First}
use Rattle.viz_fraction.specs.declared.forms.Form.{Form}
use Rattle.viz_fraction.specs.Forms.{plane_form}
use Rattle.viz_sheet.specs.Sheet.{SheetData}
use Rattle.viz_dataset.specs.declared.dataset.Dataset.{Dataset}
use Rattle.viz_dataset.specs.declared.dataset.Dataset.TheVariants.{Image, Mesh}
use Rattle.viz_meaning.specs.Tetrahedra.{sheets_of}
use Rattle.viz_network.specs.declared.fault.Cause.{Cause}
use Rattle.viz_network.specs.declared.fault.Cause.TheVariants.{WrongInput, TooMany, TooWide}
use Rattle.viz_network.specs.declared.fault.Fault.{Fault}
use Rattle.viz_node_meaning.specs.Data.{IsReadingOf}
use Rattle.viz_mesh_write.specs.Cells.{points_of, cells_of}
use Rattle.viz_mesh_write.specs.Fits.{FitCounts, FitNumbers}
use Rattle.viz_mesh_write.specs.MeshText.{mesh_text}
use Rattle.viz_strip_write.specs.declared.stripped.Stripped.{Stripped}
use Rattle.viz_strip_write.specs.FitStrips.{FitStrips}
use Rattle.viz_strip_write.specs.StripText.{IsStripped}
use Rattle.viz_clip_meaning.specs.Clip.{AreTetrahedra, AreNarrowCells, clipped_of, sheet_of}
use Rattle.viz_reshape.specs.declared.reshape.Reshape.{Reshape}
use Rattle.viz_reshape.specs.declared.reshape.Reshape.TheVariants.{Strip, Clip}
use Rattle.viz_reshape.specs.declared.reshape.MadeFile.{MadeFile}
use Rattle.viz_reshape.specs.declared.reshape.FileCounts.TheVariants.{Cells, Strips}

-- ---- decisions

-- this is made
abbrev pub Is : {X : Type 0} → (X → Type 0) → Result X Cause → Type 0
Is {X} is r = (x : X) × is x × (r ≡ Ok x)

-- where this holds the rest decides, and else this is the cause
abbrev pub Demands : {X : Type 0} → Type 0 → Cause → (Result X Cause → Type 0) → Result X Cause
    → Type 0
Demands holds cause rest r = (holds × rest r) ⊎ ((holds → ⊥) × (r ≡ Err cause))

-- ---- strips

-- no cell of a mesh is a tetrahedron
pub record HasNoTetrahedra (sheets : List SheetData) : Type 0 where
  pub each : All (λ s. All (λ cell. length cell ≤ 3) s.cells) sheets

-- a text of a mesh with strips, and how many strips, triangles and points it has
pub record IsStripFile (sheets : List SheetData) (made : MadeFile) : Type 0 where
  pub stripped : Stripped
  pub is : IsStripped sheets stripped
  pub text_is : made.text ≡ stripped.text
  pub counts_are : made.counts
      ≡ Strips stripped.strips stripped.triangles (length (points_of sheets))

-- the file of a mesh with strips, whose counts and then whose numbers have to fit
abbrev pub AreStripsWritten : List SheetData → Result MadeFile Cause → Type 0
AreStripsWritten sheets =
    Demands (FitStrips sheets) TooMany (Demands (FitNumbers 3 sheets) TooWide (Is (IsStripFile sheets)))

-- a dataset with its triangles as strips: it has to be a mesh without tetrahedra
abbrev pub IsStripsOf : Dataset → Result MadeFile Cause → Type 0
IsStripsOf (Image image) r = r ≡ Err (WrongInput 1)
IsStripsOf (Mesh sheets) r =
    Demands (HasNoTetrahedra sheets) (WrongInput 1) (AreStripsWritten sheets) r

-- ---- clips

-- the text of a mesh, and how many cells and points it has
pub record IsCellFile (sheets : List SheetData) (made : MadeFile) : Type 0 where
  pub text_is : made.text ≡ mesh_text false false 3 sheets
  pub counts_are : made.counts ≡ Cells (length (cells_of sheets)) (length (points_of sheets))

-- the file of a mesh, whose counts and then whose numbers have to fit
abbrev pub IsWritten : List SheetData → Result MadeFile Cause → Type 0
IsWritten sheets =
    Demands (FitCounts sheets) TooMany (Demands (FitNumbers 3 sheets) TooWide (Is (IsCellFile sheets)))

-- the clip of a sheet as a mesh
abbrev pub clip_of : Form → SheetData → List SheetData
clip_of form s = sheet_of (clipped_of form s) ∷ []

-- what is decided of the clip of a sheet: its cells have to be tetrahedra, and then no number of
-- the section in one may be wide
abbrev pub IsOfClip : {X : Type 0} → (List SheetData → Result X Cause → Type 0) → Form → SheetData
    → Result X Cause → Type 0
IsOfClip rest form s = Demands (AreTetrahedra s) (WrongInput 1)
    (Demands (AreNarrowCells form s) TooWide (rest (clip_of form s)))

-- the file of the clip of a mesh, which has one sheet
abbrev pub IsClipOf : Form → List SheetData → Result MadeFile Cause → Type 0
IsClipOf form sheets r = (s : SheetData) × (sheets ≡ s ∷ []) × IsOfClip IsWritten form s r

-- ---- files

-- what is made of a dataset, of which a clip takes the sheets, or why nothing is
abbrev pub IsMadeOf : Reshape → Dataset → Result MadeFile Cause → Type 0
IsMadeOf Strip d r = IsStripsOf d r
IsMadeOf (Clip a b c k) d r = IsClipOf (plane_form a b c k) (sheets_of d) r

-- a cause is a fault of the node of this number
abbrev pub fault_of : {X : Type 0} → ℕ → Result X Cause → Result X Fault
fault_of id (Ok x) = Ok x
fault_of id (Err cause) = Err (record { node = record { 0 = id }; cause = cause })

-- what is made of a dataset that was read, or the fault: that of its reading is the source's
abbrev pub IsMadeBehind : Reshape → ℕ → ℕ → Result Dataset Cause → Result MadeFile Fault → Type 0
IsMadeBehind reshape source op (Err cause) r = r ≡ fault_of source (Err cause)
IsMadeBehind reshape source op (Ok d) r = (own : Result MadeFile Cause) × IsMadeOf reshape d own
    × (r ≡ fault_of op own)

-- what is made of a file's bytes, of which the first array is picked, or the first fault
abbrev pub IsReshaped : Reshape → ℕ → ℕ → List ℕ → Result MadeFile Fault → Type 0
IsReshaped reshape source op bytes r = (read : Result Dataset Cause)
    × IsReadingOf First 0 (Some bytes) read × IsMadeBehind reshape source op read r
