-- What one node makes, unless memory runs out. Only private contracts and proofs speak of it.
use Rattle.std.specs.Prelude.{◌≡◌, ℕ, ℤ, List, [], ◌∷◌, map, Option, None, Some, Result, Ok, Err}
use Rattle.viz_dataset.specs.declared.dataset.Dataset.{Dataset}
use Rattle.viz_dataset.specs.declared.dataset.Dataset.TheVariants.{Image, Mesh}
use Rattle.viz_legacy_read.specs.declared.stop.ReadStop.{ReadStop}
use Rattle.viz_legacy_read.specs.declared.stop.ReadStop.TheVariants as read
use Rattle.viz_meaning.specs.declared.stop.WorkStop.{WorkStop}
use Rattle.viz_meaning.specs.declared.stop.WorkStop.TheVariants as work
use Rattle.viz_sheet.specs.Sheet.{SheetData, IsFit}
use Rattle.viz_meaning.specs.Section.{section_of}
use Rattle.viz_meaning.specs.Tetrahedra.{tetrahedra_sheet}
use Rattle.viz_mesh_meaning.specs.Append.{appended}
use Rattle.viz_meaning.specs.WholeImages.{WholeImage, whole_of}
use Rattle.viz_network.specs.declared.fault.Cause.{Cause}
use Rattle.viz_network.specs.declared.fault.Cause.TheVariants.{Unconnected, WrongInput, BadFile}
use Rattle.viz_network.specs.declared.fault.Cause.TheVariants.{TooWide}
use Rattle.viz_node_meaning.specs.declared.information.Grid.{Grid}
use Rattle.viz_node_rules.specs.declared.stop.OwnStop.{OwnStop}
use Rattle.viz_node_rules.specs.declared.stop.OwnStop.TheVariants.{Cause as Caused, Memory}
use Rattle.viz_node_meaning.specs.Information.{grid_of, meshes_at, shared_grid}
use Rattle.viz_node_meaning.specs.Data.{IsWhole, IsSection, IsMadeWith, all_information, meshes_in}
use Rattle.viz_node_meaning.specs.Rules.{Inputs}
use Rattle.viz_fraction.specs.declared.forms.Form.{Form}
use Rattle.viz_fraction.specs.Forms.{contour_form}

-- a stop of reading
abbrev pub of_read : ReadStop → OwnStop
of_read (read.File fault) = Caused (BadFile fault)
of_read read.Memory = Memory

-- the mesh of a section as a dataset, or why there is none
abbrev pub sectioned_of : Result (List SheetData) WorkStop → Result Dataset OwnStop
sectioned_of (Ok sheets) = Ok (Mesh sheets)
sectioned_of (Err work.TooWide) = Err (Caused TooWide)
sectioned_of (Err work.Memory) = Err Memory

-- the same dataset, unless memory ran out
abbrev pub IsShared : Result Dataset OwnStop → Result Dataset OwnStop → Type 0
IsShared made (Ok d) = made ≡ Ok d
IsShared made (Err (Caused cause)) = made ≡ Err (Caused cause)
IsShared made (Err Memory) = Unit {0}

-- why a port has no image
abbrev pub IsNoImage : ℕ → Option Dataset → Cause → Type 0
IsNoImage port None cause = cause ≡ Unconnected port
IsNoImage port (Some (Mesh sheets)) cause = cause ≡ WrongInput port
IsNoImage port (Some (Image i)) cause = ⊥

-- why a port has no mesh
abbrev pub IsNoMesh : ℕ → Option Dataset → Cause → Type 0
IsNoMesh port None cause = cause ≡ Unconnected port
IsNoMesh port (Some (Image i)) cause = cause ≡ WrongInput port
IsNoMesh port (Some (Mesh sheets)) cause = ⊥

-- what is made of an image on a grid, or why there is none
abbrev pub IsOnGrid : Result Grid Cause → WholeImage → Result Dataset Cause → Type 0
IsOnGrid (Ok g) w r = IsWhole w r
IsOnGrid (Err cause) w r = r ≡ Err cause

-- what a filter of images makes of what feeds a port
abbrev pub IsFromOne : (Grid → Result Grid Cause) → (WholeImage → WholeImage) → Option Dataset
    → Result Dataset Cause → Type 0
IsFromOne grid filter None r = r ≡ Err (Unconnected 1)
IsFromOne grid filter (Some (Mesh sheets)) r = r ≡ Err (WrongInput 1)
IsFromOne grid filter (Some (Image i)) r = IsOnGrid (grid (grid_of i.extent i.origin i.spacing))
    (filter (whole_of i)) r

-- what a filter of two images makes of what feeds its ports
abbrev pub IsFromTwo : (WholeImage → WholeImage → WholeImage) → Option Dataset → Option Dataset
    → Result Dataset Cause → Type 0
IsFromTwo filter None e r = r ≡ Err (Unconnected 1)
IsFromTwo filter (Some (Mesh sheets)) e r = r ≡ Err (WrongInput 1)
IsFromTwo filter (Some (Image a)) None r = r ≡ Err (Unconnected 2)
IsFromTwo filter (Some (Image a)) (Some (Mesh sheets)) r = r ≡ Err (WrongInput 2)
IsFromTwo filter (Some (Image a)) (Some (Image b)) r =
    IsOnGrid (shared_grid (grid_of a.extent a.origin a.spacing)
    (grid_of b.extent b.origin b.spacing)) (filter (whole_of a) (whole_of b)) r

-- what sections by forms make of what feeds a port
abbrev pub IsContouredBy : List Form → Option Dataset → Result Dataset Cause → Type 0
IsContouredBy forms None r = r ≡ Err (Unconnected 1)
IsContouredBy forms (Some d) r = IsSection forms d r

-- the same of the contour at levels
abbrev pub IsContoured : List ℤ → Option Dataset → Result Dataset Cause → Type 0
IsContoured levels d r = IsContouredBy (map contour_form levels) d r

-- what tetrahedra are made of what feeds a port
abbrev pub AreFromImage : Option Dataset → Result Dataset Cause → Type 0
AreFromImage None r = r ≡ Err (Unconnected 1)
AreFromImage (Some (Mesh sheets)) r = r ≡ Err (WrongInput 1)
AreFromImage (Some (Image i)) r = r ≡ Ok (Mesh (tetrahedra_sheet i ∷ []))

-- what a filter of meshes makes of what feeds a port
abbrev pub IsFromMesh : (List SheetData → List SheetData) → Option Dataset → Result Dataset Cause
    → Type 0
IsFromMesh filter None r = r ≡ Err (Unconnected 1)
IsFromMesh filter (Some (Image i)) r = r ≡ Err (WrongInput 1)
IsFromMesh filter (Some (Mesh sheets)) r = r ≡ Ok (Mesh (filter sheets))

-- what joining makes of what feeds the ports
abbrev pub IsJoined : Inputs Dataset → Result Dataset Cause → Type 0
IsJoined inputs r = IsMadeWith (meshes_at (all_information inputs))
    (λ made. made ≡ Ok (Mesh (appended (meshes_in inputs)))) r

-- what a writer passes on of what feeds its port
abbrev pub IsPassed : Option Dataset → Result Dataset Cause → Type 0
IsPassed None r = r ≡ Err (Unconnected 1)
IsPassed (Some d) r = r ≡ Ok d

-- each section of the sheet fits
abbrev pub HasFitSections : SheetData → Type 0
HasFitSections s = (f : Form) → IsFit (section_of f s)
