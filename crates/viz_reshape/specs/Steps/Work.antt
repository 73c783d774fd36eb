-- Words of private contracts: the one sheet of a file, and what is made unless memory runs out.
use Rattle.std.specs.Prelude.{◌≡◌, List, [], ◌∷◌, length, All, Result, Ok, Err}
use Rattle.viz_sheet.specs.Sheet.{SheetData}
use Rattle.viz_dataset.specs.declared.dataset.Dataset.{Dataset}
use Rattle.viz_meaning.specs.Tetrahedra.{sheets_of}
use Rattle.viz_base.specs.declared.node.NodeId.{NodeId}
use Rattle.viz_fraction.specs.declared.forms.Form.{Form}
use Rattle.viz_network.specs.declared.fault.Cause.{Cause}
use Rattle.viz_network.specs.declared.fault.Stop.{Stop}
use Rattle.viz_network.specs.declared.fault.Stop.TheVariants as stop
use Rattle.viz_reshape.specs.Reshape.{IsOfClip}
use Rattle.viz_reshape.specs.declared.stop.MakeStop.{MakeStop}
use Rattle.viz_reshape.specs.declared.stop.MakeStop.TheVariants.{Cause as Caused, Memory}

-- one sheet, whose names are leaves
pub record IsOneSheet (sheets : List SheetData) : Type 0 where
  pub sheet : SheetData
  pub one : sheets ≡ sheet ∷ []
  pub leaves : All (λ n. length n ≡ 1) sheet.names

-- one sheet
pub record IsAlone (sheets : List SheetData) : Type 0 where
  pub sheet : SheetData
  pub one : sheets ≡ sheet ∷ []

-- a dataset is taken through one sheet
abbrev pub IsOneIn : Dataset → Type 0
IsOneIn d = IsOneSheet (sheets_of d)

-- the clip of the one sheet of a mesh
abbrev pub IsClipMesh : Form → List SheetData → Result (List SheetData) Cause → Type 0
IsClipMesh form sheets r = (s : SheetData) × (sheets ≡ s ∷ [])
    × IsOfClip (λ made answer. answer ≡ Ok made) form s r

-- a stop of the work at a node
abbrev pub stop_at : NodeId → MakeStop → Stop
stop_at node (Caused cause) = stop.Fault (record { node = node; cause = cause })
stop_at node Memory = stop.Memory

-- this is made, unless memory ran out
abbrev pub Makes : {X : Type 0} → (Result X Cause → Type 0) → Result X MakeStop → Type 0
Makes is (Ok x) = is (Ok x)
Makes is (Err (Caused cause)) = is (Err cause)
Makes is (Err Memory) = Unit {0}
