-- What a row of the data rule makes of the dataset at the first port.
use Rattle.std.proofs.Common.{◌≡◌, List, [], ◌∷◌, Option, Some, Result, Ok, Err, refl, sym}
use Rattle.std.specs.Option.{option_map}
use Rattle.viz_dataset.specs.declared.dataset.Dataset.{Dataset}
use Rattle.viz_dataset.specs.declared.dataset.Dataset.TheVariants.{Image, Mesh}
use Rattle.viz_fraction.specs.declared.forms.Form.{Form}
use Rattle.viz_kinds.specs.declared.settings.Settings.{Settings}
use Rattle.viz_meaning.specs.Section.{sections_of}
use Rattle.viz_meaning.specs.Tetrahedra.{sheets_of, tetrahedra_sheet}
use Rattle.viz_network.specs.declared.fault.Cause.{Cause}
use Rattle.viz_node_meaning.specs.Data.{
  AreTetrahedra,
  IsFiltered,
  IsMadeWith,
  IsOfMesh,
  all_information,
}
use Rattle.viz_node_meaning.specs.Information.{fed_at, filter_information}
use Rattle.viz_node_meaning.specs.Rules.{Inputs}
use Rattle.viz_node_meaning.specs.declared.information.Information.{Information}
use Rattle.viz_sheet.specs.Sheet.{SheetData}
use Rattle.viz_node_division.specs.Divided.{Divided, wholes}
use Rattle.viz_node_division.specs.Exact.{IsExactSectionOf}

-- ---- the first port

abbrev pub whole_at : Option Divided → Option Dataset
whole_at port = option_map (λ d. d.whole) port

pub first_whole : (inputs : Inputs Divided) → fed_at 1 (wholes inputs) ≡ whole_at (fed_at 1 inputs)
first_whole [] = refl
first_whole (d ∷ inputs) = refl

-- ---- what a row makes

abbrev pub IsOk : Result Dataset Cause → Dataset → Type 0
IsOk r d = r ≡ Ok d

pub of_mesh : (make : List SheetData → List SheetData) (d w : Dataset)
    → IsOfMesh make (Some d) (Ok w) → Mesh (make (sheets_of d)) ≡ w
of_mesh make (Image i) w m = absurd m
of_mesh make (Mesh sheets) w m = let same : Mesh (make sheets) ≡ w = cc in same

pub of_image : (d w : Dataset) → AreTetrahedra (Some d) (Ok w) → Mesh (sheets_of d) ≡ w
of_image (Image i) w m = let same : Mesh (tetrahedra_sheet i ∷ []) ≡ w = cc in same
of_image (Mesh sheets) w m = absurd m

pub of_either : (forms : List Form) (d w : Dataset) → IsExactSectionOf forms (Some d) (Ok w)
    → Mesh (sections_of forms (sheets_of d)) ≡ w
of_either forms d w m = sym m

pub made_with : (i : Result Information Cause) (P : Result Dataset Cause → Type 0) (w : Dataset)
    → IsMadeWith i P (Ok w) → P (Ok w)
made_with (Ok i) P w m = m
made_with (Err cause) P w m = let bad : ⊥ = cc in absurd bad

-- what a row makes of the datasets at the ports
pub row_made : (s : Settings) (inputs : Inputs Divided) (w : Dataset)
    → IsMadeWith (filter_information s (all_information (wholes inputs)))
    (IsFiltered s (wholes inputs)) (Ok w)
    → IsFiltered s (wholes inputs) (Ok w)
row_made s inputs w m =
    made_with (filter_information s (all_information (wholes inputs)))
    (IsFiltered s (wholes inputs)) w m

-- what a row of sections makes of the dataset at the first port
pub sections_made : (s : Settings) (forms : List Form) (inputs : Inputs Divided) (w : Dataset)
    → IsMadeWith (filter_information s (all_information (wholes inputs)))
    (IsExactSectionOf forms (fed_at 1 (wholes inputs))) (Ok w)
    → IsExactSectionOf forms (fed_at 1 (wholes inputs)) (Ok w)
sections_made s forms inputs w m =
    made_with (filter_information s (all_information (wholes inputs)))
    (IsExactSectionOf forms (fed_at 1 (wholes inputs))) w m
