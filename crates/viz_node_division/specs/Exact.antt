-- What a node makes in whole numbers without bound: sections are made also where a number is wide
-- (docs/FORMATS-OF-FILTERS.md, "Exact points").
use Rattle.std.specs.Prelude.{◌≡◌, ℕ, List, Option, None, Some, Result, Ok, Err}
use Rattle.viz_dataset.specs.declared.dataset.Dataset.{Dataset}
use Rattle.viz_dataset.specs.declared.dataset.Dataset.TheVariants.{Mesh}
use Rattle.viz_fraction.specs.declared.forms.Form.{Form}
use Rattle.viz_kinds.specs.declared.settings.Settings.{Settings}
use Rattle.viz_kinds.specs.declared.settings.Settings.TheVariants as settings
use Rattle.viz_meaning.specs.Section.{sections_of}
use Rattle.viz_meaning.specs.Tetrahedra.{sheets_of}
use Rattle.viz_network.specs.declared.fault.Cause.{Cause}
use Rattle.viz_node_meaning.specs.Data.{
  IsEvaluated,
  IsMadeWith,
  all_information,
  contour_forms,
  cut_forms,
}
use Rattle.viz_node_meaning.specs.Information.{fed_at, filter_information}
use Rattle.viz_node_meaning.specs.Rules.{Inputs, NodeRule}

-- the sections of a dataset by forms, wide numbers or not
abbrev pub IsExactSection : List Form → Dataset → Result Dataset Cause → Type 0
IsExactSection forms d (Ok made) = made ≡ Mesh (sections_of forms (sheets_of d))
IsExactSection forms d (Err cause) = ⊥

-- the same of the dataset at a port
abbrev pub IsExactSectionOf : List Form → Option Dataset → Result Dataset Cause → Type 0
IsExactSectionOf forms None r = ⊥
IsExactSectionOf forms (Some d) r = IsExactSection forms d r

-- what a node with these parameters and this file makes so of the datasets at its ports
abbrev pub IsExact : Settings → Option (List ℕ) → Inputs Dataset → Result Dataset Cause → Type 0
IsExact (settings.Contour count levels) file inputs r =
    IsMadeWith (filter_information (settings.Contour count levels) (all_information inputs))
    (IsExactSectionOf (contour_forms count levels) (fed_at 1 inputs)) r
IsExact (settings.Cut a b c k) file inputs r =
    IsMadeWith (filter_information (settings.Cut a b c k) (all_information inputs))
    (IsExactSectionOf (cut_forms a b c k) (fed_at 1 inputs)) r
IsExact settings file inputs r = IsEvaluated settings file inputs r

-- the data rule of a node in whole numbers without bound
abbrev pub ExactRule : NodeRule Dataset
ExactRule n inputs r = IsExact n.settings n.file inputs r
