-- A contour that gives a dataset gives a mesh.
use Rattle.std.proofs.Common.{
  ◌≡◌,
  ℕ,
  true,
  List,
  Option,
  None,
  Some,
  Result,
  Ok,
  Err,
  subst,
}
use Rattle.viz_account.specs.Audited.{StandsOn, is_contour}
use Rattle.viz_dataset.specs.Images.{ImageData}
use Rattle.viz_dataset.specs.declared.dataset.Dataset.{Dataset}
use Rattle.viz_dataset.specs.declared.dataset.Dataset.TheVariants.{Mesh}
use Rattle.viz_fraction.specs.declared.forms.Form.{Form}
use Rattle.viz_kinds.specs.declared.settings.Settings.{Settings}
use Rattle.viz_kinds.specs.declared.settings.Settings.TheVariants as settings
use Rattle.viz_meaning.specs.Section.{sections_of}
use Rattle.viz_meaning.specs.Tetrahedra.{sheets_of}
use Rattle.viz_network.specs.Cone.{Tree}
use Rattle.viz_network.specs.declared.fault.Cause.{Cause}
use Rattle.viz_network.specs.declared.fault.Fault.{Fault}
use Rattle.viz_network.specs.declared.node.Node.{Node}
use Rattle.viz_node_meaning.specs.Data.{
  DataRule,
  IsEvaluated,
  IsMadeWith,
  IsSectionOf,
  all_information,
  contour_forms,
}
use Rattle.viz_node_meaning.specs.Fold.{IsMade, at_node}
use Rattle.viz_node_meaning.specs.Information.{fed_at, filter_information}
use Rattle.viz_node_meaning.specs.Rules.{Inputs}
use Rattle.viz_node_meaning.specs.Scratch.{IsBehind, IsScratchOf}
use Rattle.viz_node_meaning.specs.declared.information.Information.{Information}
use Rattle.viz_sheet.specs.Sheet.{SheetData}

-- it is a mesh
abbrev IsMesh : Dataset → Type 0
IsMesh d = (sheets : List SheetData) × (d ≡ Mesh sheets)

section_mesh : (r : Result Information Cause) (forms : List Form) (o : Option Dataset) (d : Dataset)
    → IsMadeWith r (IsSectionOf forms o) (Ok d) → IsMesh d
section_mesh (Err cause) forms o d p = let bad : ⊥ = cc in absurd bad
section_mesh (Ok i) forms None d p = absurd p
section_mesh (Ok i) forms (Some e) d p = (sections_of forms (sheets_of e), p.1)

rule_mesh : (s : Settings) (file : Option (List ℕ)) (inputs : Inputs Dataset) (d : Dataset)
    → is_contour s ≡ true → IsEvaluated s file inputs (Ok d) → IsMesh d
rule_mesh (settings.Contour count levels) file inputs d is p =
    section_mesh (filter_information (settings.Contour count levels) (all_information inputs))
    (contour_forms count levels) (fed_at 1 inputs) d p
rule_mesh (settings.File array unit) file inputs d is p = let bad : ⊥ = cc in absurd bad
rule_mesh (settings.Crop x0 x1 y0 y1 z0 z1) file inputs d is p = let bad : ⊥ = cc in absurd bad
rule_mesh (settings.Sample x y z) file inputs d is p = let bad : ⊥ = cc in absurd bad
rule_mesh (settings.Threshold lo hi) file inputs d is p = let bad : ⊥ = cc in absurd bad
rule_mesh (settings.Smooth radius) file inputs d is p = let bad : ⊥ = cc in absurd bad
rule_mesh (settings.Arith op) file inputs d is p = let bad : ⊥ = cc in absurd bad
rule_mesh settings.Tets file inputs d is p = let bad : ⊥ = cc in absurd bad
rule_mesh (settings.Select lo hi all) file inputs d is p = let bad : ⊥ = cc in absurd bad
rule_mesh (settings.Cut x y z r) file inputs d is p = let bad : ⊥ = cc in absurd bad
rule_mesh settings.Append file inputs d is p = let bad : ⊥ = cc in absurd bad
rule_mesh settings.Boundary file inputs d is p = let bad : ⊥ = cc in absurd bad
rule_mesh settings.Merge file inputs d is p = let bad : ⊥ = cc in absurd bad
rule_mesh (settings.Writer binary digits version) file inputs d is p =
    let bad : ⊥ = cc in absurd bad

own_mesh : (n : Node) (inputs : Inputs Dataset) (own : Result Dataset Cause) (d : Dataset)
    → is_contour n.settings ≡ true → DataRule n inputs own → Ok d ≡ at_node n own → IsMesh d
own_mesh n inputs (Ok e) d is made at =
    let same : e ≡ d = cc in
    subst IsMesh same (rule_mesh n.settings n.file inputs e is made)
own_mesh n inputs (Err cause) d is made at = let bad : ⊥ = cc in absurd bad

made_mesh : (n : Node) (inputs : Result (Inputs Dataset) Fault) (d : Dataset)
    → is_contour n.settings ≡ true → IsMade DataRule n inputs (Ok d) → IsMesh d
made_mesh n (Ok xs) d is made = own_mesh n xs made.0 d is made.1 made.2
made_mesh n (Err fault) d is made = let bad : ⊥ = cc in absurd bad

behind_mesh : (i : Result Information Fault) (t : Tree) (d : Dataset)
    → is_contour t.0.settings ≡ true → IsBehind i (Some t) (Ok d) → IsMesh d
behind_mesh (Ok i) t d is given = made_mesh t.0 given.0 d is given.2
behind_mesh (Err fault) t d is given = let bad : ⊥ = cc in absurd bad

-- a contour that stands on an image gives a mesh, if it gives a dataset
pub contour_mesh : (o : Option Tree) (image : ImageData) (d : Dataset) → StandsOn o image
    → IsScratchOf o (Ok d) → (sheets : List SheetData) × (d ≡ Mesh sheets)
contour_mesh None image d on given = absurd on
contour_mesh (Some t) image d on given = behind_mesh given.0 t d on.0 given.2
