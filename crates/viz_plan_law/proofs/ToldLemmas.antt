-- What is told of a node is the information of the dataset that it gives.
use Rattle.std.proofs.Common.{◌≡◌, ℕ, List, Option, None, Some, Result, Ok, Err, refl, ap, subst}
use Rattle.std.specs.Option.{option_map}
use Rattle.viz_dataset.specs.declared.dataset.Dataset.{Dataset}
use Rattle.viz_dataset.specs.declared.dataset.Dataset.TheVariants.{Image, Mesh}
use Rattle.viz_kinds.specs.declared.settings.Settings.{Settings}
use Rattle.viz_kinds.specs.declared.settings.Settings.TheVariants as settings
use Rattle.viz_meaning.specs.ImageFilters.{arith_of, smooth_of, threshold_of}
use Rattle.viz_mesh_meaning.specs.Append.{appended}
use Rattle.viz_mesh_meaning.specs.Facets.{boundaries}
use Rattle.viz_mesh_meaning.specs.Select.{selections}
use Rattle.viz_network.specs.declared.fault.Cause.{Cause}
use Rattle.viz_network.specs.declared.node.Node.{Node}
use Rattle.viz_node_division.specs.Exact.{ExactRule, IsExact, IsExactSectionOf}
use Rattle.viz_node_division.specs.Laws.{DataAreExact}
use Rattle.viz_node_meaning.specs.Data.{
  IsFiltered,
  IsMadeWith,
  all_information,
  contour_forms,
  cut_forms,
  merge_of,
  meshes_in,
  op_with,
  radius_with,
  unit_with,
}
use Rattle.viz_node_meaning.specs.Information.{
  InformationRule,
  IsInformed,
  and_then,
  as_image,
  box_with,
  cropped,
  either_in,
  fed_at,
  filter_information,
  grid_in,
  grid_of,
  information_of,
  rate_with,
  shared_grid,
  thinned,
}
use Rattle.viz_node_meaning.specs.Rules.{Inputs, IsOne}
use Rattle.viz_node_meaning.specs.declared.information.Grid.{Grid}
use Rattle.viz_node_meaning.specs.declared.information.Information.{Information}
use Rattle.viz_node_meaning.specs.declared.information.Information.TheVariants.{OfImage, OfMesh}
use Rattle.viz_node_meaning.proofs.OneLemmas.{value_one}
use Rattle.viz_sheet.specs.Sheet.{SheetData}
use Rattle.viz_plan_law.specs.Told.{
  DatasetsAreTold,
  IsImageOn,
  ToldExtentsAreOwn,
  ToldIsOfDatasets,
  ToldIsOfGiven,
  ToldMeshesAreGiven,
}
use Rattle.viz_plan_law.proofs.FileLemmas.{file_told}
use Rattle.viz_plan_law.proofs.OkLemmas.{ok_value}
use Rattle.viz_plan_law.proofs.RowLemmas.{
  after_all,
  after_any,
  after_mesh,
  arith_told,
  crop_told,
  first_told,
  made_of_mesh,
  mesh_told,
  of_section,
  passed_told,
  same_told,
  sample_told,
  second_told,
  section_made,
  tetrahedra_made,
}

-- ---- rows

-- where it is told at the first port, it is told of the dataset there
at_first : (told : Option Information → Result Information Cause) (inputs : Inputs Dataset)
    (i : Information)
    → told (fed_at 1 (all_information inputs)) ≡ Ok i
    → told (option_map information_of (fed_at 1 inputs)) ≡ Ok i
at_first told inputs i e =
    subst (λ (o : Option Information). told o ≡ Ok i) (first_told inputs) e

at_second : (told : Option Information → Result Information Cause) (inputs : Inputs Dataset)
    (i : Information)
    → told (fed_at 2 (all_information inputs)) ≡ Ok i
    → told (option_map information_of (fed_at 2 inputs)) ≡ Ok i
at_second told inputs i e =
    subst (λ (o : Option Information). told o ≡ Ok i) (second_told inputs) e

row_told : (s : Settings) (inputs : Inputs Dataset) (i : Information) (d : Dataset)
    → filter_information s (all_information inputs) ≡ Ok i → IsFiltered s inputs (Ok d)
    → information_of d ≡ i
row_told (settings.File array unit) inputs i d e m = absurd m
row_told (settings.Crop x0 x1 y0 y1 z0 z1) inputs i d e m =
    let box = box_with x0 x1 y0 y1 z0 z1 in
    crop_told box (fed_at 1 inputs) i d
    (at_first (λ o. as_image (and_then (grid_in 1 o) (cropped box))) inputs i e) m
row_told (settings.Sample x y z) inputs i d e m =
    let rate = rate_with x y z in
    sample_told rate (fed_at 1 inputs) i d
    (at_first (λ o. as_image (and_then (grid_in 1 o) (thinned rate))) inputs i e) m
row_told (settings.Threshold lo hi) inputs i d e m =
    same_told (threshold_of lo hi) (λ w. refl) (fed_at 1 inputs) i d
    (at_first (λ o. as_image (grid_in 1 o)) inputs i e) m
row_told (settings.Smooth radius) inputs i d e m =
    same_told (smooth_of (radius_with radius)) (λ w. refl) (fed_at 1 inputs) i d
    (at_first (λ o. as_image (grid_in 1 o)) inputs i e) m
row_told (settings.Arith op) inputs i d e m =
    let told : Option Information → Option Information → Result Information Cause =
    λ o p. as_image (and_then (grid_in 1 o) (λ g. and_then (grid_in 2 p) (shared_grid g))) in
    arith_told (arith_of (op_with op)) (λ v w. refl) (fed_at 1 inputs) (fed_at 2 inputs) i d
    (at_second (told (option_map information_of (fed_at 1 inputs))) inputs i
    (at_first (λ o. told o (fed_at 2 (all_information inputs))) inputs i e)) m
row_told settings.Tets inputs i d e m =
    tetrahedra_made (fed_at 1 inputs) i d
    (after_any (grid_in 1 (fed_at 1 (all_information inputs))) i e) m
row_told (settings.Select lo hi all) inputs i d e m =
    made_of_mesh (selections all lo hi) (fed_at 1 inputs) i d
    (after_mesh (fed_at 1 (all_information inputs)) i e) m
row_told (settings.Contour count levels) inputs i d e m =
    section_made (contour_forms count levels) (fed_at 1 inputs) i d
    (after_any (either_in 1 (fed_at 1 (all_information inputs))) i e)
    (of_section (contour_forms count levels) (fed_at 1 inputs) d m)
row_told (settings.Cut a b c r) inputs i d e m =
    section_made (cut_forms a b c r) (fed_at 1 inputs) i d
    (after_any (either_in 1 (fed_at 1 (all_information inputs))) i e)
    (of_section (cut_forms a b c r) (fed_at 1 inputs) d m)
row_told settings.Append inputs i d e m =
    let same : d ≡ Mesh (appended (meshes_in inputs)) = cc in
    mesh_told (appended (meshes_in inputs)) d i same (after_all (all_information inputs) i e)
row_told settings.Boundary inputs i d e m =
    made_of_mesh boundaries (fed_at 1 inputs) i d
    (after_mesh (fed_at 1 (all_information inputs)) i e) m
row_told settings.Merge inputs i d e m =
    made_of_mesh merge_of (fed_at 1 inputs) i d
    (after_mesh (fed_at 1 (all_information inputs)) i e) m
row_told (settings.Writer binary digits version) inputs i d e m =
    passed_told (fed_at 1 inputs) m.0 i d (at_first (either_in 1) inputs i e) m.1 m.2

-- ---- a node

made_told : (r : Result Information Cause) (P : Result Dataset Cause → Type 0) (d : Dataset)
    → ((i : Information) → r ≡ Ok i → P (Ok d) → information_of d ≡ i) → IsMadeWith r P (Ok d)
    → Ok (information_of d) ≡ r
made_told (Ok i) P d h m = ap (λ (z : Information). Ok z) (h i refl m)
made_told (Err cause) P d h m = let bad : ⊥ = cc in absurd bad

filter_told : (s : Settings) (inputs : Inputs Dataset) (d : Dataset)
    → IsMadeWith (filter_information s (all_information inputs)) (IsFiltered s inputs) (Ok d)
    → Ok (information_of d) ≡ filter_information s (all_information inputs)
filter_told s inputs d m =
    made_told (filter_information s (all_information inputs)) (IsFiltered s inputs) d
    (λ i e f. row_told s inputs i d e f) m

exact_told : (s : Settings) (file : Option (List ℕ)) (inputs : Inputs Dataset) (d : Dataset)
    → IsExact s file inputs (Ok d)
    → IsInformed s file (all_information inputs) (Ok (information_of d))
exact_told (settings.File array unit) None inputs d m = let bad : ⊥ = cc in absurd bad
exact_told (settings.File array unit) (Some bytes) inputs d m =
    file_told array (unit_with unit) bytes d m
exact_told (settings.Crop x0 x1 y0 y1 z0 z1) file inputs d m =
    filter_told (settings.Crop x0 x1 y0 y1 z0 z1) inputs d m
exact_told (settings.Sample x y z) file inputs d m =
    filter_told (settings.Sample x y z) inputs d m
exact_told (settings.Threshold lo hi) file inputs d m =
    filter_told (settings.Threshold lo hi) inputs d m
exact_told (settings.Smooth radius) file inputs d m =
    filter_told (settings.Smooth radius) inputs d m
exact_told (settings.Arith op) file inputs d m = filter_told (settings.Arith op) inputs d m
exact_told settings.Tets file inputs d m = filter_told settings.Tets inputs d m
exact_told (settings.Select lo hi all) file inputs d m =
    filter_told (settings.Select lo hi all) inputs d m
exact_told (settings.Contour count levels) file inputs d m =
    made_told (filter_information (settings.Contour count levels) (all_information inputs))
    (IsExactSectionOf (contour_forms count levels) (fed_at 1 inputs)) d
    (λ i e f. section_made (contour_forms count levels) (fed_at 1 inputs) i d
    (after_any (either_in 1 (fed_at 1 (all_information inputs))) i e) f) m
exact_told (settings.Cut a b c r) file inputs d m =
    made_told (filter_information (settings.Cut a b c r) (all_information inputs))
    (IsExactSectionOf (cut_forms a b c r) (fed_at 1 inputs)) d
    (λ i e f. section_made (cut_forms a b c r) (fed_at 1 inputs) i d
    (after_any (either_in 1 (fed_at 1 (all_information inputs))) i e) f) m
exact_told settings.Append file inputs d m = filter_told settings.Append inputs d m
exact_told settings.Boundary file inputs d m = filter_told settings.Boundary inputs d m
exact_told settings.Merge file inputs d m = filter_told settings.Merge inputs d m
exact_told (settings.Writer binary digits version) file inputs d m =
    filter_told (settings.Writer binary digits version) inputs d m

node_told : (n : Node) (inputs : Inputs Dataset) (d : Dataset) → ExactRule n inputs (Ok d)
    → InformationRule n (all_information inputs) (Ok (information_of d))
node_told n inputs d m = exact_told n.settings n.file inputs d m

-- ---- along the cone

pub are_told : DatasetsAreTold
are_told cone d g = ok_value information_of ExactRule InformationRule node_told cone d g

image_on : (d : Dataset) (g : Grid) → information_of d ≡ OfImage g → IsImageOn g.extent d
image_on (Image image) g e =
    let same : grid_of image.extent image.origin image.spacing ≡ g = cc in
    (image, refl, ap (λ (h : Grid). h.extent) same)
image_on (Mesh sheets) g e = let bad : ⊥ = cc in absurd bad

is_mesh : (d : Dataset) → information_of d ≡ OfMesh → (sheets : List SheetData) × (d ≡ Mesh sheets)
is_mesh (Image image) e = let bad : ⊥ = cc in absurd bad
is_mesh (Mesh sheets) e = (sheets, refl)

module _ (one : IsOne InformationRule) where
  pub told_is_one : ToldIsOfDatasets
  told_is_one cone i d told given =
      let both = value_one InformationRule one cone (Ok (information_of d)) (Ok i)
      (are_told cone d given) told in
      let same : information_of d ≡ i = cc in
      same

  pub told_given : DataAreExact → ToldIsOfGiven
  told_given exact cone i d told given = told_is_one cone i d told (exact cone d given)

  pub told_extent : ToldExtentsAreOwn
  told_extent cone g d told given = image_on d g (told_is_one cone (OfImage g) d told given)

  pub told_mesh : ToldMeshesAreGiven
  told_mesh cone d told given = is_mesh d (told_is_one cone OfMesh d told given)
