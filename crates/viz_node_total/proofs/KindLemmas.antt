-- What each kind of filter makes of valid datasets at its ports, where its information is told.
use Rattle.std.proofs.Common.{
  ◌≡◌,
  ℕ,
  ℤ,
  Bool,
  List,
  [],
  ◌∷◌,
  Option,
  None,
  Some,
  Result,
  Ok,
  refl,
  subst,
}
use Rattle.std.specs.Option.{option_map}
use Rattle.viz_dataset.specs.Images.{ImageData, IsImage}
use Rattle.viz_dataset.specs.declared.dataset.Dataset.{Dataset}
use Rattle.viz_dataset.specs.declared.dataset.Dataset.TheVariants.{Image, Mesh}
use Rattle.viz_extent.specs.Parts.{IsRate, Rate}
use Rattle.viz_kinds.specs.declared.settings.Op as kinds
use Rattle.viz_kinds.specs.declared.settings.Settings.{Settings}
use Rattle.viz_kinds.specs.declared.settings.Settings.TheVariants as settings
use Rattle.viz_meaning.specs.ImageFilters.{
  arith_of,
  crop_of,
  sample_of,
  smooth_of,
  threshold_of,
}
use Rattle.viz_meaning.specs.Tetrahedra.{tetrahedra_sheet}
use Rattle.viz_meaning.specs.WholeImages.{WholeImage, whole_of}
use Rattle.viz_meaning.specs.declared.op.Op.{Op}
use Rattle.viz_mesh_meaning.specs.Append.{appended}
use Rattle.viz_mesh_meaning.specs.Facets.{boundaries}
use Rattle.viz_mesh_meaning.specs.Select.{selections}
use Rattle.viz_network.specs.declared.fault.Cause.{Cause}
use Rattle.viz_node_meaning.specs.Data.{
  AreTetrahedra,
  IsFiltered,
  IsOfMesh,
  IsOfOne,
  IsOfTwo,
  IsWhole,
  all_information,
  merge_of,
  meshes_in,
  op_with,
  radius_with,
}
use Rattle.viz_node_meaning.specs.Information.{
  and_then,
  as_image,
  box_with,
  cropped,
  either_in,
  fed_at,
  filter_information,
  grid_in,
  information_of,
  mesh_in,
  rate_with,
  shared_grid,
  thinned,
}
use Rattle.viz_node_meaning.specs.Rules.{Inputs}
use Rattle.viz_node_meaning.specs.declared.information.Grid.{Grid}
use Rattle.viz_node_meaning.specs.declared.information.Information.{Information}
use Rattle.viz_node_meaning.specs.declared.information.Information.TheVariants.{OfMesh}
use Rattle.viz_sheet.specs.Sheet.{SheetData}
use Rattle.viz_node_total.specs.Files.{IsValid}
use Rattle.viz_node_total.proofs.FilterLemmas.{arith_owns, smooth_owns, threshold_owns}
use Rattle.viz_node_total.proofs.ImageLemmas.{OwnsImage, own_image, own_image-on}
use Rattle.viz_node_total.proofs.TellLemmas.{crop_told, rate_is, sample_told}

-- a valid dataset of which this holds
abbrev pub Made : (Result Dataset Cause → Type 0) → Type 0
Made P = (d : Dataset) × P (Ok d) × IsValid d

-- what feeds a port is valid, if anything does
abbrev pub IsValidAt : Option Dataset → Type 0
IsValidAt None = Unit {0}
IsValidAt (Some d) = IsValid d

-- ---- what is told at ports

first_told : (inputs : Inputs Dataset)
    → fed_at 1 (all_information inputs) ≡ option_map information_of (fed_at 1 inputs)
first_told [] = refl
first_told (d ∷ inputs) = refl

second_told : (inputs : Inputs Dataset)
    → fed_at 2 (all_information inputs) ≡ option_map information_of (fed_at 2 inputs)
second_told [] = refl
second_told (d ∷ []) = refl
second_told (d ∷ e ∷ inputs) = refl

-- where it is told at a port, it is told of the dataset there
pub at_first : (told : Option Information → Result Information Cause) (inputs : Inputs Dataset)
    (i : Information)
    → told (fed_at 1 (all_information inputs)) ≡ Ok i
    → told (option_map information_of (fed_at 1 inputs)) ≡ Ok i
at_first told inputs i e =
    subst (λ (o : Option Information). told o ≡ Ok i) (first_told inputs) e

at_second : (told : Option Information → Result Information Cause) (inputs : Inputs Dataset)
    (i : Information)
    → told (fed_at 2 (all_information inputs)) ≡ Ok i
    → told (option_map information_of (fed_at 2 inputs)) ≡ Ok i
at_second told inputs i e =
    subst (λ (o : Option Information). told o ≡ Ok i) (second_told inputs) e

-- ---- images

-- a whole image that has an image is made
whole_made : (w : WholeImage) → OwnsImage w → Made (IsWhole w)
whole_made w owns =
    let on = own_image-on w owns in
    (Image (own_image w), (own_image w, on, refl), on.valid)

-- a filter of one image, which is told the grid that another makes of the image's
one_made : (filter : WholeImage → WholeImage) (grid : Grid → Result Grid Cause)
    → ((image : ImageData) (i : Information) → IsImage image
    → as_image (and_then (grid_in 1 (Some (information_of (Image image)))) grid) ≡ Ok i
    → OwnsImage (filter (whole_of image)))
    → (o : Option Dataset) (i : Information) → IsValidAt o
    → as_image (and_then (grid_in 1 (option_map information_of o)) grid) ≡ Ok i
    → Made (IsOfOne filter o)
one_made filter grid owns None i valid e = let bad : ⊥ = cc in absurd bad
one_made filter grid owns (Some (Mesh sheets)) i valid e = let bad : ⊥ = cc in absurd bad
one_made filter grid owns (Some (Image image)) i valid e =
    whole_made (filter (whole_of image)) (owns image i valid e)

-- a filter that keeps the points
same_made : (filter : WholeImage → WholeImage)
    → ((image : ImageData) → IsImage image → OwnsImage (filter (whole_of image)))
    → (o : Option Dataset) (i : Information) → IsValidAt o
    → as_image (grid_in 1 (option_map information_of o)) ≡ Ok i → Made (IsOfOne filter o)
same_made filter owns None i valid e = let bad : ⊥ = cc in absurd bad
same_made filter owns (Some (Mesh sheets)) i valid e = let bad : ⊥ = cc in absurd bad
same_made filter owns (Some (Image image)) i valid e =
    whole_made (filter (whole_of image)) (owns image valid)

-- arithmetic of two images
both_made : (op : Op) (o p : Option Dataset) (i : Information) → IsValidAt o
    → as_image
    (and_then (grid_in 1 (option_map information_of o))
    (λ g. and_then (grid_in 2 (option_map information_of p)) (shared_grid g)))
    ≡ Ok i
    → Made (IsOfTwo (arith_of op) o p)
both_made op None p i valid e = let bad : ⊥ = cc in absurd bad
both_made op (Some (Mesh sheets)) p i valid e = let bad : ⊥ = cc in absurd bad
both_made op (Some (Image a)) None i valid e = let bad : ⊥ = cc in absurd bad
both_made op (Some (Image a)) (Some (Mesh sheets)) i valid e = let bad : ⊥ = cc in absurd bad
both_made op (Some (Image a)) (Some (Image b)) i valid e =
    whole_made (arith_of op (whole_of a) (whole_of b)) (arith_owns op a b valid)

-- ---- meshes

tetrahedra_made : (o : Option Dataset) (i : Information)
    → and_then (grid_in 1 (option_map information_of o)) (λ g. Ok OfMesh) ≡ Ok i
    → Made (AreTetrahedra o)
tetrahedra_made None i e = let bad : ⊥ = cc in absurd bad
tetrahedra_made (Some (Mesh sheets)) i e = let bad : ⊥ = cc in absurd bad
tetrahedra_made (Some (Image image)) i e = (Mesh (tetrahedra_sheet image ∷ []), refl, tt)

mesh_made : (make : List SheetData → List SheetData) (o : Option Dataset) (i : Information)
    → mesh_in 1 (option_map information_of o) ≡ Ok i → Made (IsOfMesh make o)
mesh_made make None i e = let bad : ⊥ = cc in absurd bad
mesh_made make (Some (Image image)) i e = let bad : ⊥ = cc in absurd bad
mesh_made make (Some (Mesh sheets)) i e = (Mesh (make sheets), refl, tt)

passed : (o : Option Dataset) (i : Information) → IsValidAt o
    → either_in 1 (option_map information_of o) ≡ Ok i
    → (d : Dataset) × (o ≡ Some d) × IsValid d
passed None i valid e = let bad : ⊥ = cc in absurd bad
passed (Some d) i valid e = (d, refl, valid)

-- ---- the kinds

-- where information is told, the filter makes a valid dataset
abbrev pub MakesWhereTold : Settings → Inputs Dataset → Type 0
MakesWhereTold s inputs =
    (i : Information) → IsValidAt (fed_at 1 inputs)
    → filter_information s (all_information inputs) ≡ Ok i → Made (IsFiltered s inputs)

pub crop_made : (x0 x1 y0 y1 z0 z1 : ℕ) (inputs : Inputs Dataset)
    → MakesWhereTold (settings.Crop x0 x1 y0 y1 z0 z1) inputs
crop_made x0 x1 y0 y1 z0 z1 inputs i valid e =
    let box = box_with x0 x1 y0 y1 z0 z1 in
    one_made (crop_of box) (cropped box) (λ image j v q. crop_told box image j v q)
    (fed_at 1 inputs) i valid
    (at_first (λ o. as_image (and_then (grid_in 1 o) (cropped box))) inputs i e)

rated_made : (rate : Rate) → IsRate rate → (o : Option Dataset) (i : Information)
    → IsValidAt o
    → as_image (and_then (grid_in 1 (option_map information_of o)) (thinned rate)) ≡ Ok i
    → Made (IsOfOne (sample_of rate) o)
rated_made rate some o i valid e =
    one_made (sample_of rate) (thinned rate)
    (λ image j v q. sample_told rate image j some v q) o i valid e

pub sample_made : (x y z : ℕ) (inputs : Inputs Dataset)
    → MakesWhereTold (settings.Sample x y z) inputs
sample_made x y z inputs i valid e =
    let rate = rate_with x y z in
    rated_made rate (rate_is x y z) (fed_at 1 inputs) i valid
    (at_first (λ o. as_image (and_then (grid_in 1 o) (thinned rate))) inputs i e)

pub threshold_made : (lo hi : ℤ) (inputs : Inputs Dataset)
    → MakesWhereTold (settings.Threshold lo hi) inputs
threshold_made lo hi inputs i valid e =
    same_made (threshold_of lo hi) (threshold_owns lo hi) (fed_at 1 inputs) i valid
    (at_first (λ o. as_image (grid_in 1 o)) inputs i e)

pub smooth_made : (radius : ℕ) (inputs : Inputs Dataset)
    → MakesWhereTold (settings.Smooth radius) inputs
smooth_made radius inputs i valid e =
    same_made (smooth_of (radius_with radius)) (smooth_owns (radius_with radius))
    (fed_at 1 inputs) i valid (at_first (λ o. as_image (grid_in 1 o)) inputs i e)

pub arith_made : (op : kinds.Op) (inputs : Inputs Dataset)
    → MakesWhereTold (settings.Arith op) inputs
arith_made op inputs i valid e =
    let say : Option Information → Option Information → Result Information Cause =
    λ o p. as_image (and_then (grid_in 1 o) (λ g. and_then (grid_in 2 p) (shared_grid g))) in
    both_made (op_with op) (fed_at 1 inputs) (fed_at 2 inputs) i valid
    (at_second (say (option_map information_of (fed_at 1 inputs))) inputs i
    (at_first (λ o. say o (fed_at 2 (all_information inputs))) inputs i e))

pub tets_made : (inputs : Inputs Dataset) → MakesWhereTold settings.Tets inputs
tets_made inputs i valid e =
    tetrahedra_made (fed_at 1 inputs) i
    (at_first (λ o. and_then (grid_in 1 o) (λ g. Ok OfMesh)) inputs i e)

pub select_made : (lo hi : ℤ) (all : Bool) (inputs : Inputs Dataset)
    → MakesWhereTold (settings.Select lo hi all) inputs
select_made lo hi all inputs i valid e =
    mesh_made (selections all lo hi) (fed_at 1 inputs) i (at_first (mesh_in 1) inputs i e)

pub append_made : (inputs : Inputs Dataset) → MakesWhereTold settings.Append inputs
append_made inputs i valid e = (Mesh (appended (meshes_in inputs)), refl, tt)

pub boundary_made : (inputs : Inputs Dataset) → MakesWhereTold settings.Boundary inputs
boundary_made inputs i valid e =
    mesh_made boundaries (fed_at 1 inputs) i (at_first (mesh_in 1) inputs i e)

pub merge_made : (inputs : Inputs Dataset) → MakesWhereTold settings.Merge inputs
merge_made inputs i valid e =
    mesh_made merge_of (fed_at 1 inputs) i (at_first (mesh_in 1) inputs i e)

pub writer_made : (binary : Bool) (digits version : ℕ) (inputs : Inputs Dataset)
    → MakesWhereTold (settings.Writer binary digits version) inputs
writer_made binary digits version inputs i valid e =
    let d = passed (fed_at 1 inputs) i valid (at_first (either_in 1) inputs i e) in
    (d.0, (d.0, d.1, refl), d.2)
