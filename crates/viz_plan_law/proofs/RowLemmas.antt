-- What a row of the data rule makes of the datasets at the ports has the information that is told.
use Rattle.std.proofs.Common.{
  ◌≡◌,
  ℕ,
  suc,
  Bool,
  true,
  false,
  cond,
  List,
  [],
  ◌∷◌,
  Option,
  None,
  Some,
  Result,
  Ok,
  Err,
  refl,
  ap,
  subst,
  ◌∙◌,
}
use Rattle.std.specs.List.{list_any}
use Rattle.std.specs.Option.{option_map}
use Rattle.viz_dataset.specs.Images.{ImageData, IsSpacing, Vector}
use Rattle.viz_dataset.specs.declared.dataset.Dataset.{Dataset}
use Rattle.viz_dataset.specs.declared.dataset.Dataset.TheVariants.{Image, Mesh}
use Rattle.viz_extent.specs.Extent.{Bounds}
use Rattle.viz_extent.specs.Parts.{Rate, sampled}
use Rattle.viz_fraction.specs.declared.forms.Form.{Form}
use Rattle.viz_meaning.specs.ImageFilters.{crop_of, sample_of}
use Rattle.viz_meaning.specs.Section.{sections_of}
use Rattle.viz_meaning.specs.Tetrahedra.{sheets_of, tetrahedra_sheet}
use Rattle.viz_meaning.specs.WholeImages.{IsOn, WholeImage, whole_of}
use Rattle.viz_network.specs.declared.fault.Cause.{Cause}
use Rattle.viz_network.specs.declared.fault.Cause.TheVariants.{Unconnected, WrongInput}
use Rattle.viz_node_division.specs.Exact.{IsExactSectionOf}
use Rattle.viz_node_meaning.specs.Data.{
  AreTetrahedra,
  IsOfMesh,
  IsOfOne,
  IsOfTwo,
  IsSectionOf,
  IsWhole,
  all_information,
}
use Rattle.viz_node_meaning.specs.Information.{
  and_then,
  as_image,
  cropped,
  either_in,
  fed_at,
  grid_in,
  grid_of,
  information_of,
  is_fed,
  is_image,
  lengths_of,
  mesh_in,
  meshes_at,
  meshes_from,
  shared_grid,
  thinned,
}
use Rattle.viz_node_meaning.specs.Rules.{Inputs}
use Rattle.viz_node_meaning.specs.declared.information.Grid.{Grid}
use Rattle.viz_node_meaning.specs.declared.information.Information.{Information}
use Rattle.viz_node_meaning.specs.declared.information.Information.TheVariants.{OfImage, OfMesh}
use Rattle.viz_node_meaning.specs.declared.information.Lengths.{Lengths}
use Rattle.viz_sheet.specs.Sheet.{SheetData}
use Rattle.viz_plan_law.proofs.GridLemmas.{cropped_is, longer_is, shared_is, thinned_is}

-- ---- ports

-- what is told at the first port is the information of the dataset there
pub first_told : (inputs : Inputs Dataset)
    → fed_at 1 (all_information inputs) ≡ option_map information_of (fed_at 1 inputs)
first_told [] = refl
first_told (d ∷ inputs) = refl

-- and at the second
pub second_told : (inputs : Inputs Dataset)
    → fed_at 2 (all_information inputs) ≡ option_map information_of (fed_at 2 inputs)
second_told [] = refl
second_told (d ∷ []) = refl
second_told (d ∷ e ∷ inputs) = refl

-- ---- images

-- the grid of a whole image
abbrev grid_on : WholeImage → Grid
grid_on w = grid_of w.extent w.origin w.spacing

-- an image on all of it has that grid
grid_is : (w : WholeImage) (image : ImageData) → IsOn w w.extent image
    → grid_of image.extent image.origin image.spacing ≡ grid_on w
grid_is w image on =
    let grid : Bounds → Vector → Vector → Grid = grid_of in
    ap (λ (b : Bounds). grid b image.origin image.spacing) on.extent
    ∙ ap (λ (v : Vector). grid w.extent v image.spacing) on.origin
    ∙ ap (grid w.extent w.origin) on.spacing

whole_told : (w : WholeImage) (d : Dataset) (i : Information) → IsWhole w (Ok d)
    → OfImage (grid_on w) ≡ i → information_of d ≡ i
whole_told w d i m e =
    let given = m.2 in
    let same : Image m.0 ≡ d = cc in
    subst (λ (z : Dataset). information_of z ≡ i) same
    (ap (λ (g : Grid). OfImage g) (grid_is w m.0 m.1) ∙ e)

-- the grid that is told
pub grid_told : (r : Result Grid Cause) (i : Information) → as_image r ≡ Ok i
    → (g : Grid) × (r ≡ Ok g) × (OfImage g ≡ i)
grid_told (Ok g) i e = let same : OfImage g ≡ i = cc in (g, refl, same)
grid_told (Err cause) i e = let bad : ⊥ = cc in absurd bad

-- of the image at a port, where a filter makes the grid that is told
image_port : (filter : WholeImage → WholeImage) (grid : Option Information → Result Grid Cause)
    → ((image made : ImageData) (g : Grid)
    → IsOn (filter (whole_of image)) (filter (whole_of image)).extent made
    → grid (Some (information_of (Image image))) ≡ Ok g → grid_on (filter (whole_of image)) ≡ g)
    → (o : Option Dataset) (i : Information) (d : Dataset)
    → as_image (grid (option_map information_of o)) ≡ Ok i → IsOfOne filter o (Ok d)
    → information_of d ≡ i
image_port filter grid keeps None i d e m = absurd m
image_port filter grid keeps (Some (Mesh sheets)) i d e m = absurd m
image_port filter grid keeps (Some (Image image)) i d e m =
    let g = grid_told (grid (Some (information_of (Image image)))) i e in
    whole_told (filter (whole_of image)) d i m
    (ap (λ (h : Grid). OfImage h) (keeps image m.0 g.0 m.1 g.1) ∙ g.2)

-- a filter of one image, by the grid that it makes of a grid
abbrev grid_by : (Grid → Result Grid Cause) → Option Information → Result Grid Cause
grid_by grid o = and_then (grid_in 1 o) grid

pub crop_told : (box : Bounds) (o : Option Dataset) (i : Information) (d : Dataset)
    → as_image (and_then (grid_in 1 (option_map information_of o)) (cropped box)) ≡ Ok i
    → IsOfOne (crop_of box) o (Ok d) → information_of d ≡ i
crop_told box o i d e m =
    image_port (crop_of box) (grid_by (cropped box))
    (λ image made g on q. cropped_is box (grid_of image.extent image.origin image.spacing) g q)
    o i d e m

sample_keeps : (rate : Rate) (image made : ImageData) (g : Grid)
    → IsOn (sample_of rate (whole_of image)) (sampled rate image.extent) made
    → thinned rate (grid_of image.extent image.origin image.spacing) ≡ Ok g
    → grid_on (sample_of rate (whole_of image)) ≡ g
sample_keeps rate image made g on q =
    let steps : Lengths → Grid = λ v. record {
      extent = sampled rate image.extent;
      origin = lengths_of image.origin;
      spacing = v;
    } in
    ap steps (longer_is rate image.spacing (subst IsSpacing on.spacing on.valid.spacing))
    ∙ thinned_is rate (grid_of image.extent image.origin image.spacing) g q

pub sample_told : (rate : Rate) (o : Option Dataset) (i : Information) (d : Dataset)
    → as_image (and_then (grid_in 1 (option_map information_of o)) (thinned rate)) ≡ Ok i
    → IsOfOne (sample_of rate) o (Ok d) → information_of d ≡ i
sample_told rate o i d e m =
    image_port (sample_of rate) (grid_by (thinned rate)) (sample_keeps rate) o i d e m

-- a filter that keeps the points of an image
pub same_told : (filter : WholeImage → WholeImage)
    → ((w : WholeImage) → grid_on (filter w) ≡ grid_on w)
    → (o : Option Dataset) (i : Information) (d : Dataset)
    → as_image (grid_in 1 (option_map information_of o)) ≡ Ok i → IsOfOne filter o (Ok d)
    → information_of d ≡ i
same_told filter keeps o i d e m =
    image_port filter (grid_in 1)
    (λ image made g on q.
    let same : grid_on (whole_of image) ≡ g = cc in
    keeps (whole_of image) ∙ same)
    o i d e m

-- of the images at two ports
pub arith_told : (filter : WholeImage → WholeImage → WholeImage)
    → ((v w : WholeImage) → grid_on (filter v w) ≡ grid_on v)
    → (o p : Option Dataset) (i : Information) (d : Dataset)
    → as_image
    (and_then (grid_in 1 (option_map information_of o))
    (λ g. and_then (grid_in 2 (option_map information_of p)) (shared_grid g)))
    ≡ Ok i
    → IsOfTwo filter o p (Ok d) → information_of d ≡ i
arith_told filter keeps None p i d e m = absurd m
arith_told filter keeps (Some (Mesh sheets)) p i d e m = absurd m
arith_told filter keeps (Some (Image a)) None i d e m = absurd m
arith_told filter keeps (Some (Image a)) (Some (Mesh sheets)) i d e m = absurd m
arith_told filter keeps (Some (Image a)) (Some (Image b)) i d e m =
    let first = grid_of a.extent a.origin a.spacing in
    let second = grid_of b.extent b.origin b.spacing in
    let g = grid_told (shared_grid first second) i e in
    whole_told (filter (whole_of a) (whole_of b)) d i m
    (ap (λ (h : Grid). OfImage h)
    (keeps (whole_of a) (whole_of b) ∙ shared_is first second g.0 g.1) ∙ g.2)

-- ---- meshes

-- a mesh, where a mesh is told
pub mesh_told : (sheets : List SheetData) (d : Dataset) (i : Information) → d ≡ Mesh sheets
    → OfMesh ≡ i → information_of d ≡ i
mesh_told sheets d i e f = ap information_of e ∙ f

pub after_any : {X : Type 0} (r : Result X Cause) (i : Information)
    → and_then r (λ x. Ok OfMesh) ≡ Ok i → OfMesh ≡ i
after_any (Ok x) i e = let same : OfMesh ≡ i = cc in same
after_any (Err cause) i e = let bad : ⊥ = cc in absurd bad

pub after_mesh : (o : Option Information) (i : Information) → mesh_in 1 o ≡ Ok i → OfMesh ≡ i
after_mesh None i e = let bad : ⊥ = cc in absurd bad
after_mesh (Some (OfImage g)) i e = let bad : ⊥ = cc in absurd bad
after_mesh (Some OfMesh) i e = let same : OfMesh ≡ i = cc in same

after_some : (port : ℕ) (inputs : Inputs Information) (i : Information)
    → meshes_from port inputs ≡ Ok i → OfMesh ≡ i
after_some port [] i e = let same : OfMesh ≡ i = cc in same
after_some port (o ∷ inputs) i e = by (is_image o) (after_some (suc port) inputs i) e
  where
    by : (b : Bool) → (meshes_from (suc port) inputs ≡ Ok i → OfMesh ≡ i)
        → cond b (Err (WrongInput port)) (meshes_from (suc port) inputs) ≡ Ok i → OfMesh ≡ i
    by true after q = (let bad : ⊥ = cc in absurd bad)
    by false after q = after q

pub after_all : (inputs : Inputs Information) (i : Information) → meshes_at inputs ≡ Ok i
    → OfMesh ≡ i
after_all inputs i e = by (list_any is_fed inputs) e
  where
    by : (b : Bool) → cond b (meshes_from 1 inputs) (Err (Unconnected 1)) ≡ Ok i → OfMesh ≡ i
    by true q = after_some 1 inputs i q
    by false q = (let bad : ⊥ = cc in absurd bad)

pub made_of_mesh : (make : List SheetData → List SheetData) (o : Option Dataset)
    (i : Information) (d : Dataset)
    → OfMesh ≡ i → IsOfMesh make o (Ok d) → information_of d ≡ i
made_of_mesh make None i d f m = absurd m
made_of_mesh make (Some (Image image)) i d f m = absurd m
made_of_mesh make (Some (Mesh sheets)) i d f m =
    let same : d ≡ Mesh (make sheets) = cc in
    mesh_told (make sheets) d i same f

pub tetrahedra_made : (o : Option Dataset) (i : Information) (d : Dataset) → OfMesh ≡ i
    → AreTetrahedra o (Ok d) → information_of d ≡ i
tetrahedra_made None i d f m = absurd m
tetrahedra_made (Some (Mesh sheets)) i d f m = absurd m
tetrahedra_made (Some (Image image)) i d f m =
    let same : d ≡ Mesh (tetrahedra_sheet image ∷ []) = cc in
    mesh_told (tetrahedra_sheet image ∷ []) d i same f

pub of_section : (forms : List Form) (o : Option Dataset) (d : Dataset)
    → IsSectionOf forms o (Ok d) → IsExactSectionOf forms o (Ok d)
of_section forms None d m = absurd m
of_section forms (Some w) d m = m.1

pub section_made : (forms : List Form) (o : Option Dataset) (i : Information) (d : Dataset)
    → OfMesh ≡ i → IsExactSectionOf forms o (Ok d) → information_of d ≡ i
section_made forms None i d f m = absurd m
section_made forms (Some w) i d f m = mesh_told (sections_of forms (sheets_of w)) d i m f

-- ---- a writer

-- a dataset is given
abbrev pub IsOk : Result Dataset Cause → Dataset → Type 0
IsOk r d = r ≡ Ok d

pub passed_told : (o : Option Dataset) (w : Dataset) (i : Information) (d : Dataset)
    → either_in 1 (option_map information_of o) ≡ Ok i → o ≡ Some w → IsOk (Ok d) w
    → information_of d ≡ i
passed_told None w i d e q m = let bad : ⊥ = cc in absurd bad
passed_told (Some v) w i d e q m =
    let same : v ≡ d = cc in
    let told : information_of v ≡ i = cc in
    subst (λ (z : Dataset). information_of z ≡ i) same told
