-- What is told of a node by what is told of its inputs: the extent, and that it has planes.
use Rattle.std.proofs.Common.{
  ◌≡◌,
  ℕ,
  ◌≤◌,
  Bool,
  true,
  false,
  cond,
  List,
  [],
  ◌∷◌,
  Option,
  None,
  Some,
  Result,
  Ok,
  Err,
  refl,
  sym,
  ap,
  subst,
  ◌∙◌,
  ◌&&◌,
  nat_le,
  arith,
}
use Rattle.std.proofs.lemmas.Bool.Decides.{nat_tests}
use Rattle.viz_extent.specs.Extent.{Bounds}
use Rattle.viz_extent.specs.Parts.{Rate, common, sampled}
use Rattle.viz_kinds.specs.declared.settings.Settings.{Settings}
use Rattle.viz_kinds.specs.declared.settings.Settings.TheVariants as settings
use Rattle.viz_network.specs.declared.fault.Cause.{Cause}
use Rattle.viz_network.specs.declared.fault.Cause.TheVariants.{EmptyExtent, GridsDiffer}
use Rattle.viz_node_meaning.specs.Information.{
  IsHeaderOf,
  IsInformed,
  and_then,
  as_image,
  box_with,
  cropped,
  either_in,
  fed_at,
  filter_information,
  grid_in,
  has_points,
  longer,
  mesh_in,
  rate_with,
  same_extent,
  same_grid,
  same_lengths,
  shared_grid,
  thinned,
  with_points,
  with_steps,
}
use Rattle.viz_node_meaning.specs.Rules.{Inputs}
use Rattle.viz_node_meaning.specs.declared.information.Grid.{Grid}
use Rattle.viz_node_meaning.specs.declared.information.Information.{Information}
use Rattle.viz_node_meaning.specs.declared.information.Information.TheVariants.{OfImage, OfMesh}
use Rattle.viz_requests.specs.Upstream.{extent_made}
use Rattle.viz_plan_law.proofs.GridLemmas.{cropped_is, shared_is, short_is, thinned_is}
use Rattle.viz_plan_law.proofs.HeaderLemmas.{header_flat}
use Rattle.viz_plan_law.proofs.RowLemmas.{after_all, after_any, after_mesh, grid_told}
use Rattle.viz_plan_law.proofs.ServeLemmas.{and_left, and_right}

-- the extent of an image, none of a mesh
abbrev pub extent_in : Information → Option Bounds
extent_in (OfImage g) = Some g.extent
extent_in OfMesh = None

-- an image has a plane
abbrev pub IsDeep : Option Bounds → Type 0
IsDeep (Some b) = b.z0 ≤ b.z1
IsDeep None = Unit {0}

-- so has each at ports
abbrev pub AreDeep : Inputs Information → Type 0
AreDeep [] = Unit {0}
AreDeep (None ∷ inputs) = AreDeep inputs
AreDeep (Some i ∷ inputs) = IsDeep (extent_in i) × AreDeep inputs

-- ---- ports

pub grid_at_port : (port : ℕ) (o : Option Information) (g : Grid) → grid_in port o ≡ Ok g
    → o ≡ Some (OfImage g)
grid_at_port port None g e = let bad : ⊥ = cc in absurd bad
grid_at_port port (Some (OfImage h)) g e =
    let same : h ≡ g = cc in ap (λ (x : Grid). Some (OfImage x)) same
grid_at_port port (Some OfMesh) g e = let bad : ⊥ = cc in absurd bad

either_at_port : (port : ℕ) (o : Option Information) (i : Information) → either_in port o ≡ Ok i
    → o ≡ Some i
either_at_port port None i e = let bad : ⊥ = cc in absurd bad
either_at_port port (Some j) i e = let same : j ≡ i = cc in ap (λ (x : Information). Some x) same

mesh_at_port : (port : ℕ) (o : Option Information) (i : Information) → mesh_in port o ≡ Ok i
    → o ≡ Some OfMesh
mesh_at_port port None i e = let bad : ⊥ = cc in absurd bad
mesh_at_port port (Some (OfImage g)) i e = let bad : ⊥ = cc in absurd bad
mesh_at_port port (Some OfMesh) i e = refl

-- what comes of two steps comes of the second
pub then_told : {X Y : Type 0} (r : Result X Cause) (f : X → Result Y Cause) (y : Y)
    → and_then r f ≡ Ok y → (x : X) × (r ≡ Ok x) × (f x ≡ Ok y)
then_told (Ok x) f y e = (x, refl, e)
then_told (Err cause) f y e = let bad : ⊥ = cc in absurd bad

-- ---- grids

-- a grid with points has a plane
points_deep : (g h : Grid) → with_points g ≡ Ok h → h.extent.z0 ≤ h.extent.z1
points_deep g h e = by (has_points g.extent) refl e
  where
    by : (b : Bool) → has_points g.extent ≡ b → cond b (Ok g) (Err EmptyExtent) ≡ Ok h
        → h.extent.z0 ≤ h.extent.z1
    by true t q = (
        let same : g ≡ h = cc in
        let last = and_right (nat_le g.extent.x0 g.extent.x1 && nat_le g.extent.y0 g.extent.y1)
        (nat_le g.extent.z0 g.extent.z1) t in
        subst (λ (x : Grid). x.extent.z0 ≤ x.extent.z1) same (grind (arith, nat_tests, last))
        )
    by false t q = (let bad : ⊥ = cc in absurd bad)

thinned_deep : (rate : Rate) (h g : Grid) → thinned rate h ≡ Ok g → g.extent.z0 ≤ g.extent.z1
thinned_deep rate h g e =
    let left : Grid = record {
      extent = sampled rate h.extent;
      origin = h.origin;
      spacing = longer rate h.spacing;
    } in
    let two = then_told (with_points left) with_steps g e in
    subst (λ (x : Grid). x.extent.z0 ≤ x.extent.z1) (short_is two.0 g two.2)
    (points_deep left two.0 two.1)

cropped_deep : (box : Bounds) (h g : Grid) → cropped box h ≡ Ok g → g.extent.z0 ≤ g.extent.z1
cropped_deep box h g e =
    points_deep
    (record { extent = common h.extent box; origin = h.origin; spacing = h.spacing }) g e

same_bounds : (a b : Bounds) → same_extent a b ≡ true → a ≡ b
same_bounds a b t = grind (arith, nat_tests, t)

pub shared_extent : (g h k : Grid) → shared_grid g h ≡ Ok k → g.extent ≡ h.extent
shared_extent g h k e = by (same_grid g h) refl e
  where
    by : (b : Bool) → same_grid g h ≡ b → cond b (Ok g) (Err GridsDiffer) ≡ Ok k
        → g.extent ≡ h.extent
    by true t q = same_bounds g.extent h.extent
        (and_left (same_extent g.extent h.extent) (same_lengths g.origin h.origin)
        (and_left (same_extent g.extent h.extent && same_lengths g.origin h.origin)
        (same_lengths g.spacing h.spacing) t))
    by false t q = (let bad : ⊥ = cc in absurd bad)

-- ---- nodes whose first port is fed

-- what is told of a node by what is told at its first port
pub record IsToldBy (s : Settings) (inputs : Inputs Information) (i : Information) : Type 0 where
  pub first : Information
  pub fed : fed_at 1 inputs ≡ Some first
  pub made : extent_in i ≡ extent_made s (extent_in first)
  pub deep : IsDeep (extent_in first) → IsDeep (extent_in i)

-- of an image by an image
image_by : (s : Settings) (inputs : Inputs Information) (i : Information) (h g : Grid)
    → fed_at 1 inputs ≡ Some (OfImage h) → OfImage g ≡ i
    → Some g.extent ≡ extent_made s (Some h.extent)
    → (h.extent.z0 ≤ h.extent.z1 → g.extent.z0 ≤ g.extent.z1) → IsToldBy s inputs i
image_by s inputs i h g f e m d =
    subst (IsToldBy s inputs) e (record { first = OfImage h; fed = f; made = m; deep = d })

mesh_by : (s : Settings) (inputs : Inputs Information) (i first : Information)
    → fed_at 1 inputs ≡ Some first → OfMesh ≡ i → None ≡ extent_made s (extent_in first)
    → IsToldBy s inputs i
mesh_by s inputs i first f e m =
    subst (IsToldBy s inputs) e (record { first = first; fed = f; made = m; deep = λ d. tt })

-- a filter that keeps the points of an image
pub kept_by : (s : Settings) (inputs : Inputs Information) (i : Information)
    → ((b : Bounds) → extent_made s (Some b) ≡ Some b)
    → as_image (grid_in 1 (fed_at 1 inputs)) ≡ Ok i → IsToldBy s inputs i
kept_by s inputs i keeps e =
    let g = grid_told (grid_in 1 (fed_at 1 inputs)) i e in
    image_by s inputs i g.0 g.0 (grid_at_port 1 (fed_at 1 inputs) g.0 g.1) g.2
    (sym (keeps g.0.extent)) (λ d. d)

pub crop_by : (x0 x1 y0 y1 z0 z1 : ℕ) (inputs : Inputs Information) (i : Information)
    → filter_information (settings.Crop x0 x1 y0 y1 z0 z1) inputs ≡ Ok i
    → IsToldBy (settings.Crop x0 x1 y0 y1 z0 z1) inputs i
crop_by x0 x1 y0 y1 z0 z1 inputs i e =
    let box = box_with x0 x1 y0 y1 z0 z1 in
    let g = grid_told (and_then (grid_in 1 (fed_at 1 inputs)) (cropped box)) i e in
    let h = then_told (grid_in 1 (fed_at 1 inputs)) (cropped box) g.0 g.1 in
    image_by (settings.Crop x0 x1 y0 y1 z0 z1) inputs i h.0 g.0
    (grid_at_port 1 (fed_at 1 inputs) h.0 h.1) g.2
    (sym (ap (λ (x : Grid). Some x.extent) (cropped_is box h.0 g.0 h.2)))
    (λ d. cropped_deep box h.0 g.0 h.2)

pub sample_by : (x y z : ℕ) (inputs : Inputs Information) (i : Information)
    → filter_information (settings.Sample x y z) inputs ≡ Ok i
    → IsToldBy (settings.Sample x y z) inputs i
sample_by x y z inputs i e =
    let rate = rate_with x y z in
    let g = grid_told (and_then (grid_in 1 (fed_at 1 inputs)) (thinned rate)) i e in
    let h = then_told (grid_in 1 (fed_at 1 inputs)) (thinned rate) g.0 g.1 in
    image_by (settings.Sample x y z) inputs i h.0 g.0
    (grid_at_port 1 (fed_at 1 inputs) h.0 h.1) g.2
    (sym (ap (λ (x : Grid). Some x.extent) (thinned_is rate h.0 g.0 h.2)))
    (λ d. thinned_deep rate h.0 g.0 h.2)

-- with what is told at the second port
pub record AreToldBoth (inputs : Inputs Information) (i : Information) : Type 0 where
  pub own : Grid
  pub other : Grid
  pub first : fed_at 1 inputs ≡ Some (OfImage own)
  pub second : fed_at 2 inputs ≡ Some (OfImage other)
  pub same : own.extent ≡ other.extent
  pub made : OfImage own ≡ i

pub arith_by : (inputs : Inputs Information) (i : Information)
    → as_image (and_then (grid_in 1 (fed_at 1 inputs))
    (λ g. and_then (grid_in 2 (fed_at 2 inputs)) (shared_grid g))) ≡ Ok i
    → AreToldBoth inputs i
arith_by inputs i e =
    let next : Grid → Result Grid Cause =
    λ g. and_then (grid_in 2 (fed_at 2 inputs)) (shared_grid g) in
    let g = grid_told (and_then (grid_in 1 (fed_at 1 inputs)) next) i e in
    let h = then_told (grid_in 1 (fed_at 1 inputs)) next g.0 g.1 in
    let j = then_told (grid_in 2 (fed_at 2 inputs)) (shared_grid h.0) g.0 h.2 in
    record {
      own = h.0;
      other = j.0;
      first = grid_at_port 1 (fed_at 1 inputs) h.0 h.1;
      second = grid_at_port 2 (fed_at 2 inputs) j.0 j.1;
      same = shared_extent h.0 j.0 g.0 j.2;
      made = ap (λ (x : Grid). OfImage x) (shared_is h.0 j.0 g.0 j.2) ∙ g.2;
    }

pub tets_by : (inputs : Inputs Information) (i : Information)
    → filter_information settings.Tets inputs ≡ Ok i → IsToldBy settings.Tets inputs i
tets_by inputs i e =
    let g = then_told (grid_in 1 (fed_at 1 inputs)) (λ h. Ok OfMesh) i e in
    mesh_by settings.Tets inputs i (OfImage g.0) (grid_at_port 1 (fed_at 1 inputs) g.0 g.1)
    (after_any (grid_in 1 (fed_at 1 inputs)) i e) refl

-- a section of an image or a mesh
pub section_by : (s : Settings) (inputs : Inputs Information) (i : Information)
    → ((o : Option Bounds) → None ≡ extent_made s o)
    → and_then (either_in 1 (fed_at 1 inputs)) (λ j. Ok OfMesh) ≡ Ok i → IsToldBy s inputs i
section_by s inputs i none e =
    let j = then_told (either_in 1 (fed_at 1 inputs)) (λ h. Ok OfMesh) i e in
    mesh_by s inputs i j.0 (either_at_port 1 (fed_at 1 inputs) j.0 j.1)
    (after_any (either_in 1 (fed_at 1 inputs)) i e) (none (extent_in j.0))

-- a filter of one mesh
pub filter_by : (s : Settings) (inputs : Inputs Information) (i : Information)
    → None ≡ extent_made s None → mesh_in 1 (fed_at 1 inputs) ≡ Ok i → IsToldBy s inputs i
filter_by s inputs i none e =
    mesh_by s inputs i OfMesh (mesh_at_port 1 (fed_at 1 inputs) i e)
    (after_mesh (fed_at 1 inputs) i e) none

pub writer_by : (s : Settings) (inputs : Inputs Information) (i : Information)
    → ((o : Option Bounds) → o ≡ extent_made s o) → either_in 1 (fed_at 1 inputs) ≡ Ok i
    → IsToldBy s inputs i
writer_by s inputs i keeps e = record {
  first = i;
  fed = either_at_port 1 (fed_at 1 inputs) i e;
  made = keeps (extent_in i);
  deep = λ d. d;
}

-- ---- images have planes

first_deep : (inputs : Inputs Information) (i : Information) → fed_at 1 inputs ≡ Some i
    → AreDeep inputs → IsDeep (extent_in i)
first_deep [] i e d = let bad : ⊥ = cc in absurd bad
first_deep (None ∷ inputs) i e d = let bad : ⊥ = cc in absurd bad
first_deep (Some j ∷ inputs) i e d =
    let same : j ≡ i = cc in
    subst (λ (x : Information). IsDeep (extent_in x)) same d.0

by_first : (s : Settings) (inputs : Inputs Information) (i : Information) → IsToldBy s inputs i
    → AreDeep inputs → IsDeep (extent_in i)
by_first s inputs i t d = t.deep (first_deep inputs t.first t.fed d)

of_mesh : (i : Information) → OfMesh ≡ i → IsDeep (extent_in i)
of_mesh i e = subst (λ (x : Information). IsDeep (extent_in x)) e tt

file_deep : (file : Option (List ℕ)) (i : Information) → IsHeaderOf file (Ok i)
    → IsDeep (extent_in i)
file_deep None i h = let bad : ⊥ = cc in absurd bad
file_deep (Some bytes) (OfImage g) h =
    let flat : g.extent.z0 ≡ 0 =
    ap (λ (x : Grid). x.extent.z0) h.2 ∙ header_flat bytes h.0 h.1 in
    omega (arith, flat)
file_deep (Some bytes) OfMesh h = tt

-- an image that is told of a node has a plane, where those at its ports have
pub informed_deep : (s : Settings) (file : Option (List ℕ)) (inputs : Inputs Information)
    (i : Information) → IsInformed s file inputs (Ok i) → AreDeep inputs → IsDeep (extent_in i)
informed_deep (settings.File array unit) file inputs i m d = file_deep file i m
informed_deep (settings.Crop x0 x1 y0 y1 z0 z1) file inputs i m d =
    by_first (settings.Crop x0 x1 y0 y1 z0 z1) inputs i
    (crop_by x0 x1 y0 y1 z0 z1 inputs i (sym m)) d
informed_deep (settings.Sample x y z) file inputs i m d =
    by_first (settings.Sample x y z) inputs i (sample_by x y z inputs i (sym m)) d
informed_deep (settings.Threshold lo hi) file inputs i m d =
    by_first (settings.Threshold lo hi) inputs i
    (kept_by (settings.Threshold lo hi) inputs i (λ b. refl) (sym m)) d
informed_deep (settings.Smooth radius) file inputs i m d =
    by_first (settings.Smooth radius) inputs i
    (kept_by (settings.Smooth radius) inputs i (λ b. refl) (sym m)) d
informed_deep (settings.Arith op) file inputs i m d =
    let both = arith_by inputs i (sym m) in
    subst (λ (x : Information). IsDeep (extent_in x)) both.made
    (first_deep inputs (OfImage both.own) both.first d)
informed_deep settings.Tets file inputs i m d =
    of_mesh i (after_any (grid_in 1 (fed_at 1 inputs)) i (sym m))
informed_deep (settings.Select lo hi all) file inputs i m d =
    of_mesh i (after_mesh (fed_at 1 inputs) i (sym m))
informed_deep (settings.Contour count levels) file inputs i m d =
    of_mesh i (after_any (either_in 1 (fed_at 1 inputs)) i (sym m))
informed_deep (settings.Cut a b c r) file inputs i m d =
    of_mesh i (after_any (either_in 1 (fed_at 1 inputs)) i (sym m))
informed_deep settings.Append file inputs i m d = of_mesh i (after_all inputs i (sym m))
informed_deep settings.Boundary file inputs i m d =
    of_mesh i (after_mesh (fed_at 1 inputs) i (sym m))
informed_deep settings.Merge file inputs i m d =
    of_mesh i (after_mesh (fed_at 1 inputs) i (sym m))
informed_deep (settings.Writer binary digits version) file inputs i m d =
    first_deep inputs i (either_at_port 1 (fed_at 1 inputs) i (sym m)) d
