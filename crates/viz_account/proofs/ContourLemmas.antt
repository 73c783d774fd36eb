-- The sheets of a contour that stands on an image, and the sums of their counts.
use Rattle.std.proofs.Common.{◌≡◌, ℕ, ◌+◌, ℤ, true, List, [], ◌∷◌, map, take, min, Option, None, Some, Ok, refl, ap, ◌∙◌, arith}
use Rattle.std.specs.List.{All}
use Rattle.std.proofs.lemmas.List.Elements.{All-nil, All-cons}
use Rattle.viz_dataset.specs.Images.{ImageData, IsImage}
use Rattle.viz_dataset.specs.declared.dataset.Dataset.{Dataset}
use Rattle.viz_dataset.specs.declared.dataset.Dataset.TheVariants.{Image, Mesh}
use Rattle.viz_sheet.specs.Sheet.{SheetData}
use Rattle.viz_fraction.specs.Forms.{contour_form}
use Rattle.viz_meaning.specs.Section.{sections_of}
use Rattle.viz_meaning.specs.Tetrahedra.{sheets_of}
use Rattle.viz_kinds.specs.declared.settings.Settings.{Settings}
use Rattle.viz_kinds.specs.declared.settings.Settings.TheVariants as settings
use Rattle.viz_network.specs.Cone.{Cone, Tree, none, empty, fed}
use Rattle.viz_surface_law.specs.Audit.{count_sides, count_two, count_lone, count_border}
use Rattle.viz_surface_law.specs.Closed.{IsClosedUpToBoundary}
use Rattle.viz_surface_law.specs.Surfaces.{IsSurface, by_edges}
use Rattle.viz_surface_law.specs.Contours.{contour_of, triangles_of, ContoursAreSurfaces, ContoursAreClosed, ContourSidesAddUp, LoneSidesAreBorders}
use Rattle.viz_node_meaning.specs.Rules.{Inputs}
use Rattle.viz_node_meaning.specs.Data.{IsEvaluated}
use Rattle.viz_node_meaning.specs.Scratch.{IsScratchOf}
use Rattle.viz_node_meaning.specs.Laws.{ConesGiveOne}
use Rattle.viz_account.specs.Audited.{is_contour, IsFedFirst, StandsOn, summed}
use Rattle.viz_account.proofs.GivenLemmas.{scratch_fed}

-- the sheets of an image's contours at levels
abbrev pub contours_of : List ℤ → ImageData → List SheetData
contours_of levels image = sections_of (map contour_form levels) (sheets_of (Image image))

-- a contour makes sections of what its port is fed with
sections_made : (s : Settings) (file : Option (List ℕ)) (e : Dataset) (rest : Inputs Dataset) (d : Dataset) → is_contour s ≡ true
    → IsEvaluated s file (Some e ∷ rest) (Ok d) → (levels : List ℤ) × (d ≡ Mesh (sections_of (map contour_form levels) (sheets_of e)))
sections_made (settings.Contour count levels) file e rest d is p = (take (min count 8) levels, p.1)
sections_made (settings.File array unit) file e rest d is p = let bad : ⊥ = cc in absurd bad
sections_made (settings.Crop x0 x1 y0 y1 z0 z1) file e rest d is p = let bad : ⊥ = cc in absurd bad
sections_made (settings.Sample x y z) file e rest d is p = let bad : ⊥ = cc in absurd bad
sections_made (settings.Threshold lo hi) file e rest d is p = let bad : ⊥ = cc in absurd bad
sections_made (settings.Smooth radius) file e rest d is p = let bad : ⊥ = cc in absurd bad
sections_made (settings.Arith op) file e rest d is p = let bad : ⊥ = cc in absurd bad
sections_made settings.Tets file e rest d is p = let bad : ⊥ = cc in absurd bad
sections_made (settings.Select lo hi all) file e rest d is p = let bad : ⊥ = cc in absurd bad
sections_made (settings.Cut x y z r) file e rest d is p = let bad : ⊥ = cc in absurd bad
sections_made settings.Append file e rest d is p = let bad : ⊥ = cc in absurd bad
sections_made settings.Boundary file e rest d is p = let bad : ⊥ = cc in absurd bad
sections_made settings.Merge file e rest d is p = let bad : ⊥ = cc in absurd bad
sections_made (settings.Writer binary digits version) file e rest d is p = let bad : ⊥ = cc in absurd bad

module _ (cones : ConesGiveOne) where
  -- the sheets of a contour that stands on an image are the contours of the image
  stands_made : (t : Tree) (image : ImageData) (d : Dataset) → is_contour t.0.settings ≡ true → (ports : Cone) → t.1 ≡ ports → IsFedFirst ports (Image image)
      → IsScratchOf (Some (t.0, ports)) (Ok d) → (levels : List ℤ) × (d ≡ Mesh (contours_of levels image))
  stands_made t image d is none at stands given = absurd stands
  stands_made t image d is (empty others) at stands given = absurd stands
  stands_made t image d is (fed n own others) at stands given =
      let made = scratch_fed t.0 n own others d given in
      let same : made.0 ≡ Image image =
      (let one = cones (Some (n, own)) (Ok made.0) (Ok (Image image)) made.2 stands in let e : made.0 ≡ Image image = cc in e) in
      let sections = sections_made t.0.settings t.0.file made.0 made.1 d is made.3 in
      (sections.0, sections.1 ∙ ap (λ e. Mesh (sections_of (map contour_form sections.0) (sheets_of e))) same)

  pub contours_given : (o : Option Tree) (image : ImageData) (d : Dataset) → StandsOn o image → IsScratchOf o (Ok d)
      → (levels : List ℤ) × (d ≡ Mesh (contours_of levels image))
  contours_given None image d stands given = absurd stands
  contours_given (Some t) image d stands given = stands_made t image d stands.0 t.1 refl stands.1 given

  image_one : (ports : Cone) (i j : ImageData) → IsFedFirst ports (Image i) → IsFedFirst ports (Image j) → i ≡ j
  image_one none i j p q = absurd p
  image_one (empty others) i j p q = absurd p
  image_one (fed n own others) i j p q =
      let one = cones (Some (n, own)) (Ok (Image i)) (Ok (Image j)) p q in
      let e : i ≡ j = cc in e

  -- a contour stands on one image
  pub stands_one : (o : Option Tree) (i j : ImageData) → StandsOn o i → StandsOn o j → i ≡ j
  stands_one None i j p q = absurd p
  stands_one (Some t) i j p q = image_one t.1 i j p.1 q.1

-- ---- the contours at levels

pub are_surfaces : ContoursAreSurfaces → (levels : List ℤ) (image : ImageData) → IsImage image → All (IsSurface image.extent) (contours_of levels image)
are_surfaces law [] image valid = All-nil (IsSurface image.extent)
are_surfaces law (level ∷ levels) image valid =
    All-cons (IsSurface image.extent) (contour_of level image) (contours_of levels image) (law level image valid) (are_surfaces law levels image valid)

-- a sheet is closed up to the boundary
abbrev pub ClosedIn : ImageData → SheetData → Type 0
ClosedIn image s = IsClosedUpToBoundary image.extent (by_edges s.cells)

pub are_closed : ContoursAreClosed → (levels : List ℤ) (image : ImageData) → IsImage image → All (ClosedIn image) (contours_of levels image)
are_closed law [] image valid = All-nil (ClosedIn image)
are_closed law (level ∷ levels) image valid =
    All-cons (ClosedIn image) (contour_of level image) (contours_of levels image) (law level image valid) (are_closed law levels image valid)

pub lone_sum : LoneSidesAreBorders → (levels : List ℤ) (image : ImageData) → IsImage image
    → summed count_lone (contours_of levels image) ≡ summed (count_border image.extent) (contours_of levels image)
lone_sum law [] image valid = refl
lone_sum law (level ∷ levels) image valid =
    let one : count_lone (triangles_of level image) ≡ count_border image.extent (triangles_of level image) = law level image valid in
    let rest = lone_sum law levels image valid in
    λ t. one t + rest t

pub sides_sum : ContourSidesAddUp → (levels : List ℤ) (image : ImageData) → IsImage image
    → summed count_sides (contours_of levels image) ≡ summed count_two (contours_of levels image) + summed (count_border image.extent) (contours_of levels image)
sides_sum law [] image valid = refl
sides_sum law (level ∷ levels) image valid =
    let cells = triangles_of level image in
    let rest = contours_of levels image in
    let one : count_sides cells ≡ count_two cells + count_border image.extent cells = law level image valid in
    let others = sides_sum law levels image valid in
    let whole : count_sides cells + summed count_sides rest
    ≡ (count_two cells + summed count_two rest) + (count_border image.extent cells + summed (count_border image.extent) rest) = omega (arith, one, others) in
    whole
