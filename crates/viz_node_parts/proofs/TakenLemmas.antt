-- True parts of what a node asks for are those that it takes.
use Rattle.std.proofs.Common.{
  ◌≡◌,
  ℕ,
  ◌<◌,
  List,
  [],
  ◌∷◌,
  get_or,
  length,
  Option,
  None,
  Some,
  Ok,
  refl,
  sym,
  ap,
  subst,
  ◌∙◌,
}
use Rattle.std.specs.List.{All}
use Rattle.std.proofs.lemmas.List.Elements.{All-cons, All-nil}
use Rattle.viz_dataset.specs.Images.{ImageData, IsSpacing}
use Rattle.viz_dataset.specs.declared.dataset.Dataset.{Dataset}
use Rattle.viz_dataset.specs.declared.dataset.Dataset.TheVariants as dataset
use Rattle.viz_extent.specs.Extent.{Bounds}
use Rattle.viz_extent.specs.Parts.{IsPart, Rate, grown, spread}
use Rattle.viz_fraction.specs.declared.forms.Form.{Form}
use Rattle.viz_kinds.specs.declared.settings.Settings.TheVariants as settings
use Rattle.viz_meaning.specs.ImageFilters.{
  arith_of,
  crop_of,
  sample_of,
  smooth_of,
  threshold_of,
  wider_steps,
}
use Rattle.viz_meaning.specs.Tetrahedra.{tetrahedra_sheet}
use Rattle.viz_meaning.specs.WholeImages.{IsOn, WholeImage, whole_of}
use Rattle.viz_mesh_meaning.specs.Append.{appended}
use Rattle.viz_mesh_meaning.specs.Facets.{boundaries}
use Rattle.viz_mesh_meaning.specs.Select.{selections}
use Rattle.viz_node_answers.specs.Answers.{IsPartFor}
use Rattle.viz_node_division.specs.Divided.{Divided, wholes}
use Rattle.viz_node_division.specs.Exact.{IsExactSectionOf}
use Rattle.viz_node_division.proofs.RowLemmas.{
  IsOk,
  first_whole,
  row_made,
  sections_made,
  whole_at,
}
use Rattle.viz_node_meaning.specs.Data.{
  AreTetrahedra,
  IsOfMesh,
  IsOfOne,
  IsOfTwo,
  contour_forms,
  cut_forms,
  merge_of,
  meshes_in,
  op_with,
  radius_with,
}
use Rattle.viz_node_meaning.specs.Information.{box_with, fed_at, rate_with}
use Rattle.viz_node_meaning.specs.Rules.{Inputs}
use Rattle.viz_node_rules.proofs.FilterLemmas.{own_part}
use Rattle.viz_parts.specs.Parts.{PartSheetData}
use Rattle.viz_parts.specs.Pieces.{Division, IsAnswer, IsBlockOf, IsPieceOf}
use Rattle.viz_parts.specs.declared.request.Part.{Part}
use Rattle.viz_parts.specs.declared.request.Part.TheVariants.{Image, Mesh}
use Rattle.viz_parts.specs.declared.request.Request.{Request}
use Rattle.viz_parts.specs.declared.request.Request.TheVariants.{Block, Piece}
use Rattle.viz_piece_divisions.specs.Answers.{IsOfMesh as IsMeshPart}
use Rattle.viz_piece_divisions.specs.Divisions.{Owns}
use Rattle.viz_piece_divisions.specs.Pieces.{PartsFit}
use Rattle.viz_piece_tets.specs.Asked as slabs
use Rattle.viz_requests.specs.Upstream.{
  Fits,
  all_of,
  grown_request,
  layers_request,
  mean_radius,
  more_ghosts,
  sample_rate,
  spread_request,
}
use Rattle.viz_sheet.specs.Sheet.{SheetData, IsFit}
use Rattle.viz_node_parts.specs.Answering.{
  AreAnswered,
  HasFitSheets,
  IsFitAt,
  PartsAskedAreTaken,
  dataset_extent,
  extent_at_ports,
}
use Rattle.viz_node_parts.specs.Taken.{
  HasMultiples,
  HasPointsAround,
  HoldsBlock,
  TakesEither,
  TakesFitMesh,
  TakesImage,
  TakesMesh,
  TakesPiece,
  TakesSlab,
  parts_fed,
}
use Rattle.viz_node_parts.proofs.AnsweringLemmas.{
  AtFirst,
  AtSecond,
  behind_first,
  joined_mesh,
  no_block,
  slab_given,
}

-- ---- ports

-- the first port is fed where something is made of what feeds it
fed_first : (Made : Option Dataset → Type 0) → (Made None → ⊥)
    → (inputs : Inputs Divided) (request : Request) (parts : Inputs Part)
    → AreAnswered inputs request parts → Made (fed_at 1 (wholes inputs))
    → AtFirst inputs request parts
fed_first Made unmade [] request [] h made = absurd (unmade made)
fed_first Made unmade [] request (x ∷ parts) h made = absurd h
fed_first Made unmade (None ∷ inputs) request [] h made = absurd h
fed_first Made unmade (None ∷ inputs) request (None ∷ parts) h made = absurd (unmade made)
fed_first Made unmade (None ∷ inputs) request (Some part ∷ parts) h made = absurd h
fed_first Made unmade (Some d ∷ inputs) request [] h made = absurd h
fed_first Made unmade (Some d ∷ inputs) request (None ∷ parts) h made = absurd h
fed_first Made unmade (Some d ∷ inputs) request (Some part ∷ parts) h made = record {
  first = d;
  input = part;
  fed = refl;
  extent = refl;
  given = refl;
  answers = h.0;
}

fed_second : (Made : Option Dataset → Type 0) → (Made None → ⊥)
    → (inputs : Inputs Divided) (request : Request) (parts : Inputs Part)
    → AreAnswered inputs request parts → Made (fed_at 2 (wholes inputs))
    → AtSecond inputs request parts
fed_second Made unmade [] request [] h made = absurd (unmade made)
fed_second Made unmade [] request (x ∷ parts) h made = absurd h
fed_second Made unmade (None ∷ inputs) request [] h made = absurd h
fed_second Made unmade (None ∷ inputs) request (None ∷ parts) h made =
    behind_first None None inputs request parts (fed_first Made unmade inputs request parts h made)
fed_second Made unmade (None ∷ inputs) request (Some part ∷ parts) h made = absurd h
fed_second Made unmade (Some d ∷ inputs) request [] h made = absurd h
fed_second Made unmade (Some d ∷ inputs) request (None ∷ parts) h made = absurd h
fed_second Made unmade (Some d ∷ inputs) request (Some part ∷ parts) h made =
    behind_first (Some d) (Some part) inputs request parts
    (fed_first Made unmade inputs request parts h.1 made)

-- the dataset at a port that is fed
whole_of_fed : (inputs : Inputs Divided) (first : Divided) → fed_at 1 inputs ≡ Some first
    → fed_at 1 (wholes inputs) ≡ Some first.whole
whole_of_fed inputs first fed = first_whole inputs ∙ ap whole_at fed

second_whole : (inputs : Inputs Divided) → fed_at 2 (wholes inputs) ≡ whole_at (fed_at 2 inputs)
second_whole [] = refl
second_whole (x ∷ []) = refl
second_whole (x ∷ y ∷ inputs) = refl

-- ---- blocks of images

taken_block : (Has : Bounds → ImageData → Type 0) (out block : Bounds) (image : ImageData)
    (division : Division) (input : Part)
    → ((i : ImageData) → IsBlockOf image block i → Has out i)
    → IsAnswer (dataset.Image image) division (Block block) input
    → TakesImage Has (Block out) (Some input)
taken_block Has out block image division (Image i) has h = has i h
taken_block Has out block image division (Mesh parts) has h = absurd h

-- a block of an image is on its points
on_block : (image : ImageData) (block : Bounds) (i : ImageData) → IsBlockOf image block i
    → IsPart i.extent block
on_block image block i h = subst (λ e. IsPart e block) (sym h.same.extent) (own_part block)

module _ (filter : WholeImage → WholeImage) (ask : Option Bounds → Request → Request)
    (blocks : Bounds → Bounds → Bounds)
    (asks : (e out : Bounds) → ask (Some e) (Block out) ≡ Block (blocks e out))
    (Has : Option Bounds → Bounds → ImageData → Type 0)
    (has : (image whole i : ImageData) (out : Bounds)
    → IsOn (filter (whole_of image)) (filter (whole_of image)).extent whole
    → IsPart whole.extent out → IsBlockOf image (blocks image.extent out) i
    → Has (Some image.extent) out i) where
  of_one : (w : Dataset) (first : Divided) → first.whole ≡ w → (m : Dataset)
      → IsOfOne filter (Some w) (Ok m) → (request : Request) (input : Part)
      → Fits (dataset_extent m) request
      → IsPartFor first (ask (dataset_extent w) request) input
      → TakesImage (Has (dataset_extent w)) request (Some input)
  of_one (dataset.Mesh sheets) first is m row request input fits given = absurd row
  of_one (dataset.Image image) first is m row (Block out) input fits given =
      let e : IsOk (Ok m) (dataset.Image row.0) = row.2 in
      let same : m ≡ dataset.Image row.0 = cc in
      let inside : IsPart row.0.extent out =
      subst (λ x. Fits (dataset_extent x) (Block out)) same fits in
      taken_block (Has (Some image.extent)) out (blocks image.extent out) image first.division input
      (λ i b. has image row.0 i out row.1 inside b)
      (subst (λ w. IsAnswer w first.division (Block (blocks image.extent out)) input) is
      (subst (λ r. IsPartFor first r input) (asks image.extent out) given))
  of_one (dataset.Image image) first is m row (Piece p n ghosts) input fits given =
      let e : IsOk (Ok m) (dataset.Image row.0) = row.2 in
      let same : m ≡ dataset.Image row.0 = cc in
      absurd (subst (λ x. Fits (dataset_extent x) (Piece p n ghosts)) same fits)

  image_taken : (inputs : Inputs Divided) (m : Dataset)
      → IsOfOne filter (fed_at 1 (wholes inputs)) (Ok m)
      → (request : Request) (parts : Inputs Part) → Fits (dataset_extent m) request
      → AreAnswered inputs (ask (extent_at_ports inputs) request) parts
      → TakesImage (Has (extent_at_ports inputs)) request (fed_at 1 parts)
  image_taken inputs m row request parts fits given =
      let e = extent_at_ports inputs in
      let at = fed_first (λ o. IsOfOne filter o (Ok m)) (λ h. h) inputs (ask e request) parts given
      row in
      let taken = of_one at.first.whole at.first refl m
      (subst (λ o. IsOfOne filter o (Ok m)) (whole_of_fed inputs at.first at.fed) row) request
      at.input fits
      (subst (λ x. IsPartFor at.first (ask x request) at.input) at.extent at.answers) in
      subst (λ o. TakesImage (Has e) request o) (sym at.given)
      (subst (λ x. TakesImage (Has x) request (Some at.input)) (sym at.extent) taken)

held_block : (image whole i : ImageData) (out : Bounds) → IsBlockOf image out i → HoldsBlock out i
held_block image whole i out b = on_block image out i b

held_multiples : (rate : Rate) (image whole i : ImageData) (out : Bounds)
    → IsOn (sample_of rate (whole_of image)) (sample_of rate (whole_of image)).extent whole
    → IsBlockOf image (spread rate out) i → HasMultiples rate out i
held_multiples rate image whole i out on b = (
  on_block image (spread rate out) i b,
  subst (λ v. IsSpacing (wider_steps rate v)) (sym b.same.spacing)
      (subst IsSpacing on.spacing on.valid.spacing),
)

held_around : (radius : ℕ) (image whole i : ImageData) (out : Bounds)
    → IsOn (smooth_of radius (whole_of image)) (smooth_of radius (whole_of image)).extent whole
    → IsPart whole.extent out → IsBlockOf image (grown radius image.extent out) i
    → HasPointsAround radius (Some image.extent) out i
held_around radius image whole i out on inside b =
    (subst (λ e. IsPart e out) on.extent inside, on_block image (grown radius image.extent out) i b)

-- ---- arithmetic of two images

both_taken : (filter : WholeImage → WholeImage → WholeImage) (w v : Dataset)
    (first second : Divided) → first.whole ≡ w → second.whole ≡ v → (m : Dataset)
    → IsOfTwo filter (Some w) (Some v) (Ok m) → (request : Request) (input other : Part)
    → Fits (dataset_extent m) request → IsPartFor first request input
    → IsPartFor second request other
    → TakesImage HoldsBlock request (Some input) × TakesImage HoldsBlock request (Some other)
both_taken filter (dataset.Image a) (dataset.Image b) first second is also m row (Block out) input
    other fits given beside = (
      taken_block HoldsBlock out out a first.division input (λ i h. on_block a out i h)
          (subst (λ w. IsAnswer w first.division (Block out) input) is given),
      taken_block HoldsBlock out out b second.division other (λ i h. on_block b out i h)
          (subst (λ w. IsAnswer w second.division (Block out) other) also beside),
    )
both_taken filter (dataset.Image a) (dataset.Image b) first second is also m row
    (Piece p n ghosts) input other fits given beside =
    let e : IsOk (Ok m) (dataset.Image row.0) = row.2 in
    let same : m ≡ dataset.Image row.0 = cc in
    absurd (subst (λ x. Fits (dataset_extent x) (Piece p n ghosts)) same fits)
both_taken filter (dataset.Image a) (dataset.Mesh sheets) first second is also m row request input
    other fits given beside = absurd row
both_taken filter (dataset.Mesh sheets) v first second is also m row request input other fits
    given beside = absurd row

no_two_first : (filter : WholeImage → WholeImage → WholeImage) (o : Option Dataset) (m : Dataset)
    → IsOfTwo filter None o (Ok m) → ⊥
no_two_first filter o m h = h

no_two_second : (filter : WholeImage → WholeImage → WholeImage) (o : Option Dataset)
    (m : Dataset) → IsOfTwo filter o None (Ok m) → ⊥
no_two_second filter (Some (dataset.Image image)) m h = h
no_two_second filter (Some (dataset.Mesh sheets)) m h = h
no_two_second filter None m h = h

arith_taken : (filter : WholeImage → WholeImage → WholeImage) (inputs : Inputs Divided)
    (m : Dataset) → IsOfTwo filter (fed_at 1 (wholes inputs)) (fed_at 2 (wholes inputs)) (Ok m)
    → (request : Request) (parts : Inputs Part) → Fits (dataset_extent m) request
    → AreAnswered inputs request parts
    → TakesImage HoldsBlock request (fed_at 1 parts)
    × TakesImage HoldsBlock request (fed_at 2 parts)
arith_taken filter inputs m row request parts fits given =
    let second = fed_at 2 (wholes inputs) in
    let at = fed_first (λ o. IsOfTwo filter o second (Ok m)) (no_two_first filter second m) inputs
    request parts given row in
    let also = fed_second (λ o. IsOfTwo filter (fed_at 1 (wholes inputs)) o (Ok m))
    (no_two_second filter (fed_at 1 (wholes inputs)) m) inputs request parts given row in
    let first_row = subst (λ o. IsOfTwo filter o second (Ok m))
    (whole_of_fed inputs at.first at.fed) row in
    let both_rows = subst (λ o. IsOfTwo filter (Some at.first.whole) o (Ok m))
    (second_whole inputs ∙ ap whole_at also.fed) first_row in
    let taken = both_taken filter at.first.whole also.second.whole at.first also.second refl refl m
    both_rows request at.input also.input fits at.answers also.answers in (
      subst (λ o. TakesImage HoldsBlock request o) (sym at.given) taken.0,
      subst (λ o. TakesImage HoldsBlock request o) (sym also.given) taken.1,
    )

-- ---- pieces

-- a piece fits what is made where that is a mesh
fits_mesh : (m : Dataset) (sheets : List SheetData) → m ≡ dataset.Mesh sheets
    → (request : Request) → Fits (dataset_extent m) request → Fits None request
fits_mesh m sheets is request fits = subst (λ x. Fits (dataset_extent x) request) is fits

taken_slab : (image : ImageData) (division : Division) (p n ghosts : ℕ) (input : Part) → p < n
    → IsAnswer (dataset.Image image) division (Block (slabs.asked p n ghosts image.extent)) input
    → TakesSlab (Some image.extent) (Piece p n ghosts) (Some input)
taken_slab image division p n ghosts (Image i) below h = (below, h.same.extent)
taken_slab image division p n ghosts (Mesh parts) below h = absurd h

slab_taken : (image : ImageData) (first : Divided) → first.whole ≡ dataset.Image image
    → (request : Request) (input : Part) → Fits None request
    → IsPartFor first (layers_request (Some image.extent) request) input
    → TakesSlab (Some image.extent) request (Some input)
slab_taken image first is (Piece p n ghosts) input fits given =
    taken_slab image first.division p n ghosts input fits
    (subst (λ w. IsAnswer w first.division (Block (slabs.asked p n ghosts image.extent)) input) is
    (slab_given first p n ghosts image.extent input given))
slab_taken image first is (Block out) input fits given = absurd fits

tets_taken : (w : Dataset) (first : Divided) → first.whole ≡ w → (m : Dataset)
    → AreTetrahedra (Some w) (Ok m) → (request : Request) (input : Part)
    → Fits (dataset_extent m) request
    → IsPartFor first (layers_request (dataset_extent w) request) input
    → TakesSlab (dataset_extent w) request (Some input)
tets_taken (dataset.Mesh sheets) first is m row request input fits given = absurd row
tets_taken (dataset.Image image) first is m row request input fits given =
    let same : m ≡ dataset.Mesh (tetrahedra_sheet image ∷ []) = cc in
    slab_taken image first is request input
    (fits_mesh m (tetrahedra_sheet image ∷ []) same request fits) given

tets_row_taken : (inputs : Inputs Divided) (m : Dataset)
    → AreTetrahedra (fed_at 1 (wholes inputs)) (Ok m)
    → (request : Request) (parts : Inputs Part) → Fits (dataset_extent m) request
    → AreAnswered inputs (layers_request (extent_at_ports inputs) request) parts
    → TakesSlab (extent_at_ports inputs) request (fed_at 1 parts)
tets_row_taken inputs m row request parts fits given =
    let e = extent_at_ports inputs in
    let at = fed_first (λ o. AreTetrahedra o (Ok m)) (λ h. h) inputs (layers_request e request)
    parts given row in
    let taken = tets_taken at.first.whole at.first refl m
    (subst (λ o. AreTetrahedra o (Ok m)) (whole_of_fed inputs at.first at.fed) row) request at.input
    fits
    (subst (λ x. IsPartFor at.first (layers_request x request) at.input) at.extent at.answers) in
    subst (λ o. TakesSlab e request o) (sym at.given)
    (subst (λ x. TakesSlab x request (Some at.input)) (sym at.extent) taken)

-- ---- parts of meshes

piece_is_mesh : (w : Dataset) (division : Division) (p n ghosts : ℕ) (part : Part)
    → IsAnswer w division (Piece p n ghosts) part → IsMeshPart part
piece_is_mesh (dataset.Image image) division p n ghosts part h = absurd h
piece_is_mesh (dataset.Mesh sheets) division p n ghosts (Image image) h = absurd h.1
piece_is_mesh (dataset.Mesh sheets) division p n ghosts (Mesh parts) h = tt

part_is_mesh : (first : Divided) (sheets : List SheetData) → first.whole ≡ dataset.Mesh sheets
    → (request : Request) (part : Part) → IsPartFor first request part → IsMeshPart part
part_is_mesh first sheets is (Piece p n ghosts) part h =
    piece_is_mesh first.whole first.division p n ghosts part h
part_is_mesh first sheets is (Block out) part h = absurd (no_block first sheets is out part h)

mesh_taken : (make : List SheetData → List SheetData) (w : Dataset) (first : Divided)
    → first.whole ≡ w → (m : Dataset) → IsOfMesh make (Some w) (Ok m)
    → (request : Request) (part : Part) → IsPartFor first request part → IsMeshPart part
mesh_taken make (dataset.Image image) first is m row request part h = absurd row
mesh_taken make (dataset.Mesh sheets) first is m row request part h =
    part_is_mesh first sheets is request part h

mesh_row_taken : (make : List SheetData → List SheetData) (inputs : Inputs Divided) (m : Dataset)
    → IsOfMesh make (fed_at 1 (wholes inputs)) (Ok m)
    → (request : Request) (parts : Inputs Part) → AreAnswered inputs request parts
    → TakesMesh (fed_at 1 parts)
mesh_row_taken make inputs m row request parts given =
    let at = fed_first (λ o. IsOfMesh make o (Ok m)) (λ h. h) inputs request parts given row in
    subst TakesMesh (sym at.given)
    (mesh_taken make at.first.whole at.first refl m
    (subst (λ o. IsOfMesh make o (Ok m)) (whole_of_fed inputs at.first at.fed) row) request at.input
    at.answers)

made_mesh : (make : List SheetData → List SheetData) (o : Option Dataset) (m : Dataset)
    → IsOfMesh make o (Ok m) → (request : Request) → Fits (dataset_extent m) request
    → Fits None request
made_mesh make None m row request fits = absurd row
made_mesh make (Some (dataset.Image image)) m row request fits = absurd row
made_mesh make (Some (dataset.Mesh sheets)) m row request fits =
    let same : m ≡ dataset.Mesh (make sheets) = cc in
    fits_mesh m (make sheets) same request fits

boundary_taken : (request : Request) (input : Option Part) → Fits None request → TakesMesh input
    → TakesPiece request input
boundary_taken (Piece p n ghosts) input fits taken = taken
boundary_taken (Block out) input fits taken = absurd fits

-- ---- sections

fit_parts : PartsFit → (sheets : List SheetData) (owns : Owns) (ghosts : ℕ)
    (parts : List PartSheetData) → IsPieceOf sheets owns ghosts parts → All IsFit sheets
    → All (λ (p : PartSheetData). IsFit p.sheet) parts
fit_parts law sheets owns ghosts parts h fit =
    λ k d l.
    let below : k < length sheets = subst (λ n. k < n) h.matched l in
    law (get_or sheets k d.sheet) (get_or owns k []) ghosts (get_or parts k d)
    (h.each k d.sheet d below) (fit k d.sheet below)

fit_taken : PartsFit → (sheets : List SheetData) (division : Division) (p n ghosts : ℕ)
    (input : Part) → IsAnswer (dataset.Mesh sheets) division (Piece p n ghosts) input
    → All IsFit sheets → TakesFitMesh (Some input)
fit_taken law sheets division p n ghosts (Image image) h fit = absurd h.1
fit_taken law sheets division p n ghosts (Mesh parts) h fit =
    (tt, record { each = fit_parts law sheets (division p n) ghosts parts.items h.1 fit })

section_taken : PartsFit → (forms : List Form) (w : Dataset) (first : Divided)
    → first.whole ≡ w → HasFitSheets w → (m : Dataset) → IsExactSectionOf forms (Some w) (Ok m)
    → (request : Request) (input : Part) → Fits (dataset_extent m) request
    → IsPartFor first (layers_request (dataset_extent w) request) input
    → TakesEither (dataset_extent w) request (Some input)
section_taken law forms (dataset.Image image) first is fit m row request input fits given =
    slab_taken image first is request input (fits_mesh m _ row request fits) given
section_taken law forms (dataset.Mesh sheets) first is fit m row (Piece p n ghosts) input fits
    given =
    fit_taken law sheets first.division p n ghosts input
    (subst (λ w. IsAnswer w first.division (Piece p n ghosts) input) is given) fit
section_taken law forms (dataset.Mesh sheets) first is fit m row (Block out) input fits given =
    absurd (no_block first sheets is out input given)

section_row_taken : PartsFit → (forms : List Form) (inputs : Inputs Divided) (m : Dataset)
    → IsFitAt (fed_at 1 inputs) → IsExactSectionOf forms (fed_at 1 (wholes inputs)) (Ok m)
    → (request : Request) (parts : Inputs Part) → Fits (dataset_extent m) request
    → AreAnswered inputs (layers_request (extent_at_ports inputs) request) parts
    → TakesEither (extent_at_ports inputs) request (fed_at 1 parts)
section_row_taken law forms inputs m fit row request parts fits given =
    let e = extent_at_ports inputs in
    let at = fed_first (λ o. IsExactSectionOf forms o (Ok m)) (λ h. h) inputs (layers_request e request)
    parts given row in
    let taken = section_taken law forms at.first.whole at.first refl (subst IsFitAt at.fed fit) m
    (subst (λ o. IsExactSectionOf forms o (Ok m)) (whole_of_fed inputs at.first at.fed) row) request
    at.input fits
    (subst (λ x. IsPartFor at.first (layers_request x request) at.input) at.extent at.answers) in
    subst (λ o. TakesEither e request o) (sym at.given)
    (subst (λ x. TakesEither x request (Some at.input)) (sym at.extent) taken)

-- ---- joined meshes

append_taken : (inputs : Inputs Divided) (p n ghosts : ℕ) (parts : Inputs Part)
    → AreAnswered inputs (Piece p n ghosts) parts → All IsMeshPart (parts_fed parts)
append_taken [] p n ghosts [] h = All-nil IsMeshPart
append_taken [] p n ghosts (x ∷ parts) h = absurd h
append_taken (None ∷ inputs) p n ghosts [] h = absurd h
append_taken (None ∷ inputs) p n ghosts (None ∷ parts) h =
    append_taken inputs p n ghosts parts h
append_taken (None ∷ inputs) p n ghosts (Some part ∷ parts) h = absurd h
append_taken (Some d ∷ inputs) p n ghosts [] h = absurd h
append_taken (Some d ∷ inputs) p n ghosts (None ∷ parts) h = absurd h
append_taken (Some d ∷ inputs) p n ghosts (Some part ∷ parts) h =
    All-cons IsMeshPart part (parts_fed parts)
    (piece_is_mesh d.whole d.division p n ghosts part h.0)
    (append_taken inputs p n ghosts parts h.1)

append_row_taken : (inputs : Inputs Divided) (request : Request) (parts : Inputs Part)
    → Fits None request → AreAnswered inputs request parts → All IsMeshPart (parts_fed parts)
append_row_taken inputs (Piece p n ghosts) parts fits given =
    append_taken inputs p n ghosts parts given
append_row_taken inputs (Block out) parts fits given = absurd fits

-- ---- all kinds

pub parts_taken : PartsFit → PartsAskedAreTaken
parts_taken law (settings.File array unit) file inputs made only m fit request parts fits given = tt
parts_taken law (settings.Crop x0 x1 y0 y1 z0 z1) file inputs made only m fit request parts fits
    given =
    let s = settings.Crop x0 x1 y0 y1 z0 z1 in
    image_taken (crop_of (box_with x0 x1 y0 y1 z0 z1)) (λ e r. r) (λ e out. out) (λ e out. refl)
    (λ e. HoldsBlock) (λ image whole i out on inside b. held_block image whole i out b) inputs
    made.whole (row_made s inputs made.whole m.exact) request parts fits given
parts_taken law (settings.Sample x y z) file inputs made only m fit request parts fits given =
    let rate = rate_with x y z in
    image_taken (sample_of rate) (λ e r. spread_request (sample_rate x y z) r)
    (λ e out. spread rate out) (λ e out. refl) (λ e. HasMultiples rate)
    (λ image whole i out on inside b. held_multiples rate image whole i out on b) inputs made.whole
    (row_made (settings.Sample x y z) inputs made.whole m.exact) request parts fits given
parts_taken law (settings.Threshold lo hi) file inputs made only m fit request parts fits given =
    image_taken (threshold_of lo hi) (λ e r. r) (λ e out. out) (λ e out. refl) (λ e. HoldsBlock)
    (λ image whole i out on inside b. held_block image whole i out b) inputs made.whole
    (row_made (settings.Threshold lo hi) inputs made.whole m.exact) request parts fits given
parts_taken law (settings.Smooth radius) file inputs made only m fit request parts fits given =
    let by = radius_with radius in
    image_taken (smooth_of by) (λ e r. grown_request (mean_radius radius) e r)
    (λ e out. grown by e out) (λ e out. refl) (HasPointsAround by)
    (λ image whole i out on inside b. held_around by image whole i out on inside b) inputs
    made.whole (row_made (settings.Smooth radius) inputs made.whole m.exact) request parts fits
    given
parts_taken law (settings.Arith op) file inputs made only m fit request parts fits given =
    arith_taken (arith_of (op_with op)) inputs made.whole
    (row_made (settings.Arith op) inputs made.whole m.exact) request parts fits given
parts_taken law settings.Tets file inputs made only m fit request parts fits given =
    tets_row_taken inputs made.whole (row_made settings.Tets inputs made.whole m.exact) request
    parts fits given
parts_taken law (settings.Select lo hi all) file inputs made only m fit request parts fits given =
    mesh_row_taken (selections all lo hi) inputs made.whole
    (row_made (settings.Select lo hi all) inputs made.whole m.exact) request parts given
parts_taken law (settings.Contour count levels) file inputs made only m fit request parts fits
    given =
    section_row_taken law (contour_forms count levels) inputs made.whole fit
    (sections_made (settings.Contour count levels)
    (contour_forms count levels) inputs made.whole m.exact) request parts fits given
parts_taken law (settings.Cut a b c r) file inputs made only m fit request parts fits given =
    section_row_taken law (cut_forms a b c r) inputs made.whole fit
    (sections_made (settings.Cut a b c r) (cut_forms a b c r) inputs made.whole m.exact) request
    parts fits given
parts_taken law settings.Append file inputs made only m fit request parts fits given =
    let row = row_made settings.Append inputs made.whole m.exact in
    append_row_taken inputs request parts
    (subst (λ e. Fits e request)
    (joined_mesh made made.whole refl (appended (meshes_in (wholes inputs))) row) fits) given
parts_taken law settings.Boundary file inputs made only m fit request parts fits given =
    let row = row_made settings.Boundary inputs made.whole m.exact in
    boundary_taken request (fed_at 1 parts)
    (made_mesh boundaries (fed_at 1 (wholes inputs)) made.whole row request fits)
    (mesh_row_taken boundaries inputs made.whole row (more_ghosts request) parts given)
parts_taken law settings.Merge file inputs made only m fit request parts fits given =
    mesh_row_taken merge_of inputs made.whole
    (row_made settings.Merge inputs made.whole m.exact) (all_of (extent_at_ports inputs)) parts
    given
parts_taken law (settings.Writer binary digits version) file inputs made only m fit request parts
    fits given =
    absurd (only tt)
