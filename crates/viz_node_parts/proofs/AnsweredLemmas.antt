-- Of true parts of what feeds a node, the part that it makes: all kinds.
use Rattle.std.proofs.Common.{
  ◌≡◌,
  ℕ,
  ℤ,
  Bool,
  List,
  Option,
  None,
  Some,
  Ok,
  refl,
  sym,
  subst,
}
use Rattle.viz_base.specs.declared.node.Pick.{Pick}
use Rattle.viz_dataset.specs.declared.dataset.Dataset.{Dataset}
use Rattle.viz_dataset.specs.declared.dataset.Dataset.TheVariants as dataset
use Rattle.viz_extent.specs.Extent.{Bounds}
use Rattle.viz_fraction.specs.declared.forms.Form.{Form}
use Rattle.viz_kept.specs.Whole.{whole_request}
use Rattle.viz_kinds.specs.declared.settings.Op.{Op}
use Rattle.viz_kinds.specs.declared.settings.Settings.{Settings}
use Rattle.viz_kinds.specs.declared.settings.Settings.TheVariants as settings
use Rattle.viz_legacy_read.specs.File as reading
use Rattle.viz_legacy_read.specs.Reading.{front}
use Rattle.viz_lex.specs.Rules.{IsDefinite}
use Rattle.viz_meaning.specs.ImageFilters.{
  arith_of,
  crop_of,
  sample_of,
  smooth_within,
  threshold_of,
}
use Rattle.viz_meaning.specs.WholeImages.{WholeImage}
use Rattle.viz_node_answers.specs.Answers.{
  AppendAnswers,
  BoundaryAnswers,
  ImageSectionAnswers,
  IsMadeFrom,
  IsPartFor,
  MergeAnswers,
  SectionAnswers,
  SelectionAnswers,
  TetsAnswer,
  forms_of,
}
use Rattle.viz_node_answers.specs.ImageAnswers.{ArithAnswers, BlockAnswers, image_filter_of}
use Rattle.viz_node_division.specs.Divided.{Divided, IsMadeOf}
use Rattle.viz_node_division.specs.Laws.{DivisionsAreOne}
use Rattle.viz_node_meaning.specs.Data.{
  IsReadingOf,
  contour_forms,
  cut_forms,
  op_with,
  radius_with,
  unit_with,
}
use Rattle.viz_node_meaning.specs.Information.{box_with, fed_at, rate_with}
use Rattle.viz_node_meaning.specs.Rules.{Inputs}
use Rattle.viz_node_meaning.specs.Scratch.{IsScratchOf}
use Rattle.viz_parts.specs.Pieces.{IsAnswer}
use Rattle.viz_parts.specs.declared.request.Part.{Part}
use Rattle.viz_parts.specs.declared.request.Part.TheVariants.{Image, Mesh}
use Rattle.viz_parts.specs.declared.request.Request.{Request}
use Rattle.viz_parts.specs.declared.request.Request.TheVariants.{Block, Piece}
use Rattle.viz_piece_divisions.specs.Answers.{IsMergedAnswer, IsSelectedAnswer}
use Rattle.viz_requests.specs.Upstream.{
  Fits,
  all_of,
  grown_request,
  layers_request,
  mean_radius,
  more_ghosts,
  sample_rate,
  spread_request,
}
use Rattle.viz_extent.specs.Parts.{grown, spread}
use Rattle.viz_node_parts.specs.Answering.{
  AreAnswered,
  CanMerge,
  IsGivenAnywhere,
  IsLeveledAt,
  PartsMadeAnswer,
  extent_at_ports,
  dataset_extent,
}
use Rattle.viz_node_parts.specs.Taken.{parts_fed}
use Rattle.viz_node_parts.specs.Made.{
  IsFilePart,
  MakesBoundary,
  MakesImage,
  MakesMean,
  MakesOf,
  MakesOfBoth,
  MakesSections,
  MakesTets,
}
use Rattle.viz_node_parts.proofs.AnsweringLemmas.{
  append_answers,
  at_first,
  at_second,
  both_blocks,
  boundary_answers,
  fed_parts,
  image_answers,
  merge_answers,
  sections_answer,
  select_answers,
  tets_answers,
}

-- what the laws of nodes, files and divisions say
pub record Laws : Type 0 where
  pub blocks : BlockAnswers
  pub arith : ArithAnswers
  pub tets : TetsAnswer
  pub image_sections : ImageSectionAnswers
  pub sections : SectionAnswers
  pub selection : SelectionAnswers
  pub boundary : BoundaryAnswers
  pub appended : AppendAnswers
  pub merged : MergeAnswers
  pub definite : (pick : Pick) (unit : ℕ) → IsDefinite (reading.file pick unit)
  pub one : DivisionsAreOne

-- ---- nothing is made of an empty port

no_image_part : (filter : WholeImage → WholeImage) (request : Request) (part : Part)
    → MakesImage filter request None part → ⊥
no_image_part filter (Block out) part h = h
no_image_part filter (Piece p n ghosts) part h = h

no_mean : (radius : ℕ) (e : Option Bounds) (request : Request) (part : Part)
    → MakesMean radius e request None part → ⊥
no_mean radius None request part h = h
no_mean radius (Some whole) request part h =
    no_image_part (smooth_within radius whole) request part h

no_first : (filter : WholeImage → WholeImage → WholeImage) (request : Request) (o : Option Part)
    (part : Part) → MakesOfBoth filter request None o part → ⊥
no_first filter (Block out) o part h = h
no_first filter (Piece p n ghosts) o part h = h

no_second : (filter : WholeImage → WholeImage → WholeImage) (request : Request) (o : Option Part)
    (part : Part) → MakesOfBoth filter request o None part → ⊥
no_second filter (Block out) (Some (Image input)) part h = h
no_second filter (Block out) (Some (Mesh parts)) part h = h
no_second filter (Block out) None part h = h
no_second filter (Piece p n ghosts) o part h = h

no_tets : (e : Option Bounds) (request : Request) (part : Part) → MakesTets e request None part
    → ⊥
no_tets (Some whole) (Piece p n ghosts) part h = h
no_tets (Some whole) (Block out) part h = h
no_tets None request part h = h

no_sections : (forms : List Form) (e : Option Bounds) (request : Request) (part : Part)
    → MakesSections forms e request None part → ⊥
no_sections forms (Some whole) (Piece p n ghosts) part h = h
no_sections forms (Some whole) (Block out) part h = h
no_sections forms None request part h = h

no_boundary : (request : Request) (part : Part) → MakesBoundary request None part → ⊥
no_boundary (Piece p n ghosts) part h = h
no_boundary (Block out) part h = h

-- ---- filters of images

module _ (law : BlockAnswers) (s : Settings) (filter : Bounds → WholeImage → WholeImage)
    (filters : (b : Bounds) → image_filter_of s b ≡ Some (filter b))
    (ask : Option Bounds → Request → Request)
    (asks : (e : Option Bounds) (out : Bounds) → (b : Bounds) × (ask e (Block out) ≡ Block b))
    (Makes : Option Bounds → Request → Option Part → Part → Type 0)
    (makes : (b : Bounds) (request : Request) (o : Option Part) (part : Part)
    → Makes (Some b) request o part → MakesImage (filter b) request o part)
    (pieces : (p n ghosts : ℕ) (o : Option Part) (part : Part)
    → Makes None (Piece p n ghosts) o part → ⊥)
    (unmade : (e : Option Bounds) (request : Request) (part : Part) → Makes e request None part → ⊥)
  where
    image_row : (file : Option (List ℕ)) (inputs : Inputs Divided) (made : Divided)
        → IsMadeOf s file inputs made → (request : Request) (parts : Inputs Part) (part : Part)
        → Fits (dataset_extent made.whole) request
        → AreAnswered inputs (ask (extent_at_ports inputs) request) parts
        → Makes (extent_at_ports inputs) request (fed_at 1 parts) part → IsPartFor made request part
    image_row file inputs made m request parts part fits given gives =
        let e = extent_at_ports inputs in
        let at = at_first (λ o. Makes e request o part) (unmade e request part) inputs
        (ask e request) parts given gives in
        let from : IsMadeFrom s at.first made =
        record { file = file; inputs = inputs; fed = at.fed; made_of = m } in
        image_answers law s filter filters ask asks Makes makes pieces at.first made from
        at.first.whole refl request at.input part fits
        (subst (λ x. IsPartFor at.first (ask x request) at.input) at.extent at.answers)
        (subst (λ x. Makes x request (Some at.input) part) at.extent
        (subst (λ o. Makes e request o part) at.given gives))

-- a mean asks for a block
grown_block : (by : ℕ) (e : Option Bounds) (out : Bounds)
    → (b : Bounds) × (grown_request by e (Block out) ≡ Block b)
grown_block by (Some whole) out = (grown by whole out, refl)
grown_block by None out = (out, refl)

arith_row : ArithAnswers → (op : Op) (file : Option (List ℕ)) (inputs : Inputs Divided)
    (made : Divided) → IsMadeOf (settings.Arith op) file inputs made
    → (request : Request) (parts : Inputs Part) (part : Part)
    → Fits (dataset_extent made.whole) request → AreAnswered inputs request parts
    → MakesOfBoth (arith_of (op_with op)) request (fed_at 1 parts) (fed_at 2 parts) part
    → IsPartFor made request part
arith_row law op file inputs made m request parts part fits given gives =
    let filter = arith_of (op_with op) in
    let at = at_first (λ o. MakesOfBoth filter request o (fed_at 2 parts) part)
    (no_first filter request (fed_at 2 parts) part) inputs request parts given gives in
    let also = at_second (λ o. MakesOfBoth filter request (fed_at 1 parts) o part)
    (no_second filter request (fed_at 1 parts) part) inputs request parts given gives in
    both_blocks law op at.first also.second made
    (record {
      file = file;
      inputs = inputs;
      fed_first = at.fed;
      fed_second = also.fed;
      made_of = m;
    })
    at.first.whole also.second.whole refl refl request at.input also.input part fits at.answers
    also.answers
    (subst (λ o. MakesOfBoth filter request (Some at.input) o part) also.given
    (subst (λ o. MakesOfBoth filter request o (fed_at 2 parts) part) at.given gives))

-- ---- pieces

tets_row : TetsAnswer → (file : Option (List ℕ)) (inputs : Inputs Divided) (made : Divided)
    → IsMadeOf settings.Tets file inputs made
    → (request : Request) (parts : Inputs Part) (part : Part)
    → AreAnswered inputs (layers_request (extent_at_ports inputs) request) parts
    → MakesTets (extent_at_ports inputs) request (fed_at 1 parts) part
    → IsPartFor made request part
tets_row law file inputs made m request parts part given gives =
    let e = extent_at_ports inputs in
    let at = at_first (λ o. MakesTets e request o part) (no_tets e request part) inputs
    (layers_request e request) parts given gives in
    tets_answers law at.first made
    (record { file = file; inputs = inputs; fed = at.fed; made_of = m }) at.first.whole refl request
    at.input part
    (subst (λ x. IsPartFor at.first (layers_request x request) at.input) at.extent at.answers)
    (subst (λ x. MakesTets x request (Some at.input) part) at.extent
    (subst (λ o. MakesTets e request o part) at.given gives))

section_row : SectionAnswers → ImageSectionAnswers → (s : Settings) (forms : List Form)
    → forms_of s ≡ Some forms → (file : Option (List ℕ)) (inputs : Inputs Divided)
    (made : Divided) → IsMadeOf s file inputs made → IsLeveledAt (fed_at 1 inputs)
    → (request : Request) (parts : Inputs Part) (part : Part)
    → AreAnswered inputs (layers_request (extent_at_ports inputs) request) parts
    → MakesSections forms (extent_at_ports inputs) request (fed_at 1 parts) part
    → IsPartFor made request part
section_row law image_law s forms is file inputs made m levels request parts part given gives =
    let e = extent_at_ports inputs in
    let at = at_first (λ o. MakesSections forms e request o part) (no_sections forms e request part)
    inputs (layers_request e request) parts given gives in
    sections_answer law image_law s forms is at.first made
    (record { file = file; inputs = inputs; fed = at.fed; made_of = m }) at.first.whole refl
    (subst IsLeveledAt at.fed levels) request at.input part
    (subst (λ x. IsPartFor at.first (layers_request x request) at.input) at.extent at.answers)
    (subst (λ x. MakesSections forms x request (Some at.input) part) at.extent
    (subst (λ o. MakesSections forms e request o part) at.given gives))

select_row : SelectionAnswers → (lo hi : ℤ) (all : Bool) (file : Option (List ℕ))
    (inputs : Inputs Divided) (made : Divided)
    → IsMadeOf (settings.Select lo hi all) file inputs made
    → (request : Request) (parts : Inputs Part) (part : Part) → AreAnswered inputs request parts
    → MakesOf (IsSelectedAnswer all lo hi) (fed_at 1 parts) part → IsPartFor made request part
select_row law lo hi all file inputs made m request parts part given gives =
    let at = at_first (λ o. MakesOf (IsSelectedAnswer all lo hi) o part) (λ h. h) inputs request
    parts given gives in
    select_answers law lo hi all at.first made
    (record { file = file; inputs = inputs; fed = at.fed; made_of = m }) at.first.whole refl request
    at.input part at.answers
    (subst (λ o. MakesOf (IsSelectedAnswer all lo hi) o part) at.given gives)

boundary_row : BoundaryAnswers → (file : Option (List ℕ)) (inputs : Inputs Divided)
    (made : Divided) → IsMadeOf settings.Boundary file inputs made
    → (request : Request) (parts : Inputs Part) (part : Part)
    → AreAnswered inputs (more_ghosts request) parts
    → MakesBoundary request (fed_at 1 parts) part → IsPartFor made request part
boundary_row law file inputs made m request parts part given gives =
    let at = at_first (λ o. MakesBoundary request o part) (no_boundary request part) inputs
    (more_ghosts request) parts given gives in
    boundary_answers law at.first made
    (record { file = file; inputs = inputs; fed = at.fed; made_of = m }) request at.input part
    at.answers (subst (λ o. MakesBoundary request o part) at.given gives)

merge_row : MergeAnswers → (file : Option (List ℕ)) (inputs : Inputs Divided) (made : Divided)
    → IsMadeOf settings.Merge file inputs made → CanMerge (fed_at 1 inputs)
    → (parts : Inputs Part) (part : Part)
    → AreAnswered inputs (all_of (extent_at_ports inputs)) parts
    → MakesOf IsMergedAnswer (fed_at 1 parts) part
    → IsPartFor made (all_of (dataset_extent made.whole)) part
merge_row law file inputs made m can parts part given gives =
    let e = extent_at_ports inputs in
    let at = at_first (λ o. MakesOf IsMergedAnswer o part) (λ h. h) inputs (all_of e) parts given
    gives in
    merge_answers law at.first made
    (record { file = file; inputs = inputs; fed = at.fed; made_of = m })
    (subst CanMerge at.fed can) at.first.whole refl at.input part
    (subst (λ x. IsPartFor at.first (all_of x) at.input) at.extent at.answers)
    (subst (λ o. MakesOf IsMergedAnswer o part) at.given gives)

-- ---- files

-- a file is read as one dataset
reads_one : ((pick : Pick) (unit : ℕ) → IsDefinite (reading.file pick unit))
    → (array : Pick) (unit : ℕ) (bytes : Option (List ℕ)) (a b : Dataset)
    → IsReadingOf array unit bytes (Ok a) → IsReadingOf array unit bytes (Ok b) → a ≡ b
reads_one law array unit None a b x y = let bad : ⊥ = cc in absurd bad
reads_one law array unit (Some bytes) a b x y =
    ((law array unit).one (front bytes) x.0 y.0 a b x.1 y.1).0

all_is : (m : Dataset) → whole_request m ≡ all_of (dataset_extent m)
all_is (dataset.Image image) = refl
all_is (dataset.Mesh sheets) = refl

file_row : Laws → (array : Pick) (unit : ℕ) (bytes : Option (List ℕ)) (made : Divided)
    → IsReadingOf array unit bytes (Ok made.whole) → IsGivenAnywhere made → (part : Part)
    → IsFilePart array unit bytes part → IsPartFor made (all_of (dataset_extent made.whole)) part
file_row laws array unit bytes made read suits part h =
    let same : h.whole ≡ made.whole =
    reads_one laws.definite array unit bytes h.whole made.whole h.read read in
    let cone = suits.0 in
    let node = h.part_is.each cone
    (subst (λ w. IsScratchOf cone (Ok w)) (sym same) suits.1.scratch) in
    let one = laws.one cone node.whole made.whole node.one.division made.division node.one.divided
    suits.1.divided in
    subst (λ r. IsPartFor made r part) (all_is made.whole)
    (subst (λ w. IsAnswer made.whole made.division (whole_request w) part) same
    (subst (λ w. IsAnswer w made.division (whole_request h.whole) part) one.0
    (subst (λ d. IsAnswer node.whole d (whole_request h.whole) part) one.1 node.one.answers)))

-- ---- all kinds

pub parts_made : Laws → PartsMadeAnswer
parts_made laws (settings.File array unit) bytes inputs made m suits request parts part fits given
    gives = file_row laws array (unit_with unit) bytes made m.exact suits part gives
parts_made laws (settings.Crop x0 x1 y0 y1 z0 z1) bytes inputs made m suits request parts part fits
    given gives =
    let filter = crop_of (box_with x0 x1 y0 y1 z0 z1) in
    image_row laws.blocks (settings.Crop x0 x1 y0 y1 z0 z1) (λ b. filter) (λ b. refl) (λ e r. r)
    (λ e out. (out, refl)) (λ e r o p. MakesImage filter r o p) (λ b r o p h. h)
    (λ p n ghosts o q h. h) (λ e r p h. no_image_part filter r p h) bytes inputs made m request
    parts part fits given gives
parts_made laws (settings.Sample x y z) bytes inputs made m suits request parts part fits given
    gives =
    let filter = sample_of (rate_with x y z) in
    image_row laws.blocks (settings.Sample x y z) (λ b. filter) (λ b. refl)
    (λ e r. spread_request (sample_rate x y z) r)
    (λ e out. (spread (sample_rate x y z) out, refl)) (λ e r o p. MakesImage filter r o p)
    (λ b r o p h. h) (λ p n ghosts o q h. h) (λ e r p h. no_image_part filter r p h) bytes inputs
    made m request parts part fits given gives
parts_made laws (settings.Threshold lo hi) bytes inputs made m suits request parts part fits given
    gives =
    let filter = threshold_of lo hi in
    image_row laws.blocks (settings.Threshold lo hi) (λ b. filter) (λ b. refl) (λ e r. r)
    (λ e out. (out, refl)) (λ e r o p. MakesImage filter r o p) (λ b r o p h. h)
    (λ p n ghosts o q h. h) (λ e r p h. no_image_part filter r p h) bytes inputs made m request
    parts part fits given gives
parts_made laws (settings.Smooth radius) bytes inputs made m suits request parts part fits given
    gives =
    image_row laws.blocks (settings.Smooth radius) (λ b. smooth_within (radius_with radius) b)
    (λ b. refl) (λ e r. grown_request (mean_radius radius) e r) (grown_block (mean_radius radius))
    (MakesMean (radius_with radius)) (λ b r o p h. h) (λ p n ghosts o q h. h)
    (no_mean (radius_with radius)) bytes inputs made m request parts part fits given gives
parts_made laws (settings.Arith op) bytes inputs made m suits request parts part fits given gives =
    arith_row laws.arith op bytes inputs made m request parts part fits given gives
parts_made laws settings.Tets bytes inputs made m suits request parts part fits given gives =
    tets_row laws.tets bytes inputs made m request parts part given gives
parts_made laws (settings.Select lo hi all) bytes inputs made m suits request parts part fits given
    gives = select_row laws.selection lo hi all bytes inputs made m request parts part given gives
parts_made laws (settings.Contour count levels) bytes inputs made m suits request parts part fits
    given gives =
    section_row laws.sections laws.image_sections (settings.Contour count levels)
    (contour_forms count levels) refl bytes inputs made m suits request parts part given gives.0
parts_made laws (settings.Cut a b c r) bytes inputs made m suits request parts part fits given
    gives =
    section_row laws.sections laws.image_sections (settings.Cut a b c r) (cut_forms a b c r) refl
    bytes inputs made m suits request parts part given gives.0
parts_made laws settings.Append bytes inputs made m suits request parts part fits given gives =
    append_answers laws.appended bytes inputs made m request (parts_fed parts) part fits
    (fed_parts inputs request parts given) gives
parts_made laws settings.Boundary bytes inputs made m suits request parts part fits given gives =
    boundary_row laws.boundary bytes inputs made m request parts part given gives
parts_made laws settings.Merge bytes inputs made m suits request parts part fits given gives =
    merge_row laws.merged bytes inputs made m suits parts part given gives
parts_made laws (settings.Writer binary digits version) bytes inputs made m suits request parts part
    fits given gives = absurd gives
