-- Of true parts of what feeds a node, the part that it makes, kind by kind.
use Rattle.std.proofs.Common.{
  ◌≡◌,
  ℕ,
  ℤ,
  Bool,
  List,
  [],
  ◌∷◌,
  Option,
  None,
  Some,
  Ok,
  refl,
  sym,
  ap,
  subst,
  ◌∙◌,
}
use Rattle.std.specs.List.{All}
use Rattle.std.specs.Option.{option_map_or}
use Rattle.viz_dataset.specs.Images.{ImageData}
use Rattle.viz_dataset.specs.declared.dataset.Dataset.{Dataset}
use Rattle.viz_dataset.specs.declared.dataset.Dataset.TheVariants as dataset
use Rattle.viz_extent.specs.Extent.{Bounds}
use Rattle.viz_extent.specs.Slabs.{layers_of, planes}
use Rattle.viz_fraction.specs.declared.forms.Form.{Form}
use Rattle.viz_kinds.specs.declared.settings.Op.{Op}
use Rattle.viz_kinds.specs.declared.settings.Settings.{Settings}
use Rattle.viz_kinds.specs.declared.settings.Settings.TheVariants as settings
use Rattle.viz_meaning.specs.ImageFilters.{arith_of}
use Rattle.viz_meaning.specs.Tetrahedra.{sheets_of}
use Rattle.viz_meaning.specs.WholeImages.{WholeImage}
use Rattle.viz_mesh_meaning.specs.Append.{appended}
use Rattle.viz_mesh_meaning.specs.Select.{selections}
use Rattle.viz_node_answers.specs.Answers.{
  AppendAnswers,
  ArePartsFor,
  BoundaryAnswers,
  ImageSectionAnswers,
  IsMadeFrom,
  IsPartFor,
  MergeAnswers,
  SectionAnswers,
  SelectionAnswers,
  TetsAnswer,
  forms_of,
}
use Rattle.viz_node_answers.specs.ImageAnswers.{
  ArithAnswers,
  BlockAnswers,
  IsMadeFromBoth,
  LiesInImage,
  image_filter_of,
}
use Rattle.viz_node_division.specs.Divided.{Divided, IsMadeOf, wholes}
use Rattle.viz_node_division.proofs.RowLemmas.{IsOk, first_whole, row_made, whole_at}
use Rattle.viz_node_meaning.specs.Data.{IsOfMesh, merge_of, meshes_in, op_with}
use Rattle.viz_node_meaning.specs.Information.{fed_at}
use Rattle.viz_node_meaning.specs.Rules.{Inputs}
use Rattle.viz_parts.specs.Pieces.{IsAnswer, SharesOut}
use Rattle.viz_parts.specs.declared.request.Part.{Part}
use Rattle.viz_parts.specs.declared.request.Part.TheVariants.{Image, Mesh}
use Rattle.viz_parts.specs.declared.request.Request.{Request}
use Rattle.viz_parts.specs.declared.request.Request.TheVariants.{Block, Piece}
use Rattle.viz_piece_divisions.specs.Answers.{
  IsAppendedAnswer,
  IsMergedAnswer,
  IsSelectedAnswer,
}
use Rattle.viz_piece_divisions.specs.Pieces.{HasLevel}
use Rattle.viz_piece_tets.specs.Asked as slabs
use Rattle.viz_requests.specs.Upstream.{
  Fits,
  all_of,
  asked,
  layers_block,
  layers_request,
  more_ghosts,
}
use Rattle.viz_sheet.specs.Sheet.{SheetData}
use Rattle.viz_node_parts.specs.Answering.{
  AreAnswered,
  HasLeveledSheets,
  extent_at_ports,
  dataset_extent,
}
use Rattle.viz_node_parts.specs.Made.{
  MakesBoundary,
  MakesImage,
  MakesOfBoth,
  MakesSections,
  MakesTets,
}
use Rattle.viz_node_parts.specs.Taken.{parts_fed}

-- ---- ports

-- what feeds the first port, and the part there
pub record AtFirst (inputs : Inputs Divided) (request : Request) (parts : Inputs Part)
    : Type 0 where
  pub first : Divided
  pub input : Part
  pub fed : fed_at 1 inputs ≡ Some first
  pub extent : extent_at_ports inputs ≡ dataset_extent first.whole
  pub given : fed_at 1 parts ≡ Some input
  pub answers : IsPartFor first request input

-- the first port is fed where something is made of the part there
pub at_first : (Makes : Option Part → Type 0) → (Makes None → ⊥)
    → (inputs : Inputs Divided) (request : Request) (parts : Inputs Part)
    → AreAnswered inputs request parts → Makes (fed_at 1 parts) → AtFirst inputs request parts
at_first Makes unmade [] request [] h made = absurd (unmade made)
at_first Makes unmade [] request (x ∷ parts) h made = absurd h
at_first Makes unmade (None ∷ inputs) request [] h made = absurd h
at_first Makes unmade (None ∷ inputs) request (None ∷ parts) h made = absurd (unmade made)
at_first Makes unmade (None ∷ inputs) request (Some part ∷ parts) h made = absurd h
at_first Makes unmade (Some d ∷ inputs) request [] h made = absurd h
at_first Makes unmade (Some d ∷ inputs) request (None ∷ parts) h made = absurd h
at_first Makes unmade (Some d ∷ inputs) request (Some part ∷ parts) h made = record {
  first = d;
  input = part;
  fed = refl;
  extent = refl;
  given = refl;
  answers = h.0;
}

-- what feeds the second port, and the part there
pub record AtSecond (inputs : Inputs Divided) (request : Request) (parts : Inputs Part)
    : Type 0 where
  pub second : Divided
  pub input : Part
  pub fed : fed_at 2 inputs ≡ Some second
  pub given : fed_at 2 parts ≡ Some input
  pub answers : IsPartFor second request input

pub behind_first : (x : Option Divided) (y : Option Part) (inputs : Inputs Divided)
    (request : Request) (parts : Inputs Part) → AtFirst inputs request parts
    → AtSecond (x ∷ inputs) request (y ∷ parts)
behind_first x y inputs request parts at = record {
  second = at.first;
  input = at.input;
  fed = at.fed;
  given = at.given;
  answers = at.answers;
}

pub at_second : (Makes : Option Part → Type 0) → (Makes None → ⊥)
    → (inputs : Inputs Divided) (request : Request) (parts : Inputs Part)
    → AreAnswered inputs request parts → Makes (fed_at 2 parts) → AtSecond inputs request parts
at_second Makes unmade [] request [] h made = absurd (unmade made)
at_second Makes unmade [] request (x ∷ parts) h made = absurd h
at_second Makes unmade (None ∷ inputs) request [] h made = absurd h
at_second Makes unmade (None ∷ inputs) request (None ∷ parts) h made =
    behind_first None None inputs request parts (at_first Makes unmade inputs request parts h made)
at_second Makes unmade (None ∷ inputs) request (Some part ∷ parts) h made = absurd h
at_second Makes unmade (Some d ∷ inputs) request [] h made = absurd h
at_second Makes unmade (Some d ∷ inputs) request (None ∷ parts) h made = absurd h
at_second Makes unmade (Some d ∷ inputs) request (Some part ∷ parts) h made =
    behind_first (Some d) (Some part) inputs request parts
    (at_first Makes unmade inputs request parts h.1 made)

-- the parts of the ports that are fed
pub fed_parts : (inputs : Inputs Divided) (request : Request) (parts : Inputs Part)
    → AreAnswered inputs request parts → ArePartsFor inputs request (parts_fed parts)
fed_parts [] request [] h = tt
fed_parts [] request (x ∷ parts) h = absurd h
fed_parts (None ∷ inputs) request [] h = absurd h
fed_parts (None ∷ inputs) request (None ∷ parts) h = fed_parts inputs request parts h
fed_parts (None ∷ inputs) request (Some part ∷ parts) h = absurd h
fed_parts (Some d ∷ inputs) request [] h = absurd h
fed_parts (Some d ∷ inputs) request (None ∷ parts) h = absurd h
fed_parts (Some d ∷ inputs) request (Some part ∷ parts) h =
    (h.0, fed_parts inputs request parts h.1)

-- ---- datasets

-- a block of a mesh, and a piece of an image, is no part
pub no_block : (d : Divided) (sheets : List SheetData) → d.whole ≡ dataset.Mesh sheets
    → (out : Bounds) (part : Part) → IsPartFor d (Block out) part → ⊥
no_block d sheets is out part h = subst (λ w. IsAnswer w d.division (Block out) part) is h

no_piece : (d : Divided) (image : ImageData) → d.whole ≡ dataset.Image image
    → (p n ghosts : ℕ) (part : Part) → IsPartFor d (Piece p n ghosts) part → ⊥
no_piece d image is p n ghosts part h =
    subst (λ w. IsAnswer w d.division (Piece p n ghosts) part) is h

-- a block that fits lies in an image
lies : (m : Dataset) (out : Bounds) → Fits (dataset_extent m) (Block out) → LiesInImage out m
lies (dataset.Image image) out h = h
lies (dataset.Mesh sheets) out h = absurd h

-- a filter of meshes makes nothing of an image
no_image : (make : List SheetData → List SheetData) (first : Divided) (image : ImageData)
    (m : Dataset) (inputs : Inputs Divided) → fed_at 1 inputs ≡ Some first
    → first.whole ≡ dataset.Image image
    → IsOfMesh make (fed_at 1 (wholes inputs)) (Ok m) → ⊥
no_image make first image m inputs fed is row =
    let there : fed_at 1 (wholes inputs) ≡ Some (dataset.Image image) =
    first_whole inputs ∙ ap whole_at fed ∙ ap (λ w. Some w) is in
    subst (λ o. IsOfMesh make o (Ok m)) there row

-- ---- blocks of images

module _ (law : BlockAnswers) (s : Settings) (filter : Bounds → WholeImage → WholeImage)
    (filters : (b : Bounds) → image_filter_of s b ≡ Some (filter b))
    (ask : Option Bounds → Request → Request)
    (asks : (e : Option Bounds) (out : Bounds) → (b : Bounds) × (ask e (Block out) ≡ Block b))
    (Makes : Option Bounds → Request → Option Part → Part → Type 0)
    (makes : (b : Bounds) (request : Request) (o : Option Part) (part : Part)
    → Makes (Some b) request o part → MakesImage (filter b) request o part)
    (pieces : (p n ghosts : ℕ) (o : Option Part) (part : Part)
    → Makes None (Piece p n ghosts) o part → ⊥)
    (first made : Divided) (m : IsMadeFrom s first made) where
  of_block : (image : ImageData) → first.whole ≡ dataset.Image image
      → (request : Request) (input part : Part) → Fits (dataset_extent made.whole) request
      → IsPartFor first (ask (Some image.extent) request) input
      → MakesImage (filter image.extent) request (Some input) part → IsPartFor made request part
  of_block image is (Block out) (Image input) (Image part) fits given gives =
      let ask_is = asks (Some image.extent) out in
      law s (filter image.extent) image first made (filters image.extent) is m ask_is.0 out input
      part
      (lies made.whole out fits) gives
      (subst (λ r. IsPartFor first r (Image input)) ask_is.1 given)
  of_block image is (Block out) (Image input) (Mesh parts) fits given gives = absurd gives
  of_block image is (Block out) (Mesh input) part fits given gives = absurd gives
  of_block image is (Piece p n ghosts) input part fits given gives = absurd gives

  pub image_answers : (w : Dataset) → first.whole ≡ w
      → (request : Request) (input part : Part) → Fits (dataset_extent made.whole) request
      → IsPartFor first (ask (dataset_extent w) request) input
      → Makes (dataset_extent w) request (Some input) part → IsPartFor made request part
  image_answers (dataset.Image image) is request input part fits given gives =
      of_block image is request input part fits given
      (makes image.extent request (Some input) part gives)
  image_answers (dataset.Mesh sheets) is (Block out) input part fits given gives =
      let ask_is = asks None out in
      absurd (no_block first sheets is ask_is.0 input
      (subst (λ r. IsPartFor first r input) ask_is.1 given))
  image_answers (dataset.Mesh sheets) is (Piece p n ghosts) input part fits given gives =
      absurd (pieces p n ghosts (Some input) part gives)

-- ---- arithmetic of two images

pub both_blocks : ArithAnswers → (op : Op) (first second made : Divided)
    → IsMadeFromBoth (settings.Arith op) first second made
    → (w v : Dataset) → first.whole ≡ w → second.whole ≡ v
    → (request : Request) (input other part : Part) → Fits (dataset_extent made.whole) request
    → IsPartFor first request input → IsPartFor second request other
    → MakesOfBoth (arith_of (op_with op)) request (Some input) (Some other) part
    → IsPartFor made request part
both_blocks law op first second made m (dataset.Image a) (dataset.Image b) is also (Block out)
    (Image input) (Image other) (Image part) fits given beside gives =
    law op a b first second made is also m out out out input other part (lies made.whole out fits)
    gives given beside
both_blocks law op first second made m (dataset.Image a) (dataset.Image b) is also (Block out)
    (Image input) (Image other) (Mesh parts) fits given beside gives = absurd gives
both_blocks law op first second made m (dataset.Image a) (dataset.Image b) is also (Block out)
    (Image input) (Mesh other) part fits given beside gives = absurd gives
both_blocks law op first second made m (dataset.Image a) (dataset.Image b) is also (Block out)
    (Mesh input) other part fits given beside gives = absurd gives
both_blocks law op first second made m w v is also (Piece p n ghosts) input other part fits given
    beside gives = absurd gives
both_blocks law op first second made m (dataset.Mesh sheets) v is also (Block out) input other part
    fits given beside gives = absurd (no_block first sheets is out input given)
both_blocks law op first second made m (dataset.Image a) (dataset.Mesh sheets) is also (Block out)
    input other part fits given beside gives = absurd (no_block second sheets also out other beside)

-- ---- pieces of what is made of images

or_lowest : (o : Option Bounds) (b : Bounds)
    → option_map_or (λ x. x) o (planes 0 0 b) ≡ slabs.or_lowest b o
or_lowest (Some some) b = refl
or_lowest None b = refl

-- the planes that a piece asks for
same_planes : (p n ghosts : ℕ) (b : Bounds) → layers_block p n ghosts b ≡ slabs.asked p n ghosts b
same_planes p n ghosts b = or_lowest (layers_of p n ghosts b) b

pub slab_given : (first : Divided) (p n ghosts : ℕ) (b : Bounds) (input : Part)
    → IsPartFor first (layers_request (Some b) (Piece p n ghosts)) input
    → IsPartFor first (Block (slabs.asked p n ghosts b)) input
slab_given first p n ghosts b input given =
    subst (λ c. IsPartFor first (Block c) input) (same_planes p n ghosts b) given

pub tets_answers : TetsAnswer → (first made : Divided) → IsMadeFrom settings.Tets first made
    → (w : Dataset) → first.whole ≡ w → (request : Request) (input part : Part)
    → IsPartFor first (layers_request (dataset_extent w) request) input
    → MakesTets (dataset_extent w) request (Some input) part → IsPartFor made request part
tets_answers law first made m (dataset.Image image) is (Piece p n ghosts) (Image slab) part given
    gives =
    law image first made is m p n ghosts slab part gives
    (slab_given first p n ghosts image.extent (Image slab) given)
tets_answers law first made m (dataset.Image image) is (Piece p n ghosts) (Mesh parts) part given
    gives = absurd gives
tets_answers law first made m (dataset.Image image) is (Block out) input part given gives =
    absurd gives
tets_answers law first made m (dataset.Mesh sheets) is request input part given gives =
    absurd gives

-- ---- sections

pub sections_answer : SectionAnswers → ImageSectionAnswers → (s : Settings) (forms : List Form)
    → forms_of s ≡ Some forms → (first made : Divided) → IsMadeFrom s first made
    → (w : Dataset) → first.whole ≡ w → HasLeveledSheets w
    → (request : Request) (input part : Part)
    → IsPartFor first (layers_request (dataset_extent w) request) input
    → MakesSections forms (dataset_extent w) request (Some input) part → IsPartFor made request part
sections_answer law image_law s forms e first made m (dataset.Image image) is levels
    (Piece p n ghosts) (Image slab) part given gives =
    image_law s forms image first made e is m p n ghosts slab part gives
    (slab_given first p n ghosts image.extent (Image slab) given)
sections_answer law image_law s forms e first made m (dataset.Image image) is levels
    (Piece p n ghosts) (Mesh parts) part given gives = absurd gives
sections_answer law image_law s forms e first made m (dataset.Image image) is levels (Block out)
    input part given gives = absurd gives
sections_answer law image_law s forms e first made m (dataset.Mesh sheets) is levels
    (Piece p n ghosts) input part given gives =
    law s forms first made e m (subst (λ w. All HasLevel (sheets_of w)) (sym is) levels) p n
    ghosts input part gives given
sections_answer law image_law s forms e first made m (dataset.Mesh sheets) is levels (Block out)
    input part given gives = absurd (no_block first sheets is out input given)

-- ---- filters of meshes

pub select_answers : SelectionAnswers → (lo hi : ℤ) (all : Bool) (first made : Divided)
    → IsMadeFrom (settings.Select lo hi all) first made
    → (w : Dataset) → first.whole ≡ w → (request : Request) (input part : Part)
    → IsPartFor first request input → IsSelectedAnswer all lo hi input part
    → IsPartFor made request part
select_answers law lo hi all first made m (dataset.Mesh sheets) is (Piece p n ghosts) input part
    given gives = law all lo hi first made m p n ghosts input part gives given
select_answers law lo hi all first made m (dataset.Mesh sheets) is (Block out) input part given
    gives = absurd (no_block first sheets is out input given)
select_answers law lo hi all first made m (dataset.Image image) is request input part given
    gives =
    absurd (no_image (selections all lo hi) first image made.whole m.inputs m.fed is
    (row_made (settings.Select lo hi all) m.inputs made.whole m.made_of.exact))

pub boundary_answers : BoundaryAnswers → (first made : Divided)
    → IsMadeFrom settings.Boundary first made → (request : Request) (input part : Part)
    → IsPartFor first (more_ghosts request) input → MakesBoundary request (Some input) part
    → IsPartFor made request part
boundary_answers law first made m (Piece p n ghosts) input part given gives =
    law first made m p n ghosts input part gives given
boundary_answers law first made m (Block out) input part given gives = absurd gives

-- a part for the only piece is one for all of what is made
all_made : (made : Divided) (m : Dataset) → made.whole ≡ m → (part : Part)
    → IsPartFor made (Piece 0 1 0) part → IsPartFor made (all_of (dataset_extent m)) part
all_made made (dataset.Mesh sheets) is part h = h
all_made made (dataset.Image image) is part h = absurd (no_piece made image is 0 1 0 part h)

pub merge_answers : MergeAnswers → (first made : Divided) → IsMadeFrom settings.Merge first made
    → SharesOut first.division (sheets_of first.whole) 1
    → (w : Dataset) → first.whole ≡ w → (input part : Part)
    → IsPartFor first (all_of (dataset_extent w)) input → IsMergedAnswer input part
    → IsPartFor made (all_of (dataset_extent made.whole)) part
merge_answers law first made m shared (dataset.Mesh sheets) is input part given gives =
    all_made made made.whole refl part (law first made m shared 0 input part gives given)
merge_answers law first made m shared (dataset.Image image) is input part given gives =
    absurd (no_image merge_of first image made.whole m.inputs m.fed is
    (row_made settings.Merge m.inputs made.whole m.made_of.exact))

-- joined meshes are a mesh
pub joined_mesh : (made : Divided) (m : Dataset) → made.whole ≡ m → (joined : List SheetData)
    → IsOk (Ok made.whole) (dataset.Mesh joined) → dataset_extent m ≡ None
joined_mesh made (dataset.Mesh sheets) is joined e = refl
joined_mesh made (dataset.Image image) is joined e =
    let same : dataset.Image image ≡ dataset.Mesh joined = cc in
    let bad : ⊥ = cc in absurd bad

pub append_answers : AppendAnswers → (file : Option (List ℕ)) (inputs : Inputs Divided)
    (made : Divided) → IsMadeOf settings.Append file inputs made
    → (request : Request) (parts : List Part) (part : Part)
    → Fits (dataset_extent made.whole) request → ArePartsFor inputs request parts
    → IsAppendedAnswer parts part
    → IsPartFor made request part
append_answers law file inputs made m (Piece p n ghosts) parts part fits given gives =
    let whole = joined_mesh made made.whole refl (appended (meshes_in (wholes inputs)))
    (row_made settings.Append inputs made.whole m.exact) in
    law file inputs made m p n ghosts parts part
    (subst (λ e. Fits e (Piece p n ghosts)) whole fits) gives given
append_answers law file inputs made m (Block out) parts part fits given gives =
    let whole = joined_mesh made made.whole refl (appended (meshes_in (wholes inputs)))
    (row_made settings.Append inputs made.whole m.exact) in
    absurd (subst (λ e. Fits e (Block out)) whole fits)
