-- Parts of a node for the requests of an update are all parts of what the node gives.
use Rattle.std.proofs.Common.{◌≡◌, ℕ, zero, suc, ◌+◌, ◌<◌, List, [], ◌∷◌, ◌++◌, length, map, Option, None, Some, Ok, refl, sym, subst, ◌∙◌, ap, arith, slice_index_or}
use Rattle.std.proofs.lemmas.List.Elements.{All-head, All-tail}
use Rattle.std.proofs.lemmas.List.FromFn.{get_or-map-range_with_len, length-map-range_with_len}
use Rattle.std.proofs.lemmas.Slice.Zip.{AllZip-long}
use Rattle.std.specs.List.{All, AllZip, flat_map, range_with_len}
use Rattle.std.specs.Option.{option_to_list}
use Rattle.viz_dataset.specs.Images.{ImageData}
use Rattle.viz_dataset.specs.declared.dataset.Dataset.{Dataset}
use Rattle.viz_dataset.specs.declared.dataset.Dataset.TheVariants.{Image as OfImage, Mesh as OfMesh}
use Rattle.viz_extent.specs.Extent.{Bounds}
use Rattle.viz_extent.specs.Slabs.{slab_of}
use Rattle.viz_network.specs.Cone.{Tree, cone_of}
use Rattle.viz_node_division.specs.Divided.{IsDivided}
use Rattle.viz_node_division.specs.Exact.{ExactRule}
use Rattle.viz_node_division.specs.Laws.{DividedAreExact, DivisionsAreOne, DivisionsShareOut}
use Rattle.viz_node_meaning.specs.Fold.{IsGiven}
use Rattle.viz_node_meaning.specs.declared.information.Information.{Information}
use Rattle.viz_node_meaning.specs.declared.information.Information.TheVariants as told
use Rattle.viz_node_meaning.specs.declared.information.Grid.{Grid}
use Rattle.viz_node_meaning.specs.Information.{InformationRule}
use Rattle.viz_parts.specs.Pieces.{Division, IsAnswer, IsImageBlock, IsMeshPiece, SharesOut}
use Rattle.viz_parts.specs.Stitching.{AreAllOf, slabs_in}
use Rattle.viz_parts.specs.declared.request.Part.{Part}
use Rattle.viz_parts.specs.declared.request.Request.{Request}
use Rattle.viz_parts.specs.declared.request.Request.TheVariants.{Block, Piece}
use Rattle.viz_plan_law.specs.Cutting.{IsExactPart}
use Rattle.viz_plan_law.specs.Fitting.{IsExtentTold}
use Rattle.viz_plan_law.specs.Told.{ToldExtentsAreOwn, ToldMeshesAreGiven}
use Rattle.viz_requests.specs.Shapes.{requests_of, slab_request}
use Rattle.viz_plan.specs.Sites.{known_in}
use Rattle.viz_plan.specs.Told.{extent_told}
use Rattle.viz_sheet.specs.Sheet.{SheetData}
use Rattle.viz_task_parts.specs.Tasks.{IsUpdate}
use Rattle.viz_executive.specs.Steps.Grounds.{GroundData}
use Rattle.viz_executive.specs.Steps.Wholes.{AreAllAnswered, AreAnswered, IsAnswered, IsWhole}
use Rattle.viz_executive.specs.declared.wholes.Answered.{Answered}
use Rattle.viz_executive.proofs.UpdateLemmas.{sink_known}
use Rattle.viz_executive.proofs.ZipLemmas.{zip_map}

-- what the node at the foot of a cone gives by the exact rule, of which these are all parts
pub record HasAllParts (cone : Option Tree) (parts : List Part) : Type 0 where
  pub whole : Dataset
  pub all : AreAllOf whole parts
  pub given : IsGiven ExactRule cone (Ok whole)

-- ---- slabs

abbrev pub blocks : List Bounds → List Request
blocks bounds = map (λ b. Block b) bounds

abbrev pub asked : Bounds → ℕ → List ℕ → List Request
asked whole n ps = flat_map (λ p. slab_request (slab_of p n whole)) ps

abbrev pub slabs : Bounds → ℕ → List ℕ → List Bounds
slabs whole n ps = flat_map (λ p. option_to_list (slab_of p n whole)) ps

slab_more : (o : Option Bounds) (rs : List Request) (bs : List Bounds) → rs ≡ blocks bs
    → slab_request o ++ rs ≡ blocks (option_to_list o ++ bs)
slab_more None rs bs e = e
slab_more (Some b) rs bs e = ap (λ l. Block b ∷ l) e

pub slabs_are : (whole : Bounds) (n : ℕ) (ps : List ℕ) → asked whole n ps ≡ blocks (slabs whole n ps)
slabs_are whole n [] = refl
slabs_are whole n (p ∷ ps) =
    slab_more (slab_of p n whole) (asked whole n ps) (slabs whole n ps) (slabs_are whole n ps)

module _ (one : DivisionsAreOne) (exact : DividedAreExact) (shares : DivisionsShareOut)
    (extents : ToldExtentsAreOwn) (meshes : ToldMeshesAreGiven) (cone : Option Tree) where
  abbrev Has : Request → Part → Type 0
  Has request part = IsExactPart cone request part

  -- a part is one of the dataset that the node gives, as it is shared out
  same_whole : (whole : Dataset) (division : Division) → IsDivided cone whole division
      → (request : Request) (part : Part) → Has request part
      → IsAnswer whole division request part
  same_whole whole division d request part h =
      let same = one cone h.whole whole h.one.division division h.one.divided d in
      subst (λ w. IsAnswer w division request part) same.0
      (subst (λ v. IsAnswer h.whole v request part) same.1 h.one.answers)

  -- ---- images

  blocks_zip : (image : ImageData) (division : Division) → IsDivided cone (OfImage image) division
      → (bounds : List Bounds) (parts : List Part) → AllZip Has (map (λ b. Block b) bounds) parts
      → AllZip (IsImageBlock image) bounds parts
  blocks_zip image division d [] [] z = tt
  blocks_zip image division d [] (x ∷ parts) z = absurd z
  blocks_zip image division d (b ∷ bounds) [] z = absurd z
  blocks_zip image division d (b ∷ bounds) (x ∷ parts) z = (
    same_whole (OfImage image) division d (Block b) x z.0,
    blocks_zip image division d bounds parts z.1,
  )

  some_slabs : (n : ℕ) (whole : Bounds) → 0 < length (requests_of (Some whole) n) → 0 < n
  some_slabs zero whole l = absurd (omega (arith, l))
  some_slabs (suc n) whole l = omega arith

  -- ---- meshes

  piece_at : (n : ℕ) (parts : List Part) → AllZip Has (requests_of None n) parts → (p : ℕ)
      (part : Part) → p < n → Has (Piece p n 0) (slice_index_or parts p part)
  piece_at n parts z p part l =
      let rs = requests_of None n in
      let none = Piece p n 0 in
      let at : 0 + p ≡ p = omega arith in
      subst (λ r. Has r (slice_index_or parts p part))
      (get_or-map-range_with_len (λ p. Piece p n 0) 0 n p p none l at)
      (zip_at rs parts z p none part (omega (arith, l, length-map-range_with_len (λ p. Piece p n 0) 0 n)))
    where
      zip_at : (rs : List Request) (parts : List Part) → AllZip Has rs parts → (i : ℕ) (r : Request)
          (part : Part) → i < length rs → Has (slice_index_or rs i r) (slice_index_or parts i part)
      zip_at [] parts z i r part l = absurd (omega (arith, l))
      zip_at (x ∷ rs) [] z i r part l = absurd z
      zip_at (x ∷ rs) (y ∷ parts) z zero r part l = z.0
      zip_at (x ∷ rs) (y ∷ parts) z (suc i) r part l = zip_at rs parts z.1 i r part (omega (arith, l))

  some_part : (rs : List Request) (parts : List Part) → AllZip Has rs parts → 0 < length rs
      → (r : Request) × (p : Part) × Has r p
  some_part [] parts z l = absurd (omega (arith, l))
  some_part (r ∷ rs) [] z l = absurd z
  some_part (r ∷ rs) (p ∷ parts) z l = (r, p, z.0)

  -- ---- both

  image_parts : (g : Grid) (n : ℕ) (parts : List Part) → AllZip Has (requests_of (Some g.extent) n) parts
      → 0 < n → (image : ImageData) (division : Division) → IsDivided cone (OfImage image) division
      → image.extent ≡ g.extent → HasAllParts cone parts
  image_parts g n parts z some image division d same = record {
    whole = OfImage image;
    all = record {
      slabs = n;
      some = some;
      each = subst (λ e. AllZip (IsImageBlock image) (slabs_in n e) parts) (sym same)
          (blocks_zip image division d (slabs_in n g.extent) parts
          (subst (λ rs. AllZip Has rs parts) (slabs_are g.extent n (range_with_len 0 n)) z));
    };
    given = exact cone (OfImage image) division d;
  }

  mesh_parts : (n : ℕ) (parts : List Part) → AllZip Has (requests_of None n) parts → 0 < n
      → (sheets : List SheetData) (division : Division) → IsDivided cone (OfMesh sheets) division
      → HasAllParts cone parts
  mesh_parts n parts z some sheets division d =
      let many : n ≡ length parts = sym (AllZip-long Has (requests_of None n) parts z
      ∙ length-map-range_with_len (λ p. Piece p n 0) 0 n) in
      record {
        whole = OfMesh sheets;
        all = record {
          division = division;
          ghosts = λ p. 0;
          some = omega (arith, many, some);
          shared = subst (λ m. SharesOut division sheets m) many
              (shares cone sheets division d n some);
          each = λ p part l.
              subst (λ m. IsMeshPiece sheets (division p m) 0 (slice_index_or parts p part)) many
              (piece p part (omega (arith, l, many)));
        };
        given = exact cone (OfMesh sheets) division d;
      }
    where
      piece : (p : ℕ) (part : Part) → p < n
          → IsMeshPiece sheets (division p n) 0 (slice_index_or parts p part)
      piece p part l =
          (same_whole (OfMesh sheets) division d (Piece p n 0) (slice_index_or parts p part)
          (piece_at n parts z p part l)).1

  pub by_information : (i : Information) → IsGiven InformationRule cone (Ok i) → (own : Option Bounds)
      → IsExtentTold own i → (n : ℕ) (parts : List Part) → AllZip Has (requests_of own n) parts
      → 0 < length (requests_of own n) → HasAllParts cone parts
  by_information (told.OfImage g) given own e n parts z l =
      let some = some_part (requests_of own n) parts z l in
      let h = some.2 in
      let d = h.one.divided in
      let is = extents cone g h.whole given (exact cone h.whole h.one.division d) in
      image_parts g n parts (subst (λ o. AllZip Has (requests_of o n) parts) e z)
      (some_slabs n g.extent (subst (λ o. 0 < length (requests_of o n)) e l))
      is.0 h.one.division (subst (λ w. IsDivided cone w h.one.division) is.1 d) is.2
  by_information told.OfMesh given own e n parts z l =
      let some = some_part (requests_of own n) parts z l in
      let h = some.2 in
      let d = h.one.divided in
      let is = meshes cone h.whole given (exact cone h.whole h.one.division d) in
      mesh_parts n parts (subst (λ o. AllZip Has (requests_of o n) parts) e z)
      (few n (subst (λ o. 0 < length (requests_of o n)) e l))
      is.0 h.one.division (subst (λ w. IsDivided cone w h.one.division) is.1 d)
    where
      few : (n : ℕ) → 0 < length (requests_of None n) → 0 < n
      few n l = omega (arith, l, length-map-range_with_len (λ p. Piece p n 0) 0 n)

-- what goes with one side of each of some items goes with the other
zip_sides : {X Y Z : Type 0} (R : Y → Z → Type 0) (f : X → Y) (h : X → Z) (xs : List X)
    → All (λ x. R (f x) (h x)) xs → AllZip R (map f xs) (map h xs)
zip_sides R f h [] all = tt
zip_sides R f h (x ∷ xs) all =
    let first = All-head (λ y. R (f y) (h y)) x xs all in
    let others = All-tail (λ y. R (f y) (h y)) x xs all in
    (first, zip_sides R f h xs others)

-- the parts that are answered are those for all of the requests
pub answered_parts : (g : GroundData) (items : List Answered) → AreAllAnswered g items
    → AreAnswered g g.requests (map (λ (a : Answered). a.part) items)
answered_parts g items h =
    subst (λ rs. AreAnswered g rs (map (λ (a : Answered). a.part) items)) h.requests
    (zip_sides (IsAnswered g) (λ (a : Answered). a.request) (λ (a : Answered). a.part) items h.each)

-- the parts of the node of an update for all of its requests
pub all_parts : DivisionsAreOne → DividedAreExact → DivisionsShareOut → ToldExtentsAreOwn
    → ToldMeshesAreGiven → (g : GroundData) → IsUpdate (known_in g.sites) g.sink g.requests
    → (n : ℕ) → g.requests ≡ requests_of (extent_told g.sites.told g.sink) n
    → 0 < length g.requests → (parts : List Part) → AreAnswered g g.requests parts
    → HasAllParts (cone_of g.sites.net g.sink) parts
all_parts one exact shares extents meshes g u n is some parts z =
    let k = known_in g.sites in
    let known = sink_known k g.sink g.requests u in
    let cone = cone_of g.sites.net g.sink in
    let own = extent_told g.sites.told g.sink in
    by_information one exact shares extents meshes cone known.information known.given own
    known.extent n parts
    (subst (λ rs. AllZip (λ r p. IsExactPart cone r p) rs parts) is
    (zip_map (IsAnswered g) (λ r p. IsExactPart cone r p) (λ r p h. h.exact) g.requests parts z))
    (subst (λ rs. 0 < length rs) is some)

pub whole_is : (g : GroundData) (parts : List Part)
    (h : HasAllParts (cone_of g.sites.net g.sink) parts) (w : Dataset) → w ≡ h.whole → IsWhole g w
whole_is g parts h w e = subst (IsWhole g) (sym e) (record { given = h.given })
