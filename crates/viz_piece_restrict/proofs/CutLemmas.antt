-- Parts of datasets cut from parts.
use Rattle.std.proofs.Common.{refl, inl, ap, ◌≡◌, ℕ, ◌<◌, ◌≤◌, Bool, List, [], length, get_or, map, sym, subst, ◌∙◌, ⊎_elim, arith}
use Rattle.std.proofs.lemmas.List.{get_or-map, length-map}
use Rattle.viz_dataset.specs.Images.{ImageData, IsImage, IsRestricted}
use Rattle.viz_dataset.specs.declared.dataset.Dataset.{Dataset}
use Rattle.viz_dataset.specs.declared.dataset.Dataset.TheVariants.{Image as WholeImage, Mesh as WholeMesh}
use Rattle.viz_extent.specs.Extent.{Bounds, Has}
use Rattle.viz_extent.specs.Parts.{IsPart}
use Rattle.viz_parts.specs.Parts.{PartSheetData}
use Rattle.viz_parts.specs.Pieces.{Covers, Division, IsAnswer, IsBlockOf, IsMeshPiece, IsPieceOf, IsSheetPart, in_turn, own_share}
use Rattle.viz_parts.specs.declared.request.Part.{Part}
use Rattle.viz_parts.specs.declared.request.Part.TheVariants.{Image, Mesh}
use Rattle.viz_parts.specs.declared.request.Request.{Request}
use Rattle.viz_parts.specs.declared.request.Request.TheVariants.{Block, Piece}
use Rattle.viz_piece_filters.specs.Filters.{trimmed_part}
use Rattle.viz_piece_filters.proofs.ChainLemmas.{trimmed_chain}
use Rattle.viz_piece_filters.proofs.OwnLemmas.{shares_are_all}
use Rattle.viz_piece_stitch.specs.Steps.Columns.{IsMesh, sheets_in}
use Rattle.viz_piece_stitch.proofs.MeshLemmas.{as_piece}
use Rattle.viz_piece_stitch.proofs.WholeLemmas.{no_part, only_is_whole}
use Rattle.viz_sheet.specs.Sheet.{SheetData}
use Rattle.viz_piece_restrict.specs.Restricting.{IsRestriction, IsSamePiece, IsSomeAnswer, LetsRestrict}
use Rattle.viz_piece_restrict.specs.Steps.Cuts.{ArePieces, AreWholes, all_own}

-- ---- images

part-trans : (a b c : Bounds) → IsPart a b → IsPart b c → IsPart a c
part-trans a b c h k = record {
  x = record { first = omega (arith, h.x.first, k.x.first); last = omega (arith, h.x.last, k.x.last) };
  y = record { first = omega (arith, h.y.first, k.y.first); last = omega (arith, h.y.last, k.y.last) };
  z = record { first = omega (arith, h.z.first, k.z.first); last = omega (arith, h.z.last, k.z.last) };
}

part-has : (a b : Bounds) (i j k : ℕ) → IsPart a b → Has b i j k → Has a i j k
part-has a b i j k h at = record {
  x = record { at_least = omega (arith, h.x.first, at.x.at_least); at_most = omega (arith, h.x.last, at.x.at_most) };
  y = record { at_least = omega (arith, h.y.first, at.y.at_least); at_most = omega (arith, h.y.last, at.y.at_most) };
  z = record { at_least = omega (arith, h.z.first, at.z.at_least); at_most = omega (arith, h.z.last, at.z.at_most) };
}

-- a block of a block
block-of : (whole : ImageData) (kept wanted : Bounds) (image cut : ImageData) → IsPart kept wanted → IsBlockOf whole kept image → IsRestricted image wanted cut → IsImage cut → IsBlockOf whole wanted cut
block-of whole kept wanted image cut part h r valid = record {
  whole_is = h.whole_is;
  part_is = valid;
  within = part-trans whole.extent kept wanted h.within part;
  same = record {
    extent = r.extent;
    origin = r.origin ∙ h.same.origin;
    spacing = r.spacing ∙ h.same.spacing;
    kind = r.kind ∙ h.same.kind;
    values = λ i j k at. r.values i j k at ∙ h.same.values i j k (part-has kept wanted i j k part at);
  };
}

pub image-cut : (kept : Request) (block : Bounds) (image cut : ImageData) → Covers kept (Block block) → IsRestricted image block cut → IsImage cut → IsRestriction kept (Block block) (Image image) (Image cut)
image-cut (Piece p n ghosts) block image cut covers r valid = absurd covers
image-cut (Block kept) block image cut covers r valid = record { answers = λ whole division lets is. by_whole whole division is }
  where
    by_whole : (whole : Dataset) (division : Division) → IsAnswer whole division (Block kept) (Image image) → IsAnswer whole division (Block block) (Image cut)
    by_whole (WholeImage whole) division is = block-of whole kept block image cut covers is r valid
    by_whole (WholeMesh sheets) division is = absurd is

-- ---- meshes

-- a piece, by its sheets
to_piece : (sheets : List SheetData) (owns : List (List Bool)) (ghosts : ℕ) (part : Part) → IsMesh part → IsPieceOf sheets owns ghosts (sheets_in part) → IsMeshPiece sheets owns ghosts part
to_piece sheets owns ghosts (Image image) mesh h = absurd mesh
to_piece sheets owns ghosts (Mesh parts) mesh h = h

-- fewer ghost levels
trimmed-piece : (sheets : List SheetData) (owns : List (List Bool)) (more ghosts : ℕ) (parts : List PartSheetData) → ghosts ≤ more → IsPieceOf sheets owns more parts → IsPieceOf sheets owns ghosts (map (trimmed_part ghosts) parts)
trimmed-piece sheets owns more ghosts parts less h = record {
  matched = length-map parts (trimmed_part ghosts) ∙ h.matched;
  owned = h.owned;
  each = λ k s d l.
      subst (IsSheetPart (get_or sheets k s) (get_or owns k []) ghosts) (sym (get_or-map (trimmed_part ghosts) parts k no_part d (omega (arith, l, h.matched))))
      (trimmed_chain more (get_or sheets k s) (get_or owns k []) ghosts (get_or parts k no_part) less (h.each k s no_part l));
}

pub trimmed-cut : (kept : Request) (p n ghosts : ℕ) (part cut : Part) → IsSamePiece kept (Piece p n ghosts) → IsMesh cut → sheets_in cut ≡ map (trimmed_part ghosts) (sheets_in part) → IsRestriction kept (Piece p n ghosts) part cut
trimmed-cut (Block block) p n ghosts part cut same mesh is = absurd same
trimmed-cut (Piece q m more) p n ghosts part cut same mesh is = record { answers = λ whole division lets h. by_whole whole division h }
  where
    by_piece : (sheets : List SheetData) (division : Division) → (q < m) × IsMeshPiece sheets (division q m) more part → (q < m) × IsMeshPiece sheets (division q m) ghosts cut
    by_piece sheets division h = (
      h.0,
      to_piece sheets (division q m) ghosts cut mesh
          (subst (IsPieceOf sheets (division q m) ghosts) (sym is) (trimmed-piece sheets (division q m) more ghosts (sheets_in part) same.2 (as_piece sheets (division q m) more part h.1))),
    )

    by_whole : (whole : Dataset) (division : Division) → IsAnswer whole division (Piece q m more) part → IsAnswer whole division (Piece p n ghosts) cut
    by_whole (WholeImage whole) division h = absurd h
    by_whole (WholeMesh sheets) division h =
        subst (λ x. (x < n) × IsMeshPiece sheets (division x n) ghosts cut) (sym same.0)
        (subst (λ y. (q < y) × IsMeshPiece sheets (division q y) ghosts cut) (sym same.1) (by_piece sheets division h))

-- the only piece, by cells in turn, has each sheet as it is
module _ (sheets : List SheetData) (more : ℕ) (parts : List PartSheetData) (h : IsPieceOf sheets (in_turn sheets 0 1) more parts) where
  own-in_turn : (p n k : ℕ) (s : SheetData) → k < length sheets → get_or (in_turn sheets p n) k [] ≡ own_share p n (length (get_or sheets k s).cells)
  own-in_turn p n k s l = get_or-map (λ (u : SheetData). own_share p n (length u.cells)) sheets k s [] l

  sheet-is : (k : ℕ) (s : SheetData) (d : PartSheetData) → k < length sheets → (get_or parts k d).sheet ≡ get_or sheets k s
  sheet-is k s d l =
      let whole = get_or sheets k s in
      only_is_whole whole (own_share 0 1 (length whole.cells)) more (get_or parts k d)
      (subst (λ own. IsSheetPart whole own more (get_or parts k d)) (own-in_turn 0 1 k s l) (h.each k s d l))
      (shares_are_all 1 (length whole.cells) (omega arith))

  -- so pieces of its sheets are pieces of the mesh
  pub turn-piece : (p n ghosts : ℕ) (cuts : List PartSheetData) → ArePieces p n ghosts (length parts) parts cuts → IsPieceOf sheets (in_turn sheets p n) ghosts cuts
  turn-piece p n ghosts cuts are = record {
    matched = are.size ∙ h.matched;
    owned = length-map sheets (λ (u : SheetData). own_share p n (length u.cells));
    each = λ k s d l.
        subst (λ own. IsSheetPart (get_or sheets k s) own ghosts (get_or cuts k d)) (sym (own-in_turn p n k s l))
        (subst (λ (u : SheetData). IsSheetPart u (own_share p n (length u.cells)) ghosts (get_or cuts k d)) (sheet-is k s d l)
        (are.each k d (omega (arith, l, h.matched))));
  }

pub pieces-cut : (kept : Request) (p n ghosts : ℕ) (part cut : Part) → Covers kept (Piece p n ghosts) → p < n → (IsSamePiece kept (Piece p n ghosts) → ⊥) → IsMesh cut
    → ArePieces p n ghosts (length (sheets_in part)) (sheets_in part) (sheets_in cut) → IsRestriction kept (Piece p n ghosts) part cut
pieces-cut (Block block) p n ghosts part cut covers one other mesh are = absurd covers
pieces-cut (Piece q m more) p n ghosts part cut covers one other mesh are = record { answers = by_whole }
  where
    only : (q ≡ 0) × (m ≡ 1)
    only = ⊎_elim (λ is. is) (λ same. absurd (other same)) covers

    by_turn : (sheets : List SheetData) (division : Division) → division q m ≡ in_turn sheets q m → division p n ≡ in_turn sheets p n
        → IsMeshPiece sheets (division q m) more part → IsMeshPiece sheets (division p n) ghosts cut
    by_turn sheets division kept_turn turn h =
        let whole : IsPieceOf sheets (in_turn sheets q m) more (sheets_in part) = as_piece sheets (in_turn sheets q m) more part (subst (λ owns. IsMeshPiece sheets owns more part) kept_turn h) in
        let whole_one : IsPieceOf sheets (in_turn sheets 0 1) more (sheets_in part) =
        subst (λ x. IsPieceOf sheets (in_turn sheets x 1) more (sheets_in part)) only.0
        (subst (λ y. IsPieceOf sheets (in_turn sheets q y) more (sheets_in part)) only.1 whole) in
        to_piece sheets (division p n) ghosts cut mesh
        (subst (λ owns. IsPieceOf sheets owns ghosts (sheets_in cut)) (sym turn) (turn-piece sheets more (sheets_in part) whole_one p n ghosts (sheets_in cut) are))

    by_whole : (whole : Dataset) (division : Division) → LetsRestrict whole division (Piece q m more) (Piece p n ghosts) → IsAnswer whole division (Piece q m more) part → IsAnswer whole division (Piece p n ghosts) cut
    by_whole (WholeImage whole) division lets h = absurd h
    by_whole (WholeMesh sheets) division lets h = (one, ⊎_elim (λ same. absurd (other same)) (λ turns. by_turn sheets division turns.0 turns.1 h.1) lets)

-- ---- what is cut is a part of some dataset

pub some-image : (kept : Request) (block : Bounds) (image : ImageData) (cut : Part) → IsSomeAnswer kept (Image image) → IsRestriction kept (Block block) (Image image) cut → IsSomeAnswer (Block block) cut
some-image kept block image cut some is = record {
  whole = some.whole;
  division = some.division;
  answers = is.answers some.whole some.division (lets some.whole kept some.answers) some.answers;
}
  where
    lets : (whole : Dataset) (r : Request) → IsAnswer whole some.division r (Image image) → LetsRestrict whole some.division r (Block block)
    lets (WholeImage whole) r h = tt
    lets (WholeMesh sheets) (Block b) h = absurd h
    lets (WholeMesh sheets) (Piece p n ghosts) h = absurd h.1

pub some-trimmed : (kept wanted : Request) (part cut : Part) → IsSomeAnswer kept part → IsSamePiece kept wanted → IsRestriction kept wanted part cut → IsSomeAnswer wanted cut
some-trimmed kept wanted part cut some same is = record {
  whole = some.whole;
  division = some.division;
  answers = is.answers some.whole some.division (lets some.whole) some.answers;
}
  where
    lets : (whole : Dataset) → LetsRestrict whole some.division kept wanted
    lets (WholeImage whole) = tt
    lets (WholeMesh sheets) = inl same

-- pieces by cells in turn are those of the mesh of these sheets
pub some-pieces : (p n ghosts : ℕ) (parts : List PartSheetData) (cut : Part) → p < n → IsMesh cut → ArePieces p n ghosts (length parts) parts (sheets_in cut) → IsSomeAnswer (Piece p n ghosts) cut
some-pieces p n ghosts parts cut one mesh are =
    let sheets : List SheetData = map (λ (u : PartSheetData). u.sheet) parts in
    record {
      whole = WholeMesh sheets;
      division = in_turn sheets;
      answers = (
        one,
        to_piece sheets (in_turn sheets p n) ghosts cut mesh (record {
          matched = are.size ∙ sym (length-map parts (λ (u : PartSheetData). u.sheet));
          owned = length-map sheets (λ (u : SheetData). own_share p n (length u.cells));
          each = λ k s d l.
              let b : k < length parts = omega (arith, l, length-map parts (λ (u : PartSheetData). u.sheet)) in
              subst (λ own. IsSheetPart (get_or sheets k s) own ghosts (get_or (sheets_in cut) k d)) (sym (get_or-map (λ (u : SheetData). own_share p n (length u.cells)) sheets k s [] l))
              (subst (λ (u : SheetData). IsSheetPart u (own_share p n (length u.cells)) ghosts (get_or (sheets_in cut) k d)) (sym (get_or-map (λ (u : PartSheetData). u.sheet) parts k d s b))
              (are.each k d b));
        }),
      );
    }

-- ---- all of a dataset

pub image-is : (image : ImageData) (division : Division) → IsImage image → IsAnswer (WholeImage image) division (Block image.extent) (Image image)
image-is image division h = record {
  whole_is = h;
  part_is = h;
  within = record {
    x = record { first = omega arith; last = omega arith };
    y = record { first = omega arith; last = omega arith };
    z = record { first = omega arith; last = omega arith };
  };
  same = record { extent = refl; origin = refl; spacing = refl; kind = refl; values = λ i j k at. refl };
}

pub some-whole_image : (image : ImageData) → IsImage image → IsSomeAnswer (Block image.extent) (Image image)
some-whole_image image h = record { whole = WholeImage image; division = λ p n. []; answers = image-is image (λ p n. []) h }

pub mesh-is : (sheets : List SheetData) (part : Part) → IsMesh part → AreWholes sheets (sheets_in part) → IsAnswer (WholeMesh sheets) (in_turn sheets) (Piece 0 1 0) part
mesh-is sheets part mesh are = (
  omega arith,
  to_piece sheets (in_turn sheets 0 1) 0 part mesh (record {
    matched = ap length are.value ∙ length-map sheets all_own;
    owned = length-map sheets (λ (u : SheetData). own_share 0 1 (length u.cells));
    each = λ k s d l.
        subst (λ own. IsSheetPart (get_or sheets k s) own 0 (get_or (sheets_in part) k d)) (sym (get_or-map (λ (u : SheetData). own_share 0 1 (length u.cells)) sheets k s [] l))
        (subst (λ (p : PartSheetData). IsSheetPart (get_or sheets k s) (own_share 0 1 (length (get_or sheets k s).cells)) 0 p)
        (sym (ap (λ ps. get_or ps k d) are.value ∙ get_or-map all_own sheets k s d l))
        (are.parts_are k s l));
  }),
)

pub some-whole_mesh : (sheets : List SheetData) (part : Part) → IsMesh part → AreWholes sheets (sheets_in part) → IsSomeAnswer (Piece 0 1 0) part
some-whole_mesh sheets part mesh are = record { whole = WholeMesh sheets; division = in_turn sheets; answers = mesh-is sheets part mesh are }
