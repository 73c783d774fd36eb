-- Parts of what a node gives are cut to parts of it.
use Rattle.std.proofs.Common.{
  ◌≡◌,
  ◌⊎◌,
  ℕ,
  ◌-◌,
  ◌≤◌,
  Bool,
  true,
  false,
  List,
  [],
  ◌∷◌,
  ◌++◌,
  length,
  map,
  replicate,
  append-nil,
  Option,
  None,
  Some,
  refl,
  sym,
  ap,
  ap₂,
  subst,
  ◌∙◌,
  inl,
  inr,
  arith,
}
use Rattle.std.specs.Option.{option_map}
use Rattle.viz_dataset.specs.declared.dataset.Dataset.{Dataset}
use Rattle.viz_dataset.specs.declared.dataset.Dataset.TheVariants.{Image, Mesh}
use Rattle.viz_extent.specs.Extent.{Bounds}
use Rattle.viz_extent.proofs.SlabLemmas.{first_begins, last_ends}
use Rattle.viz_kept.specs.True.{IsDatasetPart}
use Rattle.viz_kinds.specs.declared.settings.Settings.{Settings}
use Rattle.viz_kinds.specs.declared.settings.Settings.TheVariants as settings
use Rattle.viz_network.specs.Cone.{Cone, Tree, above, cone_of, grow}
use Rattle.viz_network.specs.Network.{Network, node_of}
use Rattle.viz_network.specs.declared.node.Node.{Node}
use Rattle.viz_network.proofs.TaleLemmas.{node_id}
use Rattle.viz_node_division.specs.Divided.{Divided, IsDivided, division_of, turn_of}
use Rattle.viz_node_division.specs.Laws.{DividedByPorts, OnlyPieceOwnsAll}
use Rattle.viz_node_division.specs.Shares.{all_own}
use Rattle.viz_node_meaning.specs.Rules.{Inputs}
use Rattle.viz_parts.specs.Pieces.{Covers, Division, IsAnswer, in_turn, own_range, own_share}
use Rattle.viz_parts.specs.declared.request.Part.{Part}
use Rattle.viz_parts.specs.declared.request.Request.{Request}
use Rattle.viz_parts.specs.declared.request.Request.TheVariants.{Block, Piece}
use Rattle.viz_piece_restrict.specs.Restricting.{IsOneOfMany, IsRestriction, LetsRestrict}
use Rattle.viz_plan_meaning.specs.Known.{Known, tree_widened}
use Rattle.viz_requests.specs.Serving.{serves}
use Rattle.viz_requests.specs.Upstream.{Fits, all_of, widened}
use Rattle.viz_sheet.specs.Sheet.{SheetData}
use Rattle.viz_plan_law.specs.Cutting.{
  CanBeCut,
  IsExactPart,
  NodePartsAreExact,
  PartsOfKnownAreCut,
  PartsOfWidenedAreCut,
  PartsThatServeAreCut,
  ServedPartsAreCut,
}
use Rattle.viz_plan_law.proofs.ServeLemmas.{
  PieceServes,
  all_covers,
  fits_one,
  piece_serves,
  served_covers,
}

-- ---- the only piece

-- in turn it owns all cells of a sheet
own_all : (n : ℕ) → own_share 0 1 n ≡ replicate n true
own_all n =
    ap₂ (own_range n) (first_begins 1 n (omega arith)) (last_ends 1 n (omega arith))
    ∙ ap₂ (λ (a b : ℕ). replicate 0 false ++ (replicate a true ++ replicate b false))
    {x = n - 0} {y = n} {u = n - n} {v = 0} (omega arith) (omega arith)
    ∙ append-nil (replicate n true)

-- and of all sheets
turn_all : (sheets : List SheetData) → map all_own sheets ≡ in_turn sheets 0 1
turn_all [] = refl
turn_all (s ∷ sheets) =
    ap₂ (λ (x : List Bool) (xs : List (List Bool)). x ∷ xs) (sym (own_all (length s.cells)))
    (turn_all sheets)

only_turn : (sheets : List SheetData) (division : Division) (p n : ℕ)
    → division 0 1 ≡ map all_own sheets → p ≡ 0 → n ≡ 1 → division p n ≡ in_turn sheets p n
only_turn sheets division p n all e f =
    ap₂ division e f ∙ all ∙ turn_all sheets ∙ ap₂ (in_turn sheets) (sym e) (sym f)

-- ---- what a division lets be cut

piece_lets : (sheets : List SheetData) (division : Division) (p n ghosts q m fewer : ℕ)
    → division 0 1 ≡ map all_own sheets → IsOneOfMany (Piece q m fewer)
    → PieceServes p n ghosts q m fewer → (fewer ≤ ghosts) ⊎ (n ≡ 1)
    → LetsRestrict (Mesh sheets) division (Piece p n ghosts) (Piece q m fewer)
piece_lets sheets division p n ghosts q m fewer all one s (inl l) =
    inl (sym s.same, sym s.number, l)
piece_lets sheets division p n ghosts q m fewer all one s (inr e) =
    let number : m ≡ 1 = sym s.number ∙ e in
    let first : q ≡ 0 = omega (arith, one, number) in
    inr (
      only_turn sheets division p n all (s.same ∙ first) e,
      only_turn sheets division q m all first number,
    )

module _ (only : OnlyPieceOwnsAll) where
  pub served_lets : ServedPartsAreCut
  served_lets foot (Image image) division kept wanted part d a one h = tt
  served_lets foot (Mesh sheets) division (Block b) wanted part d a one h = absurd a
  served_lets foot (Mesh sheets) division (Piece p n ghosts) (Block b) part d a one h =
      let bad : ⊥ = cc in absurd bad
  served_lets foot (Mesh sheets) division (Piece p n ghosts) (Piece q m fewer) part d a one h =
      let s = piece_serves p n ghosts q m fewer h in
      piece_lets sheets division p n ghosts q m fewer (only foot sheets division d) one s s.levels

-- ---- parts that are cut

-- a part of a dataset that lets it be cut
cut_of : (cone : Option Tree) (kept wanted : Request) (part : Part)
    → IsExactPart cone kept part → Covers kept wanted → IsOneOfMany wanted
    → ((whole : Dataset) (division : Division) → IsDivided cone whole division
    → IsAnswer whole division kept part → LetsRestrict whole division kept wanted)
    → CanBeCut cone kept wanted part
cut_of foot kept wanted part is covers counted lets = record {
  covers = covers;
  counted = counted;
  answers = record {
    whole = is.whole;
    division = is.one.division;
    answers = is.one.answers;
  };
  exact = λ cut r. record { whole = is.whole; one = one is.whole is.one cut r };
  gives = λ cut r n. record { whole = n.whole; given = n.given; one = one n.whole n.one cut r };
}
  where
    one : (whole : Dataset) → IsDatasetPart foot whole kept part → (cut : Part)
        → IsRestriction kept wanted part cut → IsDatasetPart foot whole wanted cut
    one whole h cut r = record {
      division = h.division;
      divided = h.divided;
      answers =
          r.answers whole h.division (lets whole h.division h.divided h.answers) h.answers;
    }

pub node_exact : NodePartsAreExact
node_exact cone request part is = record { whole = is.whole; one = is.one }

module _ (only : OnlyPieceOwnsAll) where
  pub served_cut : PartsThatServeAreCut
  served_cut cone kept wanted part is one h =
      cut_of cone kept wanted part is (served_covers kept wanted one h) one
      (λ w d v a. served_lets only cone w d kept wanted part v a one h)

-- ---- nodes that make all

-- a node makes all of a dataset, in turn, or what it is asked for
abbrev MakesInTurn : Settings → Option Bounds → Request → Type 0
MakesInTurn s own wanted =
    (widened s own wanted ≡ all_of own)
    × ((inputs : Inputs Divided) (made : Dataset) → division_of s inputs made ≡ turn_of made)

makes_either : (s : Settings) (own : Option Bounds) (wanted : Request)
    → MakesInTurn s own wanted ⊎ (widened s own wanted ≡ wanted)
makes_either (settings.File array unit) own wanted = inl (refl, λ inputs made. refl)
makes_either (settings.Crop x0 x1 y0 y1 z0 z1) own wanted = inr refl
makes_either (settings.Sample x y z) own wanted = inr refl
makes_either (settings.Threshold lo hi) own wanted = inr refl
makes_either (settings.Smooth radius) own wanted = inr refl
makes_either (settings.Arith op) own wanted = inr refl
makes_either settings.Tets own wanted = inr refl
makes_either (settings.Select lo hi all) own wanted = inr refl
makes_either (settings.Contour count levels) own wanted = inr refl
makes_either (settings.Cut a b c r) own wanted = inr refl
makes_either settings.Append own wanted = inr refl
makes_either settings.Boundary own wanted = inr refl
makes_either settings.Merge own wanted = inl (refl, λ inputs made. refl)
makes_either (settings.Writer binary digits version) own wanted = inr refl

-- a division in turn lets each part of all be cut
turn_lets : (whole : Dataset) (division : Division) (own : Option Bounds)
    (kept wanted : Request) (part : Part)
    → division ≡ turn_of whole → IsAnswer whole division kept part → Fits own wanted
    → serves kept (all_of own) ≡ true → LetsRestrict whole division kept wanted
turn_lets (Image image) division own kept wanted part t a f h = tt
turn_lets (Mesh sheets) division own (Block b) wanted part t a f h = absurd a
turn_lets (Mesh sheets) division (Some whole) (Piece p n ghosts) wanted part t a f h =
    let bad : ⊥ = cc in absurd bad
turn_lets (Mesh sheets) division None (Piece p n ghosts) (Block b) part t a f h = absurd f
turn_lets (Mesh sheets) division None (Piece p n ghosts) (Piece q m fewer) part t a f h =
    inr (ap (λ (d : Division). d p n) t, ap (λ (d : Division). d q m) t)

module _ (only : OnlyPieceOwnsAll) (ports : DividedByPorts) where
  -- what it makes is divided in turn
  turned : (n : Node) (cone : Cone) (whole : Dataset) (division : Division)
      → ((inputs : Inputs Divided) (made : Dataset)
      → division_of n.settings inputs made ≡ turn_of made)
      → IsDivided (Some (n, cone)) whole division → division ≡ turn_of whole
  turned n cone whole division in_turn d =
      let foot = (ports n cone whole division).0 d in
      foot.made.divided ∙ in_turn foot.inputs whole

  by_kind : (n : Node) (cone : Cone) (own : Option Bounds) (kept wanted : Request) (part : Part)
      → IsExactPart (Some (n, cone)) kept part → Fits own wanted
      → serves kept (widened n.settings own wanted) ≡ true
      → MakesInTurn n.settings own wanted ⊎ (widened n.settings own wanted ≡ wanted)
      → CanBeCut (Some (n, cone)) kept wanted part
  by_kind n cone own kept wanted part is f h (inl all) =
      let served = subst (λ (r : Request). serves kept r ≡ true) all.0 h in
      cut_of (Some (n, cone)) kept wanted part is (all_covers own kept wanted f served)
      (fits_one own wanted f)
      (λ w d v a. turn_lets w d own kept wanted part (turned n cone w d all.1 v) a f served)
  by_kind n cone own kept wanted part is f h (inr same) =
      served_cut only (Some (n, cone)) kept wanted part is (fits_one own wanted f)
      (subst (λ (r : Request). serves kept r ≡ true) same h)

  pub widened_cut : PartsOfWidenedAreCut
  widened_cut n cone own kept wanted part is f h =
      by_kind n cone own kept wanted part is f h (makes_either n.settings own wanted)

  -- ---- nodes of a network

  foot_of : (net : Network) (id : ℕ) (n : Node) (t : Tree) → node_of net id ≡ Some n
      → Some (n, grow (above 255 net) n.inputs) ≡ Some t → t.0.id.0 ≡ id
  foot_of net id n t there e =
      let same : (n, grow (above 255 net) n.inputs) ≡ t = cc in
      ap (λ (z : Tree). z.0.id.0) (sym same) ∙ node_id net id n there

  -- the node at the foot of a cone is the one whose cone it is
  foot_is : (net : Network) (id : ℕ) (t : Tree) → cone_of net id ≡ Some t → t.0.id.0 ≡ id
  foot_is net id t e = by (node_of net id) refl e
    where
      by : (o : Option Node) → node_of net id ≡ o
          → option_map (λ (n : Node). (n, grow (above 255 net) n.inputs)) o ≡ Some t
          → t.0.id.0 ≡ id
      by None there q = (let bad : ⊥ = cc in absurd bad)
      by (Some n) there q = foot_of net id n t there q

  at_foot : (k : Known) (id : ℕ) (kept wanted : Request) (part : Part) (t : Option Tree)
      → cone_of k.net id ≡ t → IsExactPart t kept part → Fits (k.extent id) wanted
      → serves kept (tree_widened k t wanted) ≡ true → CanBeCut t kept wanted part
  at_foot k id kept wanted part None e is f h = absurd is.one.divided.given
  at_foot k id kept wanted part (Some t) e is f h =
      widened_cut t.0 t.1 (k.extent t.0.id.0) kept wanted part is
      (subst (λ (x : ℕ). Fits (k.extent x) wanted) (sym (foot_is k.net id t e)) f) h

  pub known_cut : PartsOfKnownAreCut
  known_cut k id kept wanted part is f h =
      at_foot k id kept wanted part (cone_of k.net id) refl is f h
