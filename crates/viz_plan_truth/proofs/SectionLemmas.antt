-- A section of which all pieces are narrow.
use Rattle.std.proofs.Common.{◌≡◌, ℕ, List, [], ◌∷◌, Option, None, Some, Result, Ok, refl, sym, ap, subst, ◌∙◌}
use Rattle.viz_dataset.specs.Images.{ImageData}
use Rattle.viz_dataset.specs.declared.dataset.Dataset.{Dataset}
use Rattle.viz_dataset.specs.declared.dataset.Dataset.TheVariants.{Image, Mesh}
use Rattle.viz_fraction.specs.declared.forms.Form.{Form}
use Rattle.viz_kinds.specs.declared.settings.Settings.{Settings}
use Rattle.viz_kinds.specs.declared.settings.Settings.TheVariants as settings
use Rattle.viz_given.specs.Given.{AllAreLeveled}
use Rattle.viz_meaning.specs.Narrow.{AreNarrowSections}
use Rattle.viz_meaning.specs.Tetrahedra.{sheets_of}
use Rattle.viz_network.specs.Cone.{Cone, Tree, none, empty, fed}
use Rattle.viz_network.specs.declared.fault.Fault.{Fault}
use Rattle.viz_network.specs.declared.node.Node.{Node}
use Rattle.viz_node_division.specs.Divided.{Divided, IsDivided, wholes}
use Rattle.viz_node_division.specs.Exact.{ExactRule}
use Rattle.viz_node_division.specs.Laws.{AreDivided, DivisionsShareOut, ExactAreDivided}
use Rattle.viz_node_division.proofs.DividedLemmas.{shared_as}
use Rattle.viz_node_division.proofs.RowLemmas.{first_whole, whole_at}
use Rattle.viz_node_meaning.specs.Data.{contour_forms, cut_forms}
use Rattle.viz_node_meaning.specs.Fold.{AreGiven, IsMade, filled, joined}
use Rattle.viz_node_meaning.specs.Information.{fed_at}
use Rattle.viz_node_meaning.specs.Rules.{Inputs}
use Rattle.viz_node_narrow.specs.Nodes.{AreNarrowOf, IsNarrowAt, IsNarrowOf}
use Rattle.viz_node_narrow.specs.Pieces.{
  IsNarrowPiece,
  IsNarrowSlab,
  NarrowByPieces,
  NarrowBySlabs,
}
use Rattle.viz_node_narrow.proofs.NodeLemmas.{both_ok, rest_ok}
use Rattle.viz_parts.specs.Pieces.{Division}
use Rattle.viz_parts.specs.declared.request.Request.{Request}
use Rattle.viz_parts.specs.declared.request.Request.TheVariants.{Block, Piece}
use Rattle.viz_sheet.specs.Sheet.{SheetData}
use Rattle.viz_plan_truth.specs.Truth.{
  AreForAll,
  IsNarrowFoot,
  IsNarrowMade,
  IsNarrowPort,
  IsNarrowTask,
}
use Rattle.viz_plan_truth.proofs.FamilyLemmas.{Shown, shown_map, shown_pieces}
use Rattle.viz_plan_truth.proofs.StemLemmas.{IsForOne}

-- ---- ports

-- what feeds the ports, as it is shared out
record PortsDivided (cone : Cone) (xs : Inputs Dataset) : Type 0 where
  inputs : Inputs Divided
  divided : AreDivided cone inputs
  same : wholes inputs ≡ xs

same_inputs : (xs ys : Inputs Dataset) (r : Result (Inputs Dataset) Fault) → r ≡ Ok xs → r ≡ Ok ys
    → xs ≡ ys
same_inputs xs ys r e f = let same : xs ≡ ys = cc in same

ports_divided : ExactAreDivided → (cone : Cone) (all : Result (Inputs Dataset) Fault)
    (xs : Inputs Dataset) → all ≡ Ok xs → AreGiven ExactRule cone all → PortsDivided cone xs
ports_divided law none all xs e g =
    record { inputs = []; divided = tt; same = same_inputs [] xs all g e }
ports_divided law (empty others) all xs e g =
    let r = rest_ok g.0 xs (sym e ∙ g.2) in
    let rest = ports_divided law others g.0 r.0 r.1 g.1 in
    let is : all ≡ Ok (None ∷ r.0) = g.2 ∙ ap (joined (Ok None)) r.1 in
    record {
      inputs = None ∷ rest.inputs;
      divided = rest.divided;
      same =
          ap (λ (ys : Inputs Dataset). None ∷ ys) rest.same
          ∙ same_inputs (None ∷ r.0) xs all is e;
    }
ports_divided law (fed n own others) all xs e g =
    let b = both_ok g.1 g.2 xs (sym e ∙ g.6) in
    let d = law (Some (n, own)) b.0 (g.0, g.3, subst (IsMade ExactRule n g.0) b.2 g.4) in
    let rest = ports_divided law others g.2 b.1 b.3 g.5 in
    let is : all ≡ Ok (Some b.0 ∷ b.1) = g.6
    ∙ ap (λ v. joined (filled v) g.2) b.2
    ∙ ap (joined (Ok (Some b.0))) b.3 in
    record {
      inputs = Some (shared_as b.0 d.0) ∷ rest.inputs;
      divided = (d.1, rest.divided);
      same =
          ap (λ (ys : Inputs Dataset). Some b.0 ∷ ys) rest.same
          ∙ same_inputs (Some b.0 ∷ b.1) xs all is e;
    }

-- what feeds a port is shared out
abbrev pub PortDivided : Option Divided → Type 0
PortDivided None = Unit {0}
PortDivided (Some d) = (t : Option Tree) × IsDivided t d.whole d.division

pub first_divided : (cone : Cone) (inputs : Inputs Divided) → AreDivided cone inputs
    → PortDivided (fed_at 1 inputs)
first_divided none [] h = tt
first_divided none (x ∷ inputs) h = absurd h
first_divided (empty others) [] h = absurd h
first_divided (empty others) (None ∷ inputs) h = tt
first_divided (empty others) (Some d ∷ inputs) h = absurd h
first_divided (fed n own others) [] h = absurd h
first_divided (fed n own others) (None ∷ inputs) h = absurd h
first_divided (fed n own others) (Some d ∷ inputs) h = (Some (n, own), h.0)

-- ---- datasets

module _ (shares : DivisionsShareOut) (by_mesh : NarrowByPieces) (by_image : NarrowBySlabs)
    (levels : AllAreLeveled) where
  slab_of : (forms : List Form) (image : ImageData) (division : Division) (p n ghosts : ℕ)
      → IsNarrowMade forms (Image image) division (Piece p n ghosts)
      → IsNarrowSlab forms image p n
  slab_of forms image division p n ghosts h =
      record { ghosts = ghosts; block = h.0; is = h.1; narrow = h.2 }

  piece_of : (forms : List Form) (sheets : List SheetData) (division : Division)
      (p n ghosts : ℕ) → IsNarrowMade forms (Mesh sheets) division (Piece p n ghosts)
      → IsNarrowPiece forms sheets division p n
  piece_of forms sheets division p n ghosts h =
      record { ghosts = ghosts; parts = h.0; is = h.1; narrow = h.2 }

  only_slab : (forms : List Form) (image : ImageData) (division : Division) (w : Request)
      → IsForOne w → IsNarrowMade forms (Image image) division w → IsNarrowSlab forms image 0 1
  only_slab forms image division (Piece p n ghosts) one h =
      subst (λ a. IsNarrowSlab forms image a 1) one.0
      (subst (IsNarrowSlab forms image p) one.1 (slab_of forms image division p n ghosts h))
  only_slab forms image division (Block block) one h = absurd h

  only_piece : (forms : List Form) (sheets : List SheetData) (division : Division) (w : Request)
      → IsForOne w → IsNarrowMade forms (Mesh sheets) division w
      → IsNarrowPiece forms sheets division 0 1
  only_piece forms sheets division (Piece p n ghosts) one h =
      subst (λ a. IsNarrowPiece forms sheets division a 1) one.0
      (subst (IsNarrowPiece forms sheets division p) one.1
      (piece_of forms sheets division p n ghosts h))
  only_piece forms sheets division (Block block) one h = absurd h

  dataset_narrow : (forms : List Form) (whole : Dataset) (division : Division)
      (t : Option Tree) → IsDivided t whole division → (rs : List Request) → AreForAll rs
      → Shown (IsNarrowMade forms whole division) rs
      → AreNarrowSections forms (sheets_of whole)
  dataset_narrow forms (Image image) division t d rs a s =
      let all = shown_pieces (IsNarrowSlab forms image) (IsNarrowMade forms (Image image) division)
      (slab_of forms image division) (only_slab forms image division) rs a s in
      by_image forms image all.0 (all.2 0 all.1).is.whole_is all.1 all.2
  dataset_narrow forms (Mesh sheets) division t d rs a s =
      let all = shown_pieces (IsNarrowPiece forms sheets division)
      (IsNarrowMade forms (Mesh sheets) division)
      (piece_of forms sheets division) (only_piece forms sheets division) rs a s in
      by_mesh forms sheets division all.0 all.1 (levels t sheets division d)
      (shares t sheets division d all.0 all.1) all.2

  port_narrow : (forms : List Form) (port : Option Divided) → PortDivided port
      → (rs : List Request) → AreForAll rs → Shown (IsNarrowPort forms port) rs
      → AreNarrowOf forms (whole_at port)
  port_narrow forms None h rs a s = tt
  port_narrow forms (Some d) h rs a s =
      dataset_narrow forms d.whole d.division h.0 h.1 rs a s

  kind_narrow : (k : Settings) (port : Option Divided) → PortDivided port → (rs : List Request)
      → AreForAll rs → Shown (IsNarrowTask k port) rs → IsNarrowOf k (whole_at port)
  kind_narrow (settings.Contour count levels) port h rs a s =
      port_narrow (contour_forms count levels) port h rs a s
  kind_narrow (settings.Cut x y z r) port h rs a s = port_narrow (cut_forms x y z r) port h rs a s
  kind_narrow (settings.File array unit) port h rs a s = tt
  kind_narrow (settings.Crop x0 x1 y0 y1 z0 z1) port h rs a s = tt
  kind_narrow (settings.Sample x y z) port h rs a s = tt
  kind_narrow (settings.Threshold lo hi) port h rs a s = tt
  kind_narrow (settings.Smooth radius) port h rs a s = tt
  kind_narrow (settings.Arith op) port h rs a s = tt
  kind_narrow settings.Tets port h rs a s = tt
  kind_narrow (settings.Select lo hi all) port h rs a s = tt
  kind_narrow settings.Append port h rs a s = tt
  kind_narrow settings.Boundary port h rs a s = tt
  kind_narrow settings.Merge port h rs a s = tt
  kind_narrow (settings.Writer binary digits version) port h rs a s = tt

  -- a node of which all pieces are narrow is so
  pub node_narrow : ExactAreDivided → (n : Node) (own : Cone) (rs : List Request) → AreForAll rs
      → Shown (IsNarrowFoot (Some (n, own))) rs → IsNarrowAt n own
  node_narrow law n own rs a s = record { each = each }
    where
      each : (inputs : Inputs Dataset) → AreGiven ExactRule own (Ok inputs)
          → IsNarrowOf n.settings (fed_at 1 inputs)
      each inputs g =
          let d = ports_divided law own (Ok inputs) inputs refl g in
          subst (λ i. IsNarrowOf n.settings (fed_at 1 i)) d.same
          (subst (IsNarrowOf n.settings) (sym (first_whole d.inputs))
          (kind_narrow n.settings (fed_at 1 d.inputs) (first_divided own d.inputs d.divided) rs a
          (shown_map (IsNarrowFoot (Some (n, own))) (IsNarrowTask n.settings (fed_at 1 d.inputs))
          (λ r w stem h. (w, stem, h d.inputs d.divided)) rs s)))
