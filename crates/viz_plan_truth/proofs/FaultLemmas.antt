-- Where a task of a plan failed, the node of the plan gives no dataset.
use Rattle.std.proofs.Common.{◌≡◌, ℕ, List, [], ◌∷◌, Option, None, Some, Result, Ok, Err, refl, subst, ⊎_elim}
use Rattle.viz_dataset.specs.declared.dataset.Dataset.{Dataset}
use Rattle.viz_dataset.specs.declared.dataset.Dataset.TheVariants.{Image, Mesh}
use Rattle.viz_fraction.specs.declared.forms.Form.{Form}
use Rattle.viz_kinds.specs.declared.settings.Settings.{Settings}
use Rattle.viz_kinds.specs.declared.settings.Settings.TheVariants as settings
use Rattle.viz_meaning.specs.Narrow.{AreNarrowSections}
use Rattle.viz_meaning.specs.Tetrahedra.{sheets_of}
use Rattle.viz_network.specs.Cone.{Cone, Tree, none, empty, fed, cone_of}
use Rattle.viz_network.specs.declared.fault.Cause.{Cause}
use Rattle.viz_node_division.specs.Divided.{Divided, IsDivided, wholes}
use Rattle.viz_node_division.specs.Exact.{ExactRule}
use Rattle.viz_node_division.specs.Laws.{AreDivided, DividedAreExact}
use Rattle.viz_node_division.proofs.RowLemmas.{first_whole, whole_at}
use Rattle.viz_node_meaning.specs.Data.{DataRule, IsEvaluated, contour_forms, cut_forms}
use Rattle.viz_node_meaning.specs.Fold.{AreGiven, IsGiven}
use Rattle.viz_node_meaning.specs.Information.{fed_at}
use Rattle.viz_node_meaning.specs.Rules.{Inputs, IsOne}
use Rattle.viz_node_narrow.specs.Nodes.{AreNarrowOf, GivenAreNarrow, IsNarrowOf}
use Rattle.viz_node_narrow.specs.Pieces.{SlabsAreNarrow}
use Rattle.viz_parts.specs.Pieces.{Division}
use Rattle.viz_parts.specs.declared.request.Request.{Request}
use Rattle.viz_parts.specs.declared.request.Request.TheVariants.{Block, Piece}
use Rattle.viz_piece_divisions.specs.Narrow.{PiecesAreNarrow}
use Rattle.viz_plan_truth.specs.Faults.{
  FaultsShow,
  IsFaultyFoot,
  IsUnread,
  IsWideMade,
  IsWidePort,
  IsWideTask,
}
use Rattle.viz_given.specs.Given.{AllAreLeveled}
use Rattle.viz_plan_truth.proofs.NeedLemmas.{task_has}
use Rattle.viz_plan_truth.proofs.SectionLemmas.{PortDivided, first_divided}
use Rattle.viz_plan_truth.proofs.ValueLemmas.{HasValue, cone_values, inputs_ok}

-- ---- files

unread_fault : (s : Settings) (file : Option (List ℕ)) (inputs : Inputs Dataset) (w : Dataset)
    → ((a b : Result Dataset Cause) → IsEvaluated s file inputs a → IsEvaluated s file inputs b
    → a ≡ b) → IsEvaluated s file inputs (Ok w) → IsUnread s file → ⊥
unread_fault (settings.File array unit) file inputs w one m h =
    let same = one (Ok w) (Err h.0) m h.1 in
    let bad : ⊥ = cc in
    bad
unread_fault (settings.Crop x0 x1 y0 y1 z0 z1) file inputs w one m h = absurd h
unread_fault (settings.Sample x y z) file inputs w one m h = absurd h
unread_fault (settings.Threshold lo hi) file inputs w one m h = absurd h
unread_fault (settings.Smooth radius) file inputs w one m h = absurd h
unread_fault (settings.Arith op) file inputs w one m h = absurd h
unread_fault settings.Tets file inputs w one m h = absurd h
unread_fault (settings.Select lo hi all) file inputs w one m h = absurd h
unread_fault (settings.Contour count levels) file inputs w one m h = absurd h
unread_fault (settings.Cut a b c r) file inputs w one m h = absurd h
unread_fault settings.Append file inputs w one m h = absurd h
unread_fault settings.Boundary file inputs w one m h = absurd h
unread_fault settings.Merge file inputs w one m h = absurd h
unread_fault (settings.Writer binary digits version) file inputs w one m h = absurd h

-- ---- sections

module _ (pieces : PiecesAreNarrow) (slabs : SlabsAreNarrow) (levels : AllAreLeveled) where
  dataset_wide : (forms : List Form) (whole : Dataset) (division : Division) (t : Option Tree)
      → IsDivided t whole division → AreNarrowSections forms (sheets_of whole) → (w : Request)
      → IsWideMade forms whole division w → ⊥
  dataset_wide forms (Image image) division t d narrow (Piece p n ghosts) h =
      h.1.2 (slabs forms image h.1.0 p n ghosts h.0 h.1.1 narrow)
  dataset_wide forms (Image image) division t d narrow (Block block) h = h
  dataset_wide forms (Mesh sheets) division t d narrow (Piece p n ghosts) h =
      h.2 (pieces forms sheets (division p n) ghosts h.0 (levels t sheets division d) h.1 narrow)
  dataset_wide forms (Mesh sheets) division t d narrow (Block block) h = h

  port_wide : (forms : List Form) (port : Option Divided) → PortDivided port
      → AreNarrowOf forms (whole_at port) → (w : Request) → IsWidePort forms port w → ⊥
  port_wide forms None d narrow w h = h
  port_wide forms (Some x) d narrow w h =
      dataset_wide forms x.whole x.division d.0 d.1 narrow w h

  kind_wide : (s : Settings) (port : Option Divided) → PortDivided port
      → IsNarrowOf s (whole_at port) → (w : Request) → IsWideTask s port w → ⊥
  kind_wide (settings.Contour count levels) port d narrow w h =
      port_wide (contour_forms count levels) port d narrow w h
  kind_wide (settings.Cut x y z r) port d narrow w h =
      port_wide (cut_forms x y z r) port d narrow w h
  kind_wide (settings.File array unit) port d narrow w h = h
  kind_wide (settings.Crop x0 x1 y0 y1 z0 z1) port d narrow w h = h
  kind_wide (settings.Sample x y z) port d narrow w h = h
  kind_wide (settings.Threshold lo hi) port d narrow w h = h
  kind_wide (settings.Smooth radius) port d narrow w h = h
  kind_wide (settings.Arith op) port d narrow w h = h
  kind_wide settings.Tets port d narrow w h = h
  kind_wide (settings.Select lo hi all) port d narrow w h = h
  kind_wide settings.Append port d narrow w h = h
  kind_wide settings.Boundary port d narrow w h = h
  kind_wide settings.Merge port d narrow w h = h
  kind_wide (settings.Writer binary digits version) port d narrow w h = h

  -- ---- a node

  ports_exact : DividedAreExact → (cone : Cone) (inputs : Inputs Divided)
      → AreDivided cone inputs → AreGiven ExactRule cone (Ok (wholes inputs))
  ports_exact law none [] h = refl
  ports_exact law none (x ∷ inputs) h = absurd h
  ports_exact law (empty others) [] h = absurd h
  ports_exact law (empty others) (None ∷ inputs) h =
      (Ok (wholes inputs), ports_exact law others inputs h, refl)
  ports_exact law (empty others) (Some d ∷ inputs) h = absurd h
  ports_exact law (fed n own others) [] h = absurd h
  ports_exact law (fed n own others) (None ∷ inputs) h = absurd h
  ports_exact law (fed n own others) (Some d ∷ inputs) h =
      let g = law (Some (n, own)) d.whole d.division h.0 in (
        g.0,
        Ok d.whole,
        Ok (wholes inputs),
        g.1,
        g.2,
        ports_exact law others inputs h.1,
        refl,
      )

  node_fault : IsOne DataRule → GivenAreNarrow → DividedAreExact → (t : Option Tree) (w : Request)
      (whole : Dataset) → IsGiven DataRule t (Ok whole) → IsFaultyFoot t w → ⊥
  node_fault one narrow exact None w whole g h = h
  node_fault one narrow exact (Some t) w whole g h =
      ⊎_elim
      (λ unread.
      let r = inputs_ok DataRule t.0 g.0 whole g.2 in
      unread_fault t.0.settings t.0.file r.0 whole (λ a b p q. one t.0 r.0 a b p q) r.2 unread)
      (λ wide. by wide.0 wide.1 wide.2)
      h
    where
      by : (inputs : Inputs Divided) → AreDivided t.1 inputs
          → IsWideTask t.0.settings (fed_at 1 inputs) w → ⊥
      by inputs d wide =
          let all = narrow (Some t) whole g in
          let is = all.0.each (wholes inputs) (ports_exact exact t.1 inputs d) in
          kind_wide t.0.settings (fed_at 1 inputs) (first_divided t.1 inputs d)
          (subst (IsNarrowOf t.0.settings) (first_whole inputs) is) w wide

-- ---- the plan

pub faults_show : IsOne DataRule → GivenAreNarrow → DividedAreExact → PiecesAreNarrow
    → SlabsAreNarrow → AllAreLeveled → FaultsShow
faults_show one narrow exact pieces slabs levels k sink rs task placed have in_plan fault whole g =
    let h = task_has k (HasValue DataRule) sink rs task placed have
    (cone_values DataRule (cone_of k.net sink) whole g) in_plan in
    node_fault pieces slabs levels one narrow exact (cone_of k.net task.0) task.1 h.value h.given
    fault
