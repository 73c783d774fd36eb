-- What a kind of node asks for beside the parts at its ports.
use Rattle.std.proofs.Common.{
  ◌≡◌,
  ℕ,
  false,
  List,
  [],
  ◌∷◌,
  Option,
  None,
  Some,
  Ok,
  refl,
  ap,
  subst,
  ◌∙◌,
  arith,
}
use Rattle.viz_dataset.specs.declared.dataset.Dataset.{Dataset}
use Rattle.viz_dataset.specs.declared.dataset.Dataset.TheVariants.{Image, Mesh}
use Rattle.viz_extent.specs.Extent.{Bounds}
use Rattle.viz_given.specs.Given.{AllAreFit, AllAreLeveled}
use Rattle.viz_kinds.specs.Kinds.{ports_of}
use Rattle.viz_kinds.specs.Settings.{kind_of}
use Rattle.viz_kinds.specs.declared.settings.Settings.{Settings}
use Rattle.viz_kinds.specs.declared.settings.Settings.TheVariants as settings
use Rattle.viz_meaning.specs.Tetrahedra.{sheets_of}
use Rattle.viz_network.specs.Cone.{Cone, Tree, empty, fed, none}
use Rattle.viz_network.specs.declared.node.Node.{Node}
use Rattle.viz_node_division.proofs.RowLemmas.{first_whole, row_made, whole_at}
use Rattle.viz_node_division.specs.Divided.{Divided, IsDivided, IsMadeOf}
use Rattle.viz_node_division.specs.Exact.{IsExact}
use Rattle.viz_node_division.specs.Laws.{DivisionsShareOut}
use Rattle.viz_node_gives.specs.Gives.{HasReading}
use Rattle.viz_node_meaning.specs.Data.{DataRule, IsEvaluated, IsOfMesh, merge_of}
use Rattle.viz_node_meaning.specs.Fold.{AreGiven, IsGiven}
use Rattle.viz_node_meaning.specs.Information.{fed_at}
use Rattle.viz_node_meaning.specs.Rules.{Inputs}
use Rattle.viz_node_parts.specs.Answering.{
  CanMerge,
  HasFitSheets,
  HasLeveledSheets,
  IsFitAt,
  IsFitFor,
  IsGivenAnywhere,
  IsLeveledAt,
  IsWriter,
  Suits,
}
use Rattle.viz_node_parts.specs.Made.{MakesPart}
use Rattle.viz_node_parts.specs.Taken.{TakesParts}
use Rattle.viz_parts.specs.Pieces.{Division, SharesOut}
use Rattle.viz_parts.specs.declared.request.Part.{Part}
use Rattle.viz_parts.specs.declared.request.Request.{Request}
use Rattle.viz_plan_law.proofs.PortLemmas.{AreFirst}
use Rattle.viz_plan_meaning.specs.Networks.{passes}
use Rattle.viz_plan_truth.proofs.SectionLemmas.{PortDivided}

-- ---- meshes at a port

module _ (leveled : AllAreLeveled) where
  leveled_whole : (whole : Dataset) (division : Division) (t : Option Tree)
      → IsDivided t whole division → HasLeveledSheets whole
  leveled_whole (Image image) division t d = tt
  leveled_whole (Mesh sheets) division t d = leveled t sheets division d

  leveled_at : (port : Option Divided) → PortDivided port → IsLeveledAt port
  leveled_at None h = tt
  leveled_at (Some d) h = leveled_whole d.whole d.division h.0 h.1

module _ (fits : AllAreFit) where
  fit_whole : (whole : Dataset) (division : Division) (t : Option Tree)
      → IsDivided t whole division → HasFitSheets whole
  fit_whole (Image image) division t d = tt
  fit_whole (Mesh sheets) division t d = fits t sheets division d

  fit_at : (port : Option Divided) → PortDivided port → IsFitAt port
  fit_at None h = tt
  fit_at (Some d) h = fit_whole d.whole d.division h.0 h.1

  pub fit_for : (s : Settings) (inputs : Inputs Divided) → PortDivided (fed_at 1 inputs)
      → IsFitFor s inputs
  fit_for (settings.Contour count levels) inputs h = fit_at (fed_at 1 inputs) h
  fit_for (settings.Cut a b c r) inputs h = fit_at (fed_at 1 inputs) h
  fit_for (settings.File array unit) inputs h = tt
  fit_for (settings.Crop x0 x1 y0 y1 z0 z1) inputs h = tt
  fit_for (settings.Sample x y z) inputs h = tt
  fit_for (settings.Threshold lo hi) inputs h = tt
  fit_for (settings.Smooth radius) inputs h = tt
  fit_for (settings.Arith op) inputs h = tt
  fit_for settings.Tets inputs h = tt
  fit_for (settings.Select lo hi all) inputs h = tt
  fit_for settings.Append inputs h = tt
  fit_for settings.Boundary inputs h = tt
  fit_for settings.Merge inputs h = tt
  fit_for (settings.Writer binary digits version) inputs h = tt

-- ---- merges

-- a merge makes nothing of an image
module _ (file : Option (List ℕ)) (inputs : Inputs Divided) (made : Divided)
    (m : IsMadeOf settings.Merge file inputs made) (shares : DivisionsShareOut) where
  merge_row : (d : Divided) → fed_at 1 inputs ≡ Some d
      → IsOfMesh merge_of (Some d.whole) (Ok made.whole)
  merge_row d e =
      subst (λ (o : Option Dataset). IsOfMesh merge_of o (Ok made.whole))
      (first_whole inputs ∙ ap whole_at e) (row_made settings.Merge inputs made.whole m.exact)

  merge_whole : (division : Division) (w : Dataset) (t : Option Tree)
      → IsOfMesh merge_of (Some w) (Ok made.whole) → IsDivided t w division
      → SharesOut division (sheets_of w) 1
  merge_whole division (Image image) t row d = absurd row
  merge_whole division (Mesh sheets) t row d = shares t sheets division d 1 (omega arith)

  merge_at : (port : Option Divided) → fed_at 1 inputs ≡ port → PortDivided port → CanMerge port
  merge_at None e h = tt
  merge_at (Some d) e h = merge_whole d.division d.whole h.0 (merge_row d e) h.1

-- ---- files

-- the node has a file
abbrev pub HasFile : Settings → Type 0
HasFile (settings.File array unit) = Unit {0}
HasFile _ = ⊥

file_unfed : (s : Settings) (own : Cone) → HasFile s → AreFirst (ports_of (kind_of s)) own
    → AreFirst 0 own
file_unfed (settings.File array unit) own h f = f
file_unfed (settings.Crop x0 x1 y0 y1 z0 z1) own h f = absurd h
file_unfed (settings.Sample x y z) own h f = absurd h
file_unfed (settings.Threshold lo hi) own h f = absurd h
file_unfed (settings.Smooth radius) own h f = absurd h
file_unfed (settings.Arith op) own h f = absurd h
file_unfed settings.Tets own h f = absurd h
file_unfed (settings.Select lo hi all) own h f = absurd h
file_unfed (settings.Contour count levels) own h f = absurd h
file_unfed (settings.Cut a b c r) own h f = absurd h
file_unfed settings.Append own h f = absurd h
file_unfed settings.Boundary own h f = absurd h
file_unfed settings.Merge own h f = absurd h
file_unfed (settings.Writer binary digits version) own h f = absurd h

-- the data of a file are what it is read as
file_data : (s : Settings) (file : Option (List ℕ)) (xs ys : Inputs Dataset) (w : Dataset)
    → HasFile s → IsExact s file xs (Ok w) → IsEvaluated s file ys (Ok w)
file_data (settings.File array unit) file xs ys w h m = m
file_data (settings.Crop x0 x1 y0 y1 z0 z1) file xs ys w h m = absurd h
file_data (settings.Sample x y z) file xs ys w h m = absurd h
file_data (settings.Threshold lo hi) file xs ys w h m = absurd h
file_data (settings.Smooth radius) file xs ys w h m = absurd h
file_data (settings.Arith op) file xs ys w h m = absurd h
file_data settings.Tets file xs ys w h m = absurd h
file_data (settings.Select lo hi all) file xs ys w h m = absurd h
file_data (settings.Contour count levels) file xs ys w h m = absurd h
file_data (settings.Cut a b c r) file xs ys w h m = absurd h
file_data settings.Append file xs ys w h m = absurd h
file_data settings.Boundary file xs ys w h m = absurd h
file_data settings.Merge file xs ys w h m = absurd h
file_data (settings.Writer binary digits version) file xs ys w h m = absurd h

unfed_given : (c : Cone) → AreFirst 0 c → (xs : Inputs Dataset) × AreGiven DataRule c (Ok xs)
unfed_given none f = ([], refl)
unfed_given (empty others) f =
    let rest = unfed_given others f in
    (None ∷ rest.0, (Ok rest.0, rest.1, refl))
unfed_given (fed n own others) f = absurd f

pub file_given : (n : Node) (own : Cone) (xs : Inputs Dataset) (w : Dataset)
    → HasFile n.settings → AreFirst (ports_of (kind_of n.settings)) own
    → IsExact n.settings n.file xs (Ok w) → IsGiven DataRule (Some (n, own)) (Ok w)
file_given n own xs w h f m =
    let ports = unfed_given own (file_unfed n.settings own h f) in
    (Ok ports.0, ports.1, (Ok w, file_data n.settings n.file xs ports.0 w h m, refl))

-- ---- all kinds

module _ (leveled : AllAreLeveled) (shares : DivisionsShareOut) where
  pub suits : (s : Settings) (file : Option (List ℕ)) (inputs : Inputs Divided)
      (made : Divided) → IsMadeOf s file inputs made → PortDivided (fed_at 1 inputs)
      → (HasFile s → IsGivenAnywhere made) → Suits s inputs made
  suits (settings.File array unit) file inputs made m h given = given tt
  suits (settings.Contour count levels) file inputs made m h given =
      leveled_at leveled (fed_at 1 inputs) h
  suits (settings.Cut a b c r) file inputs made m h given = leveled_at leveled (fed_at 1 inputs) h
  suits settings.Merge file inputs made m h given =
      merge_at file inputs made m shares (fed_at 1 inputs) refl h
  suits (settings.Crop x0 x1 y0 y1 z0 z1) file inputs made m h given = tt
  suits (settings.Sample x y z) file inputs made m h given = tt
  suits (settings.Threshold lo hi) file inputs made m h given = tt
  suits (settings.Smooth radius) file inputs made m h given = tt
  suits (settings.Arith op) file inputs made m h given = tt
  suits settings.Tets file inputs made m h given = tt
  suits (settings.Select lo hi all) file inputs made m h given = tt
  suits settings.Append file inputs made m h given = tt
  suits settings.Boundary file inputs made m h given = tt
  suits (settings.Writer binary digits version) file inputs made m h given = tt

-- a node of which a part is made has a file that is read, if any
pub reading : (s : Settings) (file : Option (List ℕ)) (e : Option Bounds) (r : Request)
    (parts : Inputs Part) (part : Part) → MakesPart s file e r parts part → HasReading s file
reading (settings.File array unit) file e r parts part m = (m.whole, m.read)
reading (settings.Crop x0 x1 y0 y1 z0 z1) file e r parts part m = tt
reading (settings.Sample x y z) file e r parts part m = tt
reading (settings.Threshold lo hi) file e r parts part m = tt
reading (settings.Smooth radius) file e r parts part m = tt
reading (settings.Arith op) file e r parts part m = tt
reading settings.Tets file e r parts part m = tt
reading (settings.Select lo hi all) file e r parts part m = tt
reading (settings.Contour count levels) file e r parts part m = tt
reading (settings.Cut a b c d) file e r parts part m = tt
reading settings.Append file e r parts part m = tt
reading settings.Boundary file e r parts part m = tt
reading settings.Merge file e r parts part m = tt
reading (settings.Writer binary digits version) file e r parts part m = tt

-- a file takes whatever parts there are
pub takes_or : (s : Settings) (file : Option (List ℕ)) (e : Option Bounds) (r : Request)
    (parts : Inputs Part) → (HasReading s file → TakesParts s e r parts) → TakesParts s e r parts
takes_or (settings.File array unit) file e r parts h = tt
takes_or (settings.Crop x0 x1 y0 y1 z0 z1) file e r parts h = h tt
takes_or (settings.Sample x y z) file e r parts h = h tt
takes_or (settings.Threshold lo hi) file e r parts h = h tt
takes_or (settings.Smooth radius) file e r parts h = h tt
takes_or (settings.Arith op) file e r parts h = h tt
takes_or settings.Tets file e r parts h = h tt
takes_or (settings.Select lo hi all) file e r parts h = h tt
takes_or (settings.Contour count levels) file e r parts h = h tt
takes_or (settings.Cut a b c d) file e r parts h = h tt
takes_or settings.Append file e r parts h = h tt
takes_or settings.Boundary file e r parts h = h tt
takes_or settings.Merge file e r parts h = h tt
takes_or (settings.Writer binary digits version) file e r parts h = h tt

pub no_writer : (s : Settings) → passes s ≡ false → IsWriter s → ⊥
no_writer (settings.Writer binary digits version) e h = let bad : ⊥ = cc in bad
no_writer (settings.File array unit) e h = h
no_writer (settings.Crop x0 x1 y0 y1 z0 z1) e h = h
no_writer (settings.Sample x y z) e h = h
no_writer (settings.Threshold lo hi) e h = h
no_writer (settings.Smooth radius) e h = h
no_writer (settings.Arith op) e h = h
no_writer settings.Tets e h = h
no_writer (settings.Select lo hi all) e h = h
no_writer (settings.Contour count levels) e h = h
no_writer (settings.Cut a b c r) e h = h
no_writer settings.Append e h = h
no_writer settings.Boundary e h = h
no_writer settings.Merge e h = h
