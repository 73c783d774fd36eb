-- What a node makes of true parts has no wide number.
use Rattle.std.proofs.Common.{
  ◌≡◌,
  ℕ,
  List,
  [],
  ◌∷◌,
  Option,
  None,
  Some,
  refl,
  sym,
  ap,
  ap₂,
  subst,
}
use Rattle.viz_dataset.specs.declared.dataset.Dataset.{Dataset}
use Rattle.viz_dataset.specs.declared.dataset.Dataset.TheVariants as dataset
use Rattle.viz_fraction.specs.declared.forms.Form.{Form}
use Rattle.viz_kinds.specs.declared.settings.Settings.{Settings}
use Rattle.viz_kinds.specs.declared.settings.Settings.TheVariants as settings
use Rattle.viz_network.specs.Cone.{Cone, empty, fed, none}
use Rattle.viz_node_answers.specs.Answers.{IsPartFor}
use Rattle.viz_node_division.proofs.DividedLemmas.{shared_as}
use Rattle.viz_node_division.specs.Divided.{Divided}
use Rattle.viz_node_division.specs.Laws.{AreDivided, DivisionsAreOne}
use Rattle.viz_node_meaning.specs.Data.{contour_forms, cut_forms}
use Rattle.viz_node_meaning.specs.Information.{fed_at}
use Rattle.viz_node_meaning.specs.Rules.{Inputs}
use Rattle.viz_node_parts.proofs.AnsweringLemmas.{at_first, slab_given}
use Rattle.viz_node_parts.specs.Answering.{AreAnswered, dataset_extent, extent_at_ports}
use Rattle.viz_node_parts.specs.Made.{IsNarrowInput, MakesNarrow, MakesPart, MakesSections}
use Rattle.viz_parts.specs.Pieces.{Division, IsAnswer}
use Rattle.viz_parts.specs.declared.request.Part.{Part}
use Rattle.viz_parts.specs.declared.request.Part.TheVariants.{Image, Mesh}
use Rattle.viz_parts.specs.declared.request.Request.{Request}
use Rattle.viz_parts.specs.declared.request.Request.TheVariants.{Block, Piece}
use Rattle.viz_plan_truth.specs.Truth.{IsNarrowMade, IsNarrowPort, IsNarrowTask}
use Rattle.viz_requests.specs.Upstream.{asked, layers_request}

-- ---- sections

made_narrow : (forms : List Form) (whole : Dataset) (division : Division) (r : Request)
    (input part : Part) → IsAnswer whole division (layers_request (dataset_extent whole) r) input
    → MakesSections forms (dataset_extent whole) r (Some input) part
    → IsNarrowInput forms (Some input) → IsNarrowMade forms whole division r
made_narrow forms (dataset.Image image) division (Piece p n ghosts) (Image slab) part a m h = (
  slab,
  slab_given (shared_as (dataset.Image image) division) p n ghosts image.extent (Image slab) a,
  h,
)
made_narrow forms (dataset.Image image) division (Piece p n ghosts) (Mesh parts) part a m h =
    absurd a
made_narrow forms (dataset.Image image) division (Block block) input part a m h = absurd m
made_narrow forms (dataset.Mesh sheets) division (Piece p n ghosts) (Mesh parts) part a m h =
    (parts.items, a.1, h.sections)
made_narrow forms (dataset.Mesh sheets) division (Piece p n ghosts) (Image slab) part a m h =
    absurd a.1
made_narrow forms (dataset.Mesh sheets) division (Block block) input part a m h = absurd a

sections_narrow : (forms : List Form) (inputs : Inputs Divided) (r : Request)
    (parts : Inputs Part) (part : Part)
    → AreAnswered inputs (layers_request (extent_at_ports inputs) r) parts
    → MakesNarrow forms (extent_at_ports inputs) r (fed_at 1 parts) part
    → IsNarrowPort forms (fed_at 1 inputs) r
sections_narrow forms inputs r parts part a h =
    let e = extent_at_ports inputs in
    let at = at_first (λ o. MakesNarrow forms e r o part) (λ m. m.1) inputs (layers_request e r)
    parts a h in
    let both = subst (λ o. MakesNarrow forms e r o part) at.given h in
    subst (λ o. IsNarrowPort forms o r) (sym at.fed)
    (made_narrow forms at.first.whole at.first.division r at.input part
    (subst (λ x. IsPartFor at.first (layers_request x r) at.input) at.extent at.answers)
    (subst (λ x. MakesSections forms x r (Some at.input) part) at.extent both.0)
    both.1)

-- ---- all kinds

pub kind_narrow : (s : Settings) (file : Option (List ℕ)) (inputs : Inputs Divided)
    (r : Request) (parts : Inputs Part) (part : Part)
    → AreAnswered inputs (asked s (extent_at_ports inputs) r) parts
    → MakesPart s file (extent_at_ports inputs) r parts part
    → IsNarrowTask s (fed_at 1 inputs) r
kind_narrow (settings.Contour count levels) file inputs r parts part a h =
    sections_narrow (contour_forms count levels) inputs r parts part a h
kind_narrow (settings.Cut x y z d) file inputs r parts part a h =
    sections_narrow (cut_forms x y z d) inputs r parts part a h
kind_narrow (settings.File array unit) file inputs r parts part a h = tt
kind_narrow (settings.Crop x0 x1 y0 y1 z0 z1) file inputs r parts part a h = tt
kind_narrow (settings.Sample x y z) file inputs r parts part a h = tt
kind_narrow (settings.Threshold lo hi) file inputs r parts part a h = tt
kind_narrow (settings.Smooth radius) file inputs r parts part a h = tt
kind_narrow (settings.Arith op) file inputs r parts part a h = tt
kind_narrow settings.Tets file inputs r parts part a h = tt
kind_narrow (settings.Select lo hi all) file inputs r parts part a h = tt
kind_narrow settings.Append file inputs r parts part a h = tt
kind_narrow settings.Boundary file inputs r parts part a h = tt
kind_narrow settings.Merge file inputs r parts part a h = tt
kind_narrow (settings.Writer binary digits version) file inputs r parts part a h = tt

-- ---- one division of what feeds the ports

pub ports_one : DivisionsAreOne → (c : Cone) (xs ys : Inputs Divided) → AreDivided c xs
    → AreDivided c ys → xs ≡ ys
ports_one one none [] [] h j = refl
ports_one one none [] (y ∷ ys) h j = absurd j
ports_one one none (x ∷ xs) ys h j = absurd h
ports_one one (empty c) [] ys h j = absurd h
ports_one one (empty c) (None ∷ xs) [] h j = absurd j
ports_one one (empty c) (None ∷ xs) (None ∷ ys) h j =
    ap (λ (zs : Inputs Divided). None ∷ zs) (ports_one one c xs ys h j)
ports_one one (empty c) (None ∷ xs) (Some b ∷ ys) h j = absurd j
ports_one one (empty c) (Some a ∷ xs) ys h j = absurd h
ports_one one (fed n own c) [] ys h j = absurd h
ports_one one (fed n own c) (None ∷ xs) ys h j = absurd h
ports_one one (fed n own c) (Some a ∷ xs) [] h j = absurd j
ports_one one (fed n own c) (Some a ∷ xs) (None ∷ ys) h j = absurd j
ports_one one (fed n own c) (Some a ∷ xs) (Some b ∷ ys) h j =
    let e = one (Some (n, own)) a.whole b.whole a.division b.division h.0 j.0 in
    ap₂ (λ (d : Divided) (zs : Inputs Divided). Some d ∷ zs) (ap₂ shared_as e.0 e.1)
    (ports_one one c xs ys h.1 j.1)
