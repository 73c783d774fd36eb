-- Why a node makes no part of what feeds it: its file isn't read, or a section is wide.
use Rattle.std.proofs.Common.{◌⊎◌, ℕ, List, Option, None, Some, sym, subst, inl, inr}
use Rattle.viz_dataset.specs.declared.dataset.Dataset.{Dataset}
use Rattle.viz_dataset.specs.declared.dataset.Dataset.TheVariants as dataset
use Rattle.viz_extent.specs.Extent.{Bounds}
use Rattle.viz_fraction.specs.declared.forms.Form.{Form}
use Rattle.viz_kinds.specs.declared.settings.Settings.{Settings}
use Rattle.viz_kinds.specs.declared.settings.Settings.TheVariants as settings
use Rattle.viz_network.specs.declared.fault.Cause.{Cause}
use Rattle.viz_node_answers.specs.Answers.{IsPartFor}
use Rattle.viz_node_division.proofs.DividedLemmas.{shared_as}
use Rattle.viz_node_division.specs.Divided.{Divided}
use Rattle.viz_node_meaning.specs.Data.{contour_forms, cut_forms}
use Rattle.viz_node_meaning.specs.Information.{fed_at}
use Rattle.viz_node_meaning.specs.Rules.{Inputs}
use Rattle.viz_node_parts.proofs.AnsweringLemmas.{at_first, slab_given}
use Rattle.viz_node_parts.specs.Answering.{AreAnswered, dataset_extent, extent_at_ports}
use Rattle.viz_node_parts.specs.Made.{HasCause, IsNarrowInput, IsWide}
use Rattle.viz_node_parts.specs.Taken.{TakesEither, TakesParts}
use Rattle.viz_parts.specs.Pieces.{Division, IsAnswer}
use Rattle.viz_parts.specs.declared.request.Part.{Part}
use Rattle.viz_parts.specs.declared.request.Part.TheVariants.{Image, Mesh}
use Rattle.viz_parts.specs.declared.request.Request.{Request}
use Rattle.viz_parts.specs.declared.request.Request.TheVariants.{Block, Piece}
use Rattle.viz_plan_truth.specs.Faults.{IsUnread, IsWideMade, IsWidePort, IsWideTask}
use Rattle.viz_requests.specs.Upstream.{asked, layers_request}

-- ---- sections

takes_none : (e : Option Bounds) (r : Request) → TakesEither e r None → ⊥
takes_none None r t = t
takes_none (Some whole) (Piece p n ghosts) t = t
takes_none (Some whole) (Block block) t = t

wide_made : (forms : List Form) (whole : Dataset) (division : Division) (r : Request)
    (input : Part) → IsAnswer whole division (layers_request (dataset_extent whole) r) input
    → TakesEither (dataset_extent whole) r (Some input)
    → (IsNarrowInput forms (Some input) → ⊥) → IsWideMade forms whole division r
wide_made forms (dataset.Image image) division (Piece p n ghosts) (Image slab) a t h =
    let given = slab_given (shared_as (dataset.Image image) division) p n ghosts image.extent
    (Image slab) a in
    (t.0, (slab, given, h))
wide_made forms (dataset.Image image) division (Piece p n ghosts) (Mesh parts) a t h = absurd a
wide_made forms (dataset.Image image) division (Block block) input a t h = absurd t
wide_made forms (dataset.Mesh sheets) division (Piece p n ghosts) (Mesh parts) a t h =
    (parts.items, a.1, λ narrow. h (record { sections = narrow }))
wide_made forms (dataset.Mesh sheets) division (Piece p n ghosts) (Image slab) a t h =
    absurd a.1
wide_made forms (dataset.Mesh sheets) division (Block block) input a t h = absurd a

sections_fail : (forms : List Form) (inputs : Inputs Divided) (r : Request)
    (parts : Inputs Part) (cause : Cause)
    → AreAnswered inputs (layers_request (extent_at_ports inputs) r) parts
    → TakesEither (extent_at_ports inputs) r (fed_at 1 parts)
    → IsWide forms (fed_at 1 parts) cause → IsWidePort forms (fed_at 1 inputs) r
sections_fail forms inputs r parts cause a t h =
    let e = extent_at_ports inputs in
    let at = at_first (λ o. TakesEither e r o) (takes_none e r) inputs (layers_request e r) parts
    a t in
    let takes = subst (λ o. TakesEither e r o) at.given t in
    let wide = subst (λ o. IsWide forms o cause) at.given h in
    subst (λ o. IsWidePort forms o r) (sym at.fed)
    (wide_made forms at.first.whole at.first.division r at.input
    (subst (λ x. IsPartFor at.first (layers_request x r) at.input) at.extent at.answers)
    (subst (λ x. TakesEither x r (Some at.input)) at.extent takes)
    wide.0)

-- ---- all kinds

pub kind_fails : (s : Settings) (file : Option (List ℕ)) (inputs : Inputs Divided)
    (r : Request) (parts : Inputs Part) (cause : Cause)
    → AreAnswered inputs (asked s (extent_at_ports inputs) r) parts
    → TakesParts s (extent_at_ports inputs) r parts → HasCause s file parts cause
    → IsUnread s file ⊎ IsWideTask s (fed_at 1 inputs) r
kind_fails (settings.Contour count levels) file inputs r parts cause a t h =
    inr (sections_fail (contour_forms count levels) inputs r parts cause a t h)
kind_fails (settings.Cut x y z d) file inputs r parts cause a t h =
    inr (sections_fail (cut_forms x y z d) inputs r parts cause a t h)
kind_fails (settings.File array unit) file inputs r parts cause a t h = inl (cause, h)
kind_fails (settings.Crop x0 x1 y0 y1 z0 z1) file inputs r parts cause a t h = absurd h
kind_fails (settings.Sample x y z) file inputs r parts cause a t h = absurd h
kind_fails (settings.Threshold lo hi) file inputs r parts cause a t h = absurd h
kind_fails (settings.Smooth radius) file inputs r parts cause a t h = absurd h
kind_fails (settings.Arith op) file inputs r parts cause a t h = absurd h
kind_fails settings.Tets file inputs r parts cause a t h = absurd h
kind_fails (settings.Select lo hi all) file inputs r parts cause a t h = absurd h
kind_fails settings.Append file inputs r parts cause a t h = absurd h
kind_fails settings.Boundary file inputs r parts cause a t h = absurd h
kind_fails settings.Merge file inputs r parts cause a t h = absurd h
kind_fails (settings.Writer binary digits version) file inputs r parts cause a t h = absurd h
