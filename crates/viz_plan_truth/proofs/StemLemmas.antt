-- Which requests stem from one for a piece, or for a block.
use Rattle.std.proofs.Common.{◌≡◌, ◌⊎◌, ℕ, ◌+◌, true, Option, None, Some, refl, sym, subst, inl, inr}
use Rattle.std.proofs.lemmas.Bool.{eqb-true}
use Rattle.viz_extent.specs.Extent.{Bounds}
use Rattle.viz_kinds.specs.declared.settings.Settings.{Settings}
use Rattle.viz_kinds.specs.declared.settings.Settings.TheVariants as settings
use Rattle.viz_network.specs.Cone.{Tree}
use Rattle.viz_parts.specs.declared.request.Request.{Request}
use Rattle.viz_parts.specs.declared.request.Request.TheVariants.{Block, Piece}
use Rattle.viz_plan_meaning.specs.Known.{Known, ports_extent, tree_asked, tree_widened}
use Rattle.viz_plan_meaning.proofs.PlanLemmas.{and-elim}
use Rattle.viz_requests.specs.Serving.{serves}
use Rattle.viz_requests.specs.Upstream.{
  all_of,
  asked,
  grown_request,
  layers_request,
  mean_radius,
  more_ghosts,
  sample_rate,
  spread_request,
  widened,
}
use Rattle.viz_extent.specs.Parts.{Rate}

-- a request is for the only piece, or for a block
abbrev pub IsForOne : Request → Type 0
IsForOne (Piece p n ghosts) = (p ≡ 0) × (n ≡ 1)
IsForOne (Block block) = Unit {0}

-- a request stems from another: it is for the same piece, or for the only one, or for a block
abbrev pub IsStem : Request → Request → Type 0
IsStem (Piece p n ghosts) (Piece q m more) = ((q ≡ p) × (m ≡ n)) ⊎ ((q ≡ 0) × (m ≡ 1))
IsStem (Piece p n ghosts) (Block block) = Unit {0}
IsStem (Block block) other = IsForOne other

one_stems : (r q : Request) → IsForOne q → IsStem r q
one_stems (Piece p n ghosts) (Piece q m more) h = inr h
one_stems (Piece p n ghosts) (Block block) h = tt
one_stems (Block block) q h = h

pub itself_stems : (r : Request) → IsStem r r
itself_stems (Piece p n ghosts) = inl (refl, refl)
itself_stems (Block block) = tt

all_stems : (r : Request) (o : Option Bounds) → IsStem r (all_of o)
all_stems r None = one_stems r (Piece 0 1 0) (refl, refl)
all_stems r (Some whole) = one_stems r (Block whole) tt

block_stems : (r : Request) (block : Bounds) → IsStem r (Block block)
block_stems r block = one_stems r (Block block) tt

-- whatever the ghost levels
ghosts_stem : (r : Request) (p n ghosts more : ℕ) → IsStem r (Piece p n ghosts)
    → IsStem r (Piece p n more)
ghosts_stem (Piece a b c) p n ghosts more h = h
ghosts_stem (Block block) p n ghosts more h = h

-- ---- what goes upstream

spread_stems : (rate : Rate) (r q : Request) → IsStem r q → IsStem r (spread_request rate q)
spread_stems rate r (Piece p n ghosts) h = h
spread_stems rate r (Block block) h = block_stems r _

grown_stems : (by : ℕ) (o : Option Bounds) (r q : Request) → IsStem r q
    → IsStem r (grown_request by o q)
grown_stems by None r q h = h
grown_stems by (Some whole) r (Piece p n ghosts) h = h
grown_stems by (Some whole) r (Block block) h = block_stems r _

layers_stem : (o : Option Bounds) (r q : Request) → IsStem r q → IsStem r (layers_request o q)
layers_stem None r q h = h
layers_stem (Some whole) r (Piece p n ghosts) h = block_stems r _
layers_stem (Some whole) r (Block block) h = h

more_stem : (r q : Request) → IsStem r q → IsStem r (more_ghosts q)
more_stem r (Piece p n ghosts) h = ghosts_stem r p n ghosts (ghosts + 1) h
more_stem r (Block block) h = h

asked_stem : (s : Settings) (o : Option Bounds) (r q : Request) → IsStem r q
    → IsStem r (asked s o q)
asked_stem (settings.File array unit) o r q h = all_stems r o
asked_stem (settings.Crop x0 x1 y0 y1 z0 z1) o r q h = h
asked_stem (settings.Sample x y z) o r q h = spread_stems (sample_rate x y z) r q h
asked_stem (settings.Threshold lo hi) o r q h = h
asked_stem (settings.Smooth radius) o r q h = grown_stems (mean_radius radius) o r q h
asked_stem (settings.Arith op) o r q h = h
asked_stem settings.Tets o r q h = layers_stem o r q h
asked_stem (settings.Select lo hi all) o r q h = h
asked_stem (settings.Contour count levels) o r q h = layers_stem o r q h
asked_stem (settings.Cut a b c k) o r q h = layers_stem o r q h
asked_stem settings.Append o r q h = h
asked_stem settings.Boundary o r q h = more_stem r q h
asked_stem settings.Merge o r q h = all_stems r o
asked_stem (settings.Writer binary digits version) o r q h = h

widened_stem : (s : Settings) (o : Option Bounds) (r q : Request) → IsStem r q
    → IsStem r (widened s o q)
widened_stem (settings.File array unit) o r q h = all_stems r o
widened_stem (settings.Crop x0 x1 y0 y1 z0 z1) o r q h = h
widened_stem (settings.Sample x y z) o r q h = h
widened_stem (settings.Threshold lo hi) o r q h = h
widened_stem (settings.Smooth radius) o r q h = h
widened_stem (settings.Arith op) o r q h = h
widened_stem settings.Tets o r q h = h
widened_stem (settings.Select lo hi all) o r q h = h
widened_stem (settings.Contour count levels) o r q h = h
widened_stem (settings.Cut a b c k) o r q h = h
widened_stem settings.Append o r q h = h
widened_stem settings.Boundary o r q h = h
widened_stem settings.Merge o r q h = all_stems r o
widened_stem (settings.Writer binary digits version) o r q h = h

pub asked_stems : (k : Known) (t : Option Tree) (r q : Request) → IsStem r q
    → IsStem r (tree_asked k t q)
asked_stems k None r q h = h
asked_stems k (Some t) r q h = asked_stem t.0.settings (ports_extent k t.1) r q h

pub widened_stems : (k : Known) (t : Option Tree) (r q : Request) → IsStem r q
    → IsStem r (tree_widened k t q)
widened_stems k None r q h = h
widened_stems k (Some t) r q h = widened_stem t.0.settings (k.extent t.0.id.0) r q h

-- ---- what serves

pub serving_stems : (r v w : Request) → IsStem r w → serves v w ≡ true → IsStem r v
serving_stems r (Block kept) (Block wanted) h s = block_stems r kept
serving_stems r (Piece p n ghosts) (Piece q m fewer) h s =
    let e = and-elim _ _ (and-elim _ _ s).0 in
    let piece : q ≡ p = sym (eqb-true p q e.0) in
    let count : m ≡ n = sym (eqb-true n m e.1) in
    ghosts_stem r p n fewer ghosts
    (subst (λ a. IsStem r (Piece a n fewer)) piece (subst (λ b. IsStem r (Piece q b fewer)) count h))
serving_stems r (Block kept) (Piece q m fewer) h s = let bad : ⊥ = cc in absurd bad
serving_stems r (Piece p n ghosts) (Block wanted) h s = let bad : ⊥ = cc in absurd bad
