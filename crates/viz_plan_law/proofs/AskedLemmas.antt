-- What a node asks its inputs for lies in what they have.
use Rattle.std.proofs.Common.{
  ◌≡◌,
  ℕ,
  ◌+◌,
  ◌≤◌,
  ◌<◌,
  ◌^◌,
  Bool,
  true,
  false,
  cond,
  nat_lt,
  Option,
  None,
  Some,
  refl,
  arith,
}
use Rattle.std.specs.Option.{option_map_or}
use Rattle.viz_extent.specs.Extent.{Bounds}
use Rattle.viz_extent.specs.Parts.{IsPart, Rate, grown}
use Rattle.viz_extent.specs.Slabs.{first_layer, next_layer, planes, touched}
use Rattle.viz_kinds.specs.declared.settings.Settings.{Settings}
use Rattle.viz_kinds.specs.declared.settings.Settings.TheVariants as settings
use Rattle.viz_parts.specs.declared.request.Request.{Request}
use Rattle.viz_parts.specs.declared.request.Request.TheVariants.{Block, Piece}
use Rattle.viz_requests.specs.Upstream.{
  CanAsk,
  Fits,
  HasRoom,
  IsSampled,
  all_of,
  asked,
  grown_request,
  layers_block,
  layers_request,
  mean_radius,
  more_ghosts,
  sample_rate,
  spread_request,
  widened,
}
use Rattle.viz_plan_law.proofs.InformLemmas.{IsDeep}

-- ---- parts of an extent

whole_part : (b : Bounds) → IsPart b b
whole_part b = record {
  x = record { first = omega arith; last = omega arith };
  y = record { first = omega arith; last = omega arith };
  z = record { first = omega arith; last = omega arith };
}

grown_part : (by : ℕ) (whole b : Bounds) → IsPart whole (grown by whole b)
grown_part by whole b = record {
  x = record { first = omega arith; last = omega arith };
  y = record { first = omega arith; last = omega arith };
  z = record { first = omega arith; last = omega arith };
}

-- planes of an extent
pub planes_part : (b : Bounds) (first last : ℕ) → b.z0 + last ≤ b.z1
    → IsPart b (planes first last b)
planes_part b first last l = record {
  x = record { first = omega arith; last = omega arith };
  y = record { first = omega arith; last = omega arith };
  z = record { first = omega arith; last = l };
}

touched_part : (b : Bounds) (first next ghosts : ℕ) → b.z0 ≤ b.z1
    → IsPart b (touched first next ghosts b)
touched_part b first next ghosts l = planes_part b _ _ (omega (arith, l))

layers_part : (b : Bounds) (p n ghosts : ℕ) → b.z0 ≤ b.z1 → IsPart b (layers_block p n ghosts b)
layers_part b p n ghosts l = by (nat_lt (first_layer p n b) (next_layer p n b))
  where
    by : (t : Bool) → IsPart b (option_map_or (λ (c : Bounds). c)
        (cond t (Some (touched (first_layer p n b) (next_layer p n b) ghosts b)) None)
        (planes 0 0 b))
    by true = touched_part b (first_layer p n b) (next_layer p n b) ghosts l
    by false = planes_part b 0 0 (omega (arith, l))

-- ---- requests

pub all_fits : (o : Option Bounds) → Fits o (all_of o)
all_fits (Some b) = whole_part b
all_fits None = omega arith

spread_fits : (rate : Rate) (o : Option Bounds) (r : Request) → IsSampled rate o r
    → Fits o (spread_request rate r)
spread_fits rate (Some b) (Block c) h = h
spread_fits rate (Some b) (Piece p n g) h = absurd h
spread_fits rate None (Block c) h = absurd h
spread_fits rate None (Piece p n g) h = h

grown_fits : (by : ℕ) (o : Option Bounds) (r : Request) → Fits o r → Fits o (grown_request by o r)
grown_fits by (Some b) (Block c) h = grown_part by b c
grown_fits by (Some b) (Piece p n g) h = absurd h
grown_fits by None (Block c) h = absurd h
grown_fits by None (Piece p n g) h = h

layers_fits : (o : Option Bounds) (r : Request) → IsDeep o → Fits None r
    → Fits o (layers_request o r)
layers_fits o (Block c) d h = absurd h
layers_fits (Some b) (Piece p n g) d h = layers_part b p n g d
layers_fits None (Piece p n g) d h = h

more_fits : (o : Option Bounds) (r : Request) → Fits o r → Fits o (more_ghosts r)
more_fits (Some b) (Block c) h = h
more_fits (Some b) (Piece p n g) h = absurd h
more_fits None (Block c) h = absurd h
more_fits None (Piece p n g) h = h

-- what can be asked of inputs fits what they make
asked_fits : (s : Settings) (o : Option Bounds) (r : Request) → IsDeep o → CanAsk s o r
    → Fits o (asked s o r)
asked_fits (settings.File array unit) o r d h = all_fits o
asked_fits (settings.Crop x0 x1 y0 y1 z0 z1) o r d h = h
asked_fits (settings.Sample x y z) o r d h = spread_fits (sample_rate x y z) o r h
asked_fits (settings.Threshold lo hi) o r d h = h
asked_fits (settings.Smooth radius) o r d h = grown_fits (mean_radius radius) o r h
asked_fits (settings.Arith op) o r d h = h
asked_fits settings.Tets o r d h = layers_fits o r d h
asked_fits (settings.Select lo hi all) o r d h = h
asked_fits (settings.Contour count levels) o r d h = layers_fits o r d h
asked_fits (settings.Cut a b c e) o r d h = layers_fits o r d h
asked_fits settings.Append o r d h = h
asked_fits settings.Boundary o r d h = more_fits o r h.0
asked_fits settings.Merge o r d h = all_fits o
asked_fits (settings.Writer binary digits version) o r d h = h

-- ghost levels don't matter for that
piece_fits : (o : Option Bounds) (p n g h : ℕ) → Fits o (Piece p n g) → Fits o (Piece p n h)
piece_fits (Some b) p n g h f = absurd f
piece_fits None p n g h f = f

asked_piece : (s : Settings) (o : Option Bounds) (p n g : ℕ) → IsDeep o
    → CanAsk s o (Piece p n 0) → Fits o (asked s o (Piece p n g))
asked_piece (settings.File array unit) o p n g d h = all_fits o
asked_piece (settings.Crop x0 x1 y0 y1 z0 z1) o p n g d h = piece_fits o p n 0 g h
asked_piece (settings.Sample x y z) o p n g d h =
    piece_fits o p n 0 g (spread_fits (sample_rate x y z) o (Piece p n 0) h)
asked_piece (settings.Threshold lo hi) o p n g d h = piece_fits o p n 0 g h
asked_piece (settings.Smooth radius) o p n g d h =
    grown_fits (mean_radius radius) o (Piece p n g) (piece_fits o p n 0 g h)
asked_piece (settings.Arith op) o p n g d h = piece_fits o p n 0 g h
asked_piece settings.Tets o p n g d h = layers_fits o (Piece p n g) d h
asked_piece (settings.Select lo hi all) o p n g d h = piece_fits o p n 0 g h
asked_piece (settings.Contour count levels) o p n g d h = layers_fits o (Piece p n g) d h
asked_piece (settings.Cut a b c e) o p n g d h = layers_fits o (Piece p n g) d h
asked_piece settings.Append o p n g d h = piece_fits o p n 0 g h
asked_piece settings.Boundary o p n g d h = piece_fits o p n 0 (g + 1) h.0
asked_piece settings.Merge o p n g d h = all_fits o
asked_piece (settings.Writer binary digits version) o p n g d h = piece_fits o p n 0 g h

-- what is asked for a request that fits the node fits its inputs
pub asked_within : (s : Settings) (o own : Option Bounds) (r : Request) → IsDeep o
    → ((w : Request) → Fits own w → HasRoom w → CanAsk s o w) → Fits own r → Fits o (asked s o r)
asked_within s o own (Block b) d can f = asked_fits s o (Block b) d (can (Block b) f tt)
asked_within s o own (Piece p n g) d can f =
    asked_piece s o p n g d (can (Piece p n 0) (piece_fits own p n g 0 f) (omega arith))

pub widened_fits : (s : Settings) (o : Option Bounds) (r : Request) → Fits o r
    → Fits o (widened s o r)
widened_fits (settings.File array unit) o r h = all_fits o
widened_fits (settings.Crop x0 x1 y0 y1 z0 z1) o r h = h
widened_fits (settings.Sample x y z) o r h = h
widened_fits (settings.Threshold lo hi) o r h = h
widened_fits (settings.Smooth radius) o r h = h
widened_fits (settings.Arith op) o r h = h
widened_fits settings.Tets o r h = h
widened_fits (settings.Select lo hi all) o r h = h
widened_fits (settings.Contour count levels) o r h = h
widened_fits (settings.Cut a b c e) o r h = h
widened_fits settings.Append o r h = h
widened_fits settings.Boundary o r h = h
widened_fits settings.Merge o r h = all_fits o
widened_fits (settings.Writer binary digits version) o r h = h

-- ---- ghost levels

-- the ghost levels of a piece
abbrev pub levels_in : Request → ℕ
levels_in (Piece p n ghosts) = ghosts
levels_in (Block block) = 0

all_levels : (o : Option Bounds) → levels_in (all_of o) ≡ 0
all_levels (Some b) = refl
all_levels None = refl

spread_levels : (rate : Rate) (r : Request) → levels_in (spread_request rate r) ≡ levels_in r
spread_levels rate (Block b) = refl
spread_levels rate (Piece p n g) = refl

grown_levels : (by : ℕ) (o : Option Bounds) (r : Request)
    → levels_in (grown_request by o r) ≡ levels_in r
grown_levels by (Some b) (Block c) = refl
grown_levels by (Some b) (Piece p n g) = refl
grown_levels by None (Block c) = refl
grown_levels by None (Piece p n g) = refl

layers_levels : (o : Option Bounds) (r : Request)
    → levels_in (layers_request o r) ≤ levels_in r + 1
layers_levels (Some b) (Block c) = omega arith
layers_levels (Some b) (Piece p n g) = omega arith
layers_levels None (Block c) = omega arith
layers_levels None (Piece p n g) = omega arith

more_levels : (r : Request) → levels_in (more_ghosts r) ≤ levels_in r + 1
more_levels (Block b) = omega arith
more_levels (Piece p n g) = omega arith

-- a node asks for one level more at most
pub asked_levels : (s : Settings) (o : Option Bounds) (r : Request)
    → levels_in (asked s o r) ≤ levels_in r + 1
asked_levels (settings.File array unit) o r = omega (arith, all_levels o)
asked_levels (settings.Crop x0 x1 y0 y1 z0 z1) o r = omega arith
asked_levels (settings.Sample x y z) o r = omega (arith, spread_levels (sample_rate x y z) r)
asked_levels (settings.Threshold lo hi) o r = omega arith
asked_levels (settings.Smooth radius) o r = omega (arith, grown_levels (mean_radius radius) o r)
asked_levels (settings.Arith op) o r = omega arith
asked_levels settings.Tets o r = layers_levels o r
asked_levels (settings.Select lo hi all) o r = omega arith
asked_levels (settings.Contour count levels) o r = layers_levels o r
asked_levels (settings.Cut a b c e) o r = layers_levels o r
asked_levels settings.Append o r = omega arith
asked_levels settings.Boundary o r = more_levels r
asked_levels settings.Merge o r = omega (arith, all_levels o)
asked_levels (settings.Writer binary digits version) o r = omega arith

-- and makes no more
pub widened_levels : (s : Settings) (o : Option Bounds) (r : Request)
    → levels_in (widened s o r) ≤ levels_in r
widened_levels (settings.File array unit) o r = omega (arith, all_levels o)
widened_levels (settings.Crop x0 x1 y0 y1 z0 z1) o r = omega arith
widened_levels (settings.Sample x y z) o r = omega arith
widened_levels (settings.Threshold lo hi) o r = omega arith
widened_levels (settings.Smooth radius) o r = omega arith
widened_levels (settings.Arith op) o r = omega arith
widened_levels settings.Tets o r = omega arith
widened_levels (settings.Select lo hi all) o r = omega arith
widened_levels (settings.Contour count levels) o r = omega arith
widened_levels (settings.Cut a b c e) o r = omega arith
widened_levels settings.Append o r = omega arith
widened_levels settings.Boundary o r = omega arith
widened_levels settings.Merge o r = omega (arith, all_levels o)
widened_levels (settings.Writer binary digits version) o r = omega arith

pub has_room : (r : Request) → levels_in r + 1 < 2 ^ 32 → HasRoom r
has_room (Block b) l = tt
has_room (Piece p n g) l = l
