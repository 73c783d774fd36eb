-- What fits the dataset that a node makes can be asked of its inputs; and extents that are made of others.
use Rattle.std.proofs.Common.{◌≡◌, ℕ, ◌+◌, ◌*◌, ◌/◌, ◌<◌, ◌≤◌, Option, None, Some, arith}
use Rattle.std.proofs.lemmas.Nat.{mul-le}
use Rattle.viz_extent.specs.Extent.{Bounds, IsExtent}
use Rattle.viz_extent.specs.Parts.{Rate, IsRate, IsAxisPart, IsPart, common, sampled, spread, first_kept}
use Rattle.viz_extent.specs.Slabs.{planes}
use Rattle.viz_extent.proofs.PartLemmas.{part_extent, multiple_from, multiple_to}
use Rattle.viz_kinds.specs.declared.settings.Settings.{Settings}
use Rattle.viz_kinds.specs.declared.settings.Settings.TheVariants as settings
use Rattle.viz_parts.specs.declared.request.Request.{Request}
use Rattle.viz_parts.specs.declared.request.Request.TheVariants.{Block, Piece}
use Rattle.viz_requests.specs.Upstream.{in_range, sample_rate, Fits, extent_made, HasRoom, CanAsk}

-- the multiples of bounds of a part of a kept axis lie on the axis
axis_spread : (lower upper first last rate : ℕ) → 1 ≤ rate → IsAxisPart (first_kept lower rate) (upper / rate) first last → IsAxisPart lower upper (first * rate) (last * rate)
axis_spread lower upper first last rate some part =
    record { first = multiple_from lower rate first some part.first; last = multiple_to upper rate last some part.last }

rate_least : (n : ℕ) → 1 ≤ in_range 1 1024 n
rate_least n = omega arith

-- so do those of a block
spread_part : (rate : Rate) (whole block : Bounds) → 1 ≤ rate.x → 1 ≤ rate.y → 1 ≤ rate.z → IsPart (sampled rate whole) block → IsPart whole (spread rate block)
spread_part rate whole block x y z part =
    record {
      x = axis_spread whole.x0 whole.x1 block.x0 block.x1 rate.x x part.x;
      y = axis_spread whole.y0 whole.y1 block.y0 block.y1 rate.y y part.y;
      z = axis_spread whole.z0 whole.z1 block.z0 block.z1 rate.z z part.z;
    }

common_part : (whole box block : Bounds) → IsPart (common whole box) block → IsPart whole block
common_part whole box block part =
    let x = part.x.first in
    let x' = part.x.last in
    let y = part.y.first in
    let y' = part.y.last in
    let z = part.z.first in
    let z' = part.z.last in
    record {
      x = record { first = omega (arith, x); last = omega (arith, x') };
      y = record { first = omega (arith, y); last = omega (arith, y') };
      z = record { first = omega (arith, z); last = omega (arith, z') };
    }

pub can_ask : (s : Settings) (whole : Option Bounds) (r : Request) → Fits (extent_made s whole) r → HasRoom r → CanAsk s whole r
can_ask (settings.File array unit) whole r f h = tt
can_ask (settings.Crop x0 x1 y0 y1 z0 z1) None r f h = f
can_ask (settings.Crop x0 x1 y0 y1 z0 z1) (Some w) (Block b) f h = common_part w (record { x0 = x0; x1 = x1; y0 = y0; y1 = y1; z0 = z0; z1 = z1 }) b f
can_ask (settings.Crop x0 x1 y0 y1 z0 z1) (Some w) (Piece p n g) f h = absurd f
can_ask (settings.Sample x y z) None (Block b) f h = absurd f
can_ask (settings.Sample x y z) None (Piece p n g) f h = f
can_ask (settings.Sample x y z) (Some w) (Block b) f h = spread_part (sample_rate x y z) w b (rate_least x) (rate_least y) (rate_least z) f
can_ask (settings.Sample x y z) (Some w) (Piece p n g) f h = absurd f
can_ask (settings.Threshold lo hi) None r f h = f
can_ask (settings.Threshold lo hi) (Some w) r f h = f
can_ask (settings.Smooth radius) None r f h = f
can_ask (settings.Smooth radius) (Some w) r f h = f
can_ask (settings.Arith op) None r f h = f
can_ask (settings.Arith op) (Some w) r f h = f
can_ask settings.Tets None r f h = f
can_ask settings.Tets (Some w) r f h = f
can_ask (settings.Select lo hi all) None r f h = f
can_ask (settings.Select lo hi all) (Some w) r f h = f
can_ask (settings.Contour count levels) None r f h = f
can_ask (settings.Contour count levels) (Some w) r f h = f
can_ask (settings.Cut a b c d) None r f h = f
can_ask (settings.Cut a b c d) (Some w) r f h = f
can_ask settings.Append None r f h = f
can_ask settings.Append (Some w) r f h = f
can_ask settings.Boundary None r f h = (f, h)
can_ask settings.Boundary (Some w) r f h = (f, h)
can_ask settings.Merge whole r f h = tt
can_ask (settings.Writer binary digits version) None r f h = f
can_ask (settings.Writer binary digits version) (Some w) r f h = f

-- the multiples of an extent that lie in another are an extent
pub spread_extent : (rate : Rate) (whole block : Bounds) → IsExtent whole → IsExtent block → IsPart whole (spread rate block) → IsExtent (spread rate block)
spread_extent rate whole block valid kept part =
    part_extent whole (spread rate block) valid part
    (mul-le block.x0 rate.x block.x1 rate.x kept.x.order (omega arith))
    (mul-le block.y0 rate.y block.y1 rate.y kept.y.order (omega arith))
    (mul-le block.z0 rate.z block.z1 rate.z kept.z.order (omega arith))

-- the lowest plane of an extent lies in it
pub lowest_part : (whole : Bounds) → IsExtent whole → IsPart whole (planes 0 0 whole)
lowest_part whole valid =
    let z = valid.z.order in
    record {
      x = record { first = omega arith; last = omega arith };
      y = record { first = omega arith; last = omega arith };
      z = record { first = omega arith; last = omega (arith, z) };
    }

-- and is an extent
pub lowest_extent : (whole : Bounds) → IsExtent whole → IsExtent (planes 0 0 whole)
lowest_extent whole valid = part_extent whole (planes 0 0 whole) valid (lowest_part whole valid) valid.x.order valid.y.order (omega arith)
