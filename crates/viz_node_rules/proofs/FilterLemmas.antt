-- What filters of images make of whole images.
use Rattle.std.proofs.Common.{◌≡◌, ℕ, suc, ◌*◌, ◌/◌, ◌<◌, ◌≤◌, ◌^◌, ℤ, pos, negsuc, ◌*ℤ◌, ◌≤ℤ◌, ◌<ℤ◌, Bool, true, false, cond, ◌&&◌, nat_eq, int_le, Option, None, Some, Result, Ok, Err, refl, sym, ap, subst, ◌∙◌, arith}
use Rattle.std.proofs.Math.Nat.{mul-pos}
use Rattle.std.proofs.lemmas.Bool.Decides.{nat_tests}
use Rattle.viz_dataset.specs.Images.{ImageData, IsImage, IsStep, IsSpacing}
use Rattle.viz_dataset.specs.declared.dataset.Dataset.{Dataset}
use Rattle.viz_dataset.specs.declared.dataset.Dataset.TheVariants.{Image, Mesh}
use Rattle.viz_extent.specs.Extent.{Bounds}
use Rattle.viz_extent.specs.Parts.{Rate, IsRate, IsPart, common, grown, sampled, spread}
use Rattle.viz_meaning.specs.ImageFilters.{arith_of, wider_steps}
use Rattle.viz_meaning.specs.WholeImages.{WholeImage, whole_of, IsOn, GivesOn, GivesOnBoth}
use Rattle.viz_meaning.specs.declared.op.Op.{Op}
use Rattle.viz_network.specs.declared.fault.Cause.{Cause}
use Rattle.viz_network.specs.declared.fault.Cause.TheVariants.{EmptyExtent, TooWide, GridsDiffer}
use Rattle.viz_extent.proofs.PartLemmas.{multiple_from, multiple_to}
use Rattle.viz_image_ops.proofs.PartLemmas.{on_itself}
use Rattle.viz_node_meaning.specs.declared.information.Grid.{Grid}
use Rattle.viz_node_meaning.specs.Information.{grid_of, has_points, with_points, with_steps, and_then, cropped, thinned, same_grid, same_extent, same_lengths, shared_grid, is_short, longer, longer_step, lengths_of}
use Rattle.viz_node_meaning.specs.Data.{IsWhole}
use Rattle.viz_node_rules.specs.Steps.Made.{IsOnGrid, IsFromOne, IsFromTwo, IsNoImage}

-- the grid of an image
abbrev pub image_grid : ImageData → Grid
image_grid i = grid_of i.extent i.origin i.spacing

-- the extent of a grid with points
left_extent : (g h : Grid) → with_points g ≡ Ok h → g.extent ≡ h.extent
left_extent g h e = by (has_points g.extent) e
  where
    by : (b : Bool) → cond b (Ok g) (Err EmptyExtent) ≡ Ok h → g.extent ≡ h.extent
    by true q = (let same : g ≡ h = cc in ap (λ (z : Grid). z.extent) same)
    by false q = (let bad : ⊥ = cc in absurd bad)

-- a part with the whole's extent is the whole
whole_made : (w : WholeImage) (part : Bounds) (o : ImageData) → w.extent ≡ part → IsOn w part o → IsWhole w (Ok (Image o))
whole_made w part o e on = (o, subst (λ p. IsOn w p o) (sym e) on, refl)

-- a filter of one image
pub one_made : (grid : Grid → Result Grid Cause) (filter : WholeImage → WholeImage) (i o : ImageData) (g : Grid) → IsImage i → grid (image_grid i) ≡ Ok g
    → (filter (whole_of i)).extent ≡ g.extent → GivesOn filter i g.extent o → IsFromOne grid filter (Some (Image i)) (Ok (Image o))
one_made grid filter i o g valid e extent gives =
    subst (λ r. IsOnGrid r (filter (whole_of i)) (Ok (Image o))) (sym e) (whole_made (filter (whole_of i)) g.extent o extent (gives (whole_of i) (on_itself i valid)))

-- the same, where the image on the whole extent is known
pub one_on : (filter : WholeImage → WholeImage) (i o : ImageData) (part : Bounds) → (filter (whole_of i)).extent ≡ part → IsOn (filter (whole_of i)) part o
    → IsFromOne (λ g. Ok g) filter (Some (Image i)) (Ok (Image o))
one_on filter i o part extent on = whole_made (filter (whole_of i)) part o extent on

-- the extent of a crop
pub crop_extent : (box : Bounds) (h g : Grid) → cropped box h ≡ Ok g → common h.extent box ≡ g.extent
crop_extent box h g e = left_extent (record { extent = common h.extent box; origin = h.origin; spacing = h.spacing }) g e

-- a crop is a part
pub crop_part : (box : Bounds) (h g : Grid) → cropped box h ≡ Ok g → IsPart h.extent g.extent
crop_part box h g e = subst (IsPart h.extent) (crop_extent box h g e) (record {
  x = record { first = omega arith; last = omega arith };
  y = record { first = omega arith; last = omega arith };
  z = record { first = omega arith; last = omega arith };
})

-- the extent of a sample, and its steps
pub record IsThinned (rate : Rate) (h g : Grid) : Type 0 where
  pub extent : sampled rate h.extent ≡ g.extent
  pub short : is_short (longer rate h.spacing) ≡ true

pub thinned_is : (rate : Rate) (h g : Grid) → thinned rate h ≡ Ok g → IsThinned rate h g
thinned_is rate h g e = by (has_points (sampled rate h.extent)) e
  where
    left : Grid
    left = record { extent = sampled rate h.extent; origin = h.origin; spacing = longer rate h.spacing }

    steps : (c : Bool) → is_short (longer rate h.spacing) ≡ c → cond c (Ok left) (Err TooWide) ≡ Ok g → IsThinned rate h g
    steps true s q = (let same : left ≡ g = cc in record { extent = ap (λ (z : Grid). z.extent) same; short = s })
    steps false s q = (let bad : ⊥ = cc in absurd bad)

    by : (b : Bool) → and_then (cond b (Ok left) (Err EmptyExtent)) with_steps ≡ Ok g → IsThinned rate h g
    by true q = steps (is_short (longer rate h.spacing)) refl q
    by false q = (let bad : ⊥ = cc in absurd bad)

-- the extents of one grid
same_bounds : (a b : Bounds) → same_extent a b ≡ true → a ≡ b
same_bounds a b h =
    let e1 : a.x0 ≡ b.x0 = grind (arith, nat_tests) in
    let e2 : a.x1 ≡ b.x1 = grind (arith, nat_tests) in
    let e3 : a.y0 ≡ b.y0 = grind (arith, nat_tests) in
    let e4 : a.y1 ≡ b.y1 = grind (arith, nat_tests) in
    let e5 : a.z0 ≡ b.z0 = grind (arith, nat_tests) in
    let e6 : a.z1 ≡ b.z1 = grind (arith, nat_tests) in
    let made : ℕ → ℕ → ℕ → ℕ → ℕ → ℕ → Bounds = λ x0 x1 y0 y1 z0 z1. record { x0 = x0; x1 = x1; y0 = y0; y1 = y1; z0 = z0; z1 = z1 } in
    ap (λ n. made n a.x1 a.y0 a.y1 a.z0 a.z1) e1 ∙ ap (λ n. made b.x0 n a.y0 a.y1 a.z0 a.z1) e2 ∙ ap (λ n. made b.x0 b.x1 n a.y1 a.z0 a.z1) e3
    ∙ ap (λ n. made b.x0 b.x1 b.y0 n a.z0 a.z1) e4 ∙ ap (λ n. made b.x0 b.x1 b.y0 b.y1 n a.z1) e5 ∙ ap (λ n. made b.x0 b.x1 b.y0 b.y1 b.z0 n) e6

and_left : (a b : Bool) → (a && b) ≡ true → a ≡ true
and_left true b h = refl
and_left false b h = h

and_right : (a b : Bool) → (a && b) ≡ true → b ≡ true
and_right true b h = h
and_right false b h = (let bad : ⊥ = cc in absurd bad)

-- the grid that two images share
pub record IsShared (g h k : Grid) : Type 0 where
  pub first : g ≡ k
  pub second : g.extent ≡ h.extent

pub shared_is : (g h k : Grid) → shared_grid g h ≡ Ok k → IsShared g h k
shared_is g h k e = by (same_grid g h) refl e
  where
    by : (b : Bool) → same_grid g h ≡ b → cond b (Ok g) (Err GridsDiffer) ≡ Ok k → IsShared g h k
    by true s q = (let same : g ≡ k = cc in record { first = same; second = same_bounds g.extent h.extent (and_left (same_extent g.extent h.extent) _ (and_left (same_extent g.extent h.extent && same_lengths g.origin h.origin) _ s)) })
    by false s q = (let bad : ⊥ = cc in absurd bad)

-- an extent is a part of itself
pub own_part : (b : Bounds) → IsPart b b
own_part b = record { x = record { first = omega arith; last = omega arith }; y = record { first = omega arith; last = omega arith }; z = record { first = omega arith; last = omega arith } }

-- so is one that is grown within it
pub grown_part : (by : ℕ) (b : Bounds) → IsPart b (grown by b b)
grown_part by b = record { x = record { first = omega arith; last = omega arith }; y = record { first = omega arith; last = omega arith }; z = record { first = omega arith; last = omega arith } }

-- arithmetic of two images
pub two_made : (op : Op) (a b o : ImageData) (g : Grid) → IsImage a → IsImage b → shared_grid (image_grid a) (image_grid b) ≡ Ok g → GivesOnBoth (arith_of op) a b g.extent o
    → IsFromTwo (arith_of op) (Some (Image a)) (Some (Image b)) (Ok (Image o))
two_made op a b o g first second e gives =
    let shared = shared_is (image_grid a) (image_grid b) g e in
    subst (λ r. IsOnGrid r (arith_of op (whole_of a) (whole_of b)) (Ok (Image o))) (sym e)
    (whole_made (arith_of op (whole_of a) (whole_of b)) g.extent o (ap (λ (z : Grid). z.extent) shared.first) (gives (whole_of a) (whole_of b) (on_itself a first) (on_itself b second)))

-- both inputs have the points that are asked for
pub two_parts : (a b : ImageData) (g : Grid) → shared_grid (image_grid a) (image_grid b) ≡ Ok g → IsPart a.extent g.extent × IsPart b.extent g.extent
two_parts a b g e =
    let shared = shared_is (image_grid a) (image_grid b) g e in
    let extent = ap (λ (z : Grid). z.extent) shared.first in
    (subst (IsPart a.extent) extent (own_part a.extent), subst (IsPart b.extent) (sym shared.second ∙ extent) (own_part b.extent))

-- a step times a rate, where it isn't too wide
step_kept : (s : ℤ) (r : ℕ) → IsStep s → 1 ≤ r → int_le (longer_step s r) (pos (10 ^ 18)) ≡ true → IsStep (s *ℤ pos r)
step_kept (pos m) r h l e =
    let up = h.above in
    let some : 0 < m = grind (arith, up) in
    let p : 0 < m * r = mul-pos some l in
    record { above = grind (arith, p); most = grind (arith, nat_tests, e) }
step_kept (negsuc m) r h l e = (let up = h.above in let bad : ⊥ = grind arith in absurd bad)

-- a sample has the points that it reads, and steps
pub record IsSampled (rate : Rate) (i : ImageData) (g : Grid) : Type 0 where
  pub part : IsPart i.extent (spread rate g.extent)
  pub steps : IsSpacing (wider_steps rate i.spacing)

sample_part : (rate : Rate) (b : Bounds) → IsRate rate → IsPart b (spread rate (sampled rate b))
sample_part rate b r = record {
  x = record { first = multiple_from b.x0 rate.x (sampled rate b).x0 r.x.least (omega arith); last = multiple_to b.x1 rate.x (sampled rate b).x1 r.x.least (omega arith) };
  y = record { first = multiple_from b.y0 rate.y (sampled rate b).y0 r.y.least (omega arith); last = multiple_to b.y1 rate.y (sampled rate b).y1 r.y.least (omega arith) };
  z = record { first = multiple_from b.z0 rate.z (sampled rate b).z0 r.z.least (omega arith); last = multiple_to b.z1 rate.z (sampled rate b).z1 r.z.least (omega arith) };
}

pub sampled_is : (rate : Rate) (i : ImageData) (g : Grid) → IsRate rate → IsImage i → thinned rate (image_grid i) ≡ Ok g → IsSampled rate i g
sampled_is rate i g r valid e =
    let t = thinned_is rate (image_grid i) g e in
    let v = longer rate (lengths_of i.spacing) in
    let xy = and_left (int_le v.x (pos (10 ^ 18)) && int_le v.y (pos (10 ^ 18))) (int_le v.z (pos (10 ^ 18))) t.short in
    record {
      part = subst (λ b. IsPart i.extent (spread rate b)) t.extent (sample_part rate i.extent r);
      steps = record {
        x = step_kept i.spacing.x rate.x valid.spacing.x r.x.least (and_left (int_le v.x (pos (10 ^ 18))) (int_le v.y (pos (10 ^ 18))) xy);
        y = step_kept i.spacing.y rate.y valid.spacing.y r.y.least (and_right (int_le v.x (pos (10 ^ 18))) (int_le v.y (pos (10 ^ 18))) xy);
        z = step_kept i.spacing.z rate.z valid.spacing.z r.z.least (and_right (int_le v.x (pos (10 ^ 18)) && int_le v.y (pos (10 ^ 18))) (int_le v.z (pos (10 ^ 18))) t.short);
      };
    }
