-- The grids that filters of images make of the grids at their ports.
use Rattle.std.proofs.Common.{
  ◌≡◌,
  ℤ,
  pos,
  negsuc,
  Bool,
  true,
  false,
  cond,
  Result,
  Ok,
  Err,
  refl,
  sym,
  ap,
  ◌∙◌,
  arith,
}
use Rattle.std.specs.Int.{w128, saturate_signed}
use Rattle.viz_dataset.specs.Images.{IsSpacing, IsStep, Vector}
use Rattle.viz_extent.specs.Extent.{Bounds}
use Rattle.viz_extent.specs.Parts.{Rate, common, sampled}
use Rattle.viz_meaning.specs.ImageFilters.{wider_steps}
use Rattle.viz_network.specs.declared.fault.Cause.{Cause}
use Rattle.viz_network.specs.declared.fault.Cause.TheVariants.{EmptyExtent, GridsDiffer, TooWide}
use Rattle.viz_node_meaning.specs.Information.{
  and_then,
  cropped,
  has_points,
  is_short,
  lengths_of,
  longer,
  longer_step,
  same_grid,
  shared_grid,
  thinned,
  with_points,
  with_steps,
}
use Rattle.viz_node_meaning.specs.declared.information.Grid.{Grid}
use Rattle.viz_node_meaning.specs.declared.information.Lengths.{Lengths}

-- a grid with points is left as it is
left_is : (g h : Grid) → with_points g ≡ Ok h → g ≡ h
left_is g h e = by (has_points g.extent) e
  where
    by : (b : Bool) → cond b (Ok g) (Err EmptyExtent) ≡ Ok h → g ≡ h
    by true q = (let same : g ≡ h = cc in same)
    by false q = (let bad : ⊥ = cc in absurd bad)

-- so is one with steps that aren't too wide
pub short_is : (g h : Grid) → with_steps g ≡ Ok h → g ≡ h
short_is g h e = by (is_short g.spacing) e
  where
    by : (b : Bool) → cond b (Ok g) (Err TooWide) ≡ Ok h → g ≡ h
    by true q = (let same : g ≡ h = cc in same)
    by false q = (let bad : ⊥ = cc in absurd bad)

-- the grid of a crop
pub cropped_is : (box : Bounds) (h g : Grid) → cropped box h ≡ Ok g
    → record { extent = common h.extent box; origin = h.origin; spacing = h.spacing } ≡ g
cropped_is box h g e =
    left_is (record { extent = common h.extent box; origin = h.origin; spacing = h.spacing }) g e

both_is : (g h : Grid) (r : Result Grid Cause) → ((k : Grid) → r ≡ Ok k → g ≡ k)
    → and_then r with_steps ≡ Ok h → g ≡ h
both_is g h (Ok k) same e = same k refl ∙ short_is k h e
both_is g h (Err cause) same e = let bad : ⊥ = cc in absurd bad

-- the grid of a sample
pub thinned_is : (rate : Rate) (h g : Grid) → thinned rate h ≡ Ok g
    → record {
      extent = sampled rate h.extent;
      origin = h.origin;
      spacing = longer rate h.spacing;
    } ≡ g
thinned_is rate h g e =
    let left : Grid = record {
      extent = sampled rate h.extent;
      origin = h.origin;
      spacing = longer rate h.spacing;
    } in
    both_is left g (with_points left) (λ k q. left_is left k q) e

-- the grid of two images is that of the first
pub shared_is : (g h k : Grid) → shared_grid g h ≡ Ok k → g ≡ k
shared_is g h k e = by (same_grid g h) e
  where
    by : (b : Bool) → cond b (Ok g) (Err GridsDiffer) ≡ Ok k → g ≡ k
    by true q = (let same : g ≡ k = cc in same)
    by false q = (let bad : ⊥ = cc in absurd bad)

-- ---- steps

-- a step of an image has room in 128 bits
step_fits : (z : ℤ) → IsStep z → saturate_signed w128 z ≡ z
step_fits (pos n) h = let most = h.most in grind arith
step_fits (negsuc n) h = let up = h.above in let bad : ⊥ = grind arith in absurd bad

-- so the steps of a sample are longer by the rate
pub longer_is : (rate : Rate) (v : Vector) → IsSpacing (wider_steps rate v)
    → lengths_of (wider_steps rate v) ≡ longer rate (lengths_of v)
longer_is rate v h =
    let made : ℤ → ℤ → ℤ → Lengths = λ x y z. record { x = x; y = y; z = z } in
    let w = wider_steps rate v in
    sym
    (ap (λ n. made n (longer_step v.y rate.y) (longer_step v.z rate.z)) (step_fits w.x h.x)
    ∙ ap (λ n. made w.x n (longer_step v.z rate.z)) (step_fits w.y h.y)
    ∙ ap (made w.x w.y) (step_fits w.z h.z))
