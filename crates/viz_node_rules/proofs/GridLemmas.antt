-- No point is left of an image just where its bounds have none between them.
use Rattle.std.proofs.Common.{◌≡◌, ℕ, ◌*◌, ◌≤◌, Bool, true, false, cond, ◌&&◌, nat_le, Result, Ok, Err, refl, sym, ap, subst, ◌∙◌, arith}
use Rattle.std.proofs.lemmas.Bool.Decides.{nat_tests}
use Rattle.viz_extent.specs.Extent.{Bounds, Has}
use Rattle.viz_extent.specs.Parts.{Rate, IsRate, common, CommonPoint, sampled, KeepsAxes}
use Rattle.viz_extent.proofs.PartLemmas.{sampled_points}
use Rattle.viz_network.specs.declared.fault.Cause.{Cause}
use Rattle.viz_network.specs.declared.fault.Cause.TheVariants.{EmptyExtent}
use Rattle.viz_node_meaning.specs.declared.information.Grid.{Grid}
use Rattle.viz_node_meaning.specs.Information.{and_then, has_points, with_steps, cropped, thinned, longer}

-- all three axes ascend
pub record Ascend (b : Bounds) : Type 0 where
  pub x : b.x0 ≤ b.x1
  pub y : b.y0 ≤ b.y1
  pub z : b.z0 ≤ b.z1

ascend : (b : Bounds) → has_points b ≡ true → Ascend b
ascend b h = record { x = grind (arith, nat_tests); y = grind (arith, nat_tests); z = grind (arith, nat_tests) }

-- where there is no point, there is none between the bounds
none_of : (b : Bool) → (b ≡ true → ⊥) → b ≡ false
none_of true h = absurd (h refl)
none_of false h = refl

-- what would make nothing something can't be
never : {P : Type 0} → (P → false ≡ true) → P → ⊥
never h p = let bad : ⊥ = (let e = h p in cc) in bad

no_common : (a b : Bounds) → (CommonPoint a b → ⊥) → has_points (common a b) ≡ false
no_common a b h = none_of (has_points (common a b)) (λ t. h (point t))
  where
    point : has_points (common a b) ≡ true → CommonPoint a b
    point t =
        let up = ascend (common a b) t in
        let px = up.x in let py = up.y in let pz = up.z in
        record {
          i = (common a b).x0;
          j = (common a b).y0;
          k = (common a b).z0;
          first = record { x = record { at_least = omega arith; at_most = omega (arith, px) }; y = record { at_least = omega arith; at_most = omega (arith, py) }; z = record { at_least = omega arith; at_most = omega (arith, pz) } };
          second = record { x = record { at_least = omega arith; at_most = omega (arith, px) }; y = record { at_least = omega arith; at_most = omega (arith, py) }; z = record { at_least = omega arith; at_most = omega (arith, pz) } };
        }

no_sample : (rate : Rate) (b : Bounds) → IsRate rate → (KeepsAxes rate b → ⊥) → has_points (sampled rate b) ≡ false
no_sample rate b r h = none_of (has_points (sampled rate b)) (λ t. h (axes t))
  where
    axes : has_points (sampled rate b) ≡ true → KeepsAxes rate b
    axes t =
        let up = ascend (sampled rate b) t in
        let s = sampled rate b in
        let low : Has s s.x0 s.y0 s.z0 = record {
          x = record { at_least = omega arith; at_most = up.x };
          y = record { at_least = omega arith; at_most = up.y };
          z = record { at_least = omega arith; at_most = up.z };
        } in
        let has = (sampled_points rate b r s.x0 s.y0 s.z0).0 low in
        record {
          x = record { index = s.x0; on_axis = has.x };
          y = record { index = s.y0; on_axis = has.y };
          z = record { index = s.z0; on_axis = has.z };
        }

-- nothing is left of a crop
pub empty_crop : (box : Bounds) (g : Grid) → (CommonPoint g.extent box → false ≡ true) → Err EmptyExtent ≡ cropped box g
empty_crop box g h =
    let left : Grid = record { extent = common g.extent box; origin = g.origin; spacing = g.spacing } in
    sym (ap (λ b. cond b (Ok left) (Err EmptyExtent)) (no_common g.extent box (never h)))

-- nothing is left of a sample
pub empty_sample : (rate : Rate) (g : Grid) → IsRate rate → (KeepsAxes rate g.extent → false ≡ true) → Err EmptyExtent ≡ thinned rate g
empty_sample rate g r h =
    let left : Grid = record { extent = sampled rate g.extent; origin = g.origin; spacing = longer rate g.spacing } in
    sym (ap (λ b. and_then (cond b (Ok left) (Err EmptyExtent)) with_steps) (no_sample rate g.extent r (never h)))
