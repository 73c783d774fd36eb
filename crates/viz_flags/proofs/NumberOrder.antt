-- The edges of a grid ascend by their numbers.
use Rattle.std.proofs.Common.{◌≡◌, ℕ, zero, suc, ◌+◌, ◌-◌, ◌/◌, ◌%◌, ◌<◌, ⊎_elim, map, Less, Equal, nat_cmp, refl, subst, arith}
use Rattle.std.specs.List.{AllByRecursion, range_with_len}
use Rattle.std.specs.List.Sorted.{IsStrictlySortedBy}
use Rattle.std.proofs.lemmas.Bool.{cases_lt}
use Rattle.viz_grid_section.specs.Edges.{Edge}
use Rattle.viz_grid_section.proofs.EdgeOrder.{edge_cmp}
use Rattle.viz_flags.specs.Edges.{edge, step_of}
use Rattle.viz_flags.proofs.RowLemmas.{each_below}

less_is : (a b : ℕ) → a < b → nat_cmp a b ≡ Less
less_is a b h = grind (arith)

same_is : (a : ℕ) → nat_cmp a a ≡ Equal
same_is a = grind (arith)

by_low : (m n : Edge) → m.low < n.low → edge_cmp m n ≡ Less
by_low m n h = rw (less_is m.low n.low h) refl

by_high : (m n : Edge) → m.low ≡ n.low → m.high < n.high → edge_cmp m n ≡ Less
by_high m n e h = rw e (rw (same_is n.low, less_is m.high n.high h) refl)

module _ (row plane : ℕ) (wide : 1 < row) (high : row + 1 < plane) where
  step_next : (d : ℕ) → d < 7 → step_of row plane d < step_of row plane (d + 1)
  step_next = each_below (λ d. step_of row plane d < step_of row plane (d + 1)) 7
      (wide, (omega arith, (high, (omega arith, (omega arith, (omega arith, (omega arith, tt)))))))

  step_rises : (d k : ℕ) → d + k < 7 → step_of row plane d < step_of row plane (d + k + 1)
  step_rises d zero h = subst (λ n. step_of row plane d < step_of row plane n) {x = d + 1} {y = d + 0 + 1} (omega arith) (step_next d (omega arith))
  step_rises d (suc k) h =
      let here = step_rises d k (omega arith) in
      let next = step_next (d + k + 1) (omega arith) in
      let both : step_of row plane d < step_of row plane (d + k + 1 + 1) = omega arith in
      subst (λ n. step_of row plane d < step_of row plane n) {x = d + k + 1 + 1} {y = d + suc k + 1} (omega arith) both

  step_less : (d e : ℕ) → d < e → e < 8 → step_of row plane d < step_of row plane e
  step_less d e h l = from (e - d - 1) (omega arith)
    where
      from : (k : ℕ) → d + k + 1 ≡ e → step_of row plane d < step_of row plane e
      from k is = subst (λ n. step_of row plane d < step_of row plane n) is (step_rises d k (omega arith))

  pub edge_less : (i j : ℕ) → i < j → edge_cmp (edge row plane i) (edge row plane j) ≡ Less
  unfolding edge
  edge_less i j h =
      ⊎_elim
      (λ less. by_low (edge row plane i) (edge row plane j) less)
      (λ same_low. let is : i / 8 ≡ j / 8 = omega arith in
      let order : i % 8 < j % 8 = omega arith in
      let steps = step_less (i % 8) (j % 8) order (omega arith) in
      by_high (edge row plane i) (edge row plane j) is (omega (arith, is, steps)))
      (cases_lt (i / 8) (j / 8))

  later : (i from n : ℕ) → i < from → AllByRecursion (λ z. edge_cmp (edge row plane i) z ≡ Less) (map (edge row plane) (range_with_len from n))
  later i from zero h = tt
  later i from (suc n) h = (edge_less i from h, later i (from + 1) n (omega arith))

  pub edges_rise : (from n : ℕ) → IsStrictlySortedBy edge_cmp (map (edge row plane) (range_with_len from n))
  unfolding IsStrictlySortedBy
  edges_rise from zero = tt
  edges_rise from (suc n) = (later from (from + 1) n (omega arith), edges_rise (from + 1) n)
