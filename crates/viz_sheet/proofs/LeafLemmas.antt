-- The names of one leaf each, by their numbers, ascend.
use Rattle.std.proofs.Common.{◌≡◌, ℕ, zero, suc, ◌+◌, ◌<◌, [], ◌∷◌, map, Less, Equal, ap, arith}
use Rattle.std.specs.List.{AllByRecursion, range_with_len}
use Rattle.std.specs.List.Sorted.{IsStrictlySortedBy}
use Rattle.std.specs.Cmp.Lexicographic.{slice_cmp}
use Rattle.std.specs.Ordering.{nat_cmp, ordering_then}
use Rattle.viz_sheet.specs.Sheet.{AreAscending}
use Rattle.viz_sheet.specs.Ranked.{leaf_names}

less : (x y : ℕ) → x < y → nat_cmp x y ≡ Less
less x y h = grind (arith)

after : (x y n : ℕ) → x < y → AllByRecursion (λ m. slice_cmp nat_cmp (x ∷ []) m ≡ Less) (map (λ leaf. leaf ∷ []) (range_with_len y n))
after x y zero h = tt
after x y (suc n) h = (ap (λ o. ordering_then o Equal) (less x y h), after x (y + 1) n (omega (arith, h)))

from : (x n : ℕ) → AreAscending (map (λ leaf. leaf ∷ []) (range_with_len x n))
unfolding IsStrictlySortedBy
from x zero = tt
from x (suc n) = (after x (x + 1) n (omega arith), from (x + 1) n)

pub leaf_names-ascend : (count : ℕ) → AreAscending (leaf_names count)
leaf_names-ascend count = from 0 count
