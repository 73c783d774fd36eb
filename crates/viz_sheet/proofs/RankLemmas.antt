-- The rank of a name of an ascending list is its index.
use Rattle.std.proofs.Common.{◌≡◌, ℕ, zero, suc, ◌<◌, ◌≤◌, Bool, true, false, List, [], ◌∷◌, length, get_or, refl, sym, ap, ap₂, ◌∙◌, arith}
use Rattle.std.specs.List.{All, count_by}
use Rattle.std.specs.Cmp.Lexicographic.{slice_cmp}
use Rattle.std.specs.Ordering.{nat_cmp, is_lt}
use Rattle.std.proofs.lemmas.Cmp.{nat_list_cmp_total}
use Rattle.std.proofs.lemmas.List.{get_or-map}
use Rattle.std.proofs.lemmas.List.Elements.{All-head, All-tail, All-get_or}
use Rattle.viz_sheet.specs.Sheet.{AreAscending}
use Rattle.viz_sheet.specs.Ranked.{names_at, by_names, rank_of, ranks_of, IsCell}
use Rattle.viz_sheet.proofs.KeptLemmas.{count_by-cons}
use Rattle.viz_sheet.proofs.PairOrder.{compare_as_ranks}

-- where just the first i pass, i pass
pub count-of_first : {X : Type 0} (p : X → Bool) (xs : List X) (i : ℕ) (d : X) → i ≤ length xs → ((k : ℕ) → k < i → p (get_or xs k d) ≡ true) → ((k : ℕ) → i ≤ k → k < length xs → p (get_or xs k d) ≡ false) → count_by p xs ≡ i
count-of_first p [] i d l passes fails = omega arith
count-of_first p (x ∷ xs) zero d l passes fails =
    let rest = count-of_first p xs zero d (omega arith) (λ k below. absurd (omega arith)) (λ k from below. fails (suc k) (omega arith) (omega arith)) in
    count_by-cons p x xs ∙ rw (fails 0 (omega arith) (omega arith)) (omega (arith, rest))
count-of_first p (x ∷ xs) (suc i) d l passes fails =
    let rest = count-of_first p xs i d (omega arith) (λ k below. passes (suc k) (omega arith)) (λ k from below. fails (suc k) (omega arith) (omega arith)) in
    count_by-cons p x xs ∙ rw (passes 0 (omega arith)) (omega (arith, rest))

below_is : (k i : ℕ) → k < i → is_lt (nat_cmp k i) ≡ true
below_is k i h = grind (arith)

from_is : (k i : ℕ) → i ≤ k → is_lt (nat_cmp k i) ≡ false
from_is k i h = grind (arith)

pub rank-at : (names : List (List ℕ)) (i : ℕ) → AreAscending names → i < length names → rank_of names (get_or names i []) ≡ i
rank-at names i s l =
    count-of_first (λ m. is_lt (slice_cmp nat_cmp m (get_or names i []))) names i [] (omega arith)
    (λ k b. ap is_lt (compare_as_ranks nat_list_cmp_total names k i [] s (omega arith) l) ∙ below_is k i b)
    (λ k f b. ap is_lt (compare_as_ranks nat_list_cmp_total names k i [] s b l) ∙ from_is k i f)

-- the ranks of the names at ranks
pub ranks-at : (names : List (List ℕ)) (ranks : List ℕ) → AreAscending names → All (λ r. r < length names) ranks → ranks ≡ ranks_of names (names_at names ranks)
ranks-at names [] s h = refl
ranks-at names (r ∷ rs) s h =
    ap₂ (λ a b. a ∷ b) (sym (rank-at names r s (All-head (λ q. q < length names) r rs h))) (ranks-at names rs s (All-tail (λ q. q < length names) r rs h))

-- the ranks of a cell, of cells
pub cell_ranks : (names : List (List ℕ)) (cells : List (List ℕ)) (i : ℕ) → AreAscending names → All (IsCell (length names)) cells → i < length cells → get_or cells i [] ≡ ranks_of names (get_or (by_names names cells) i [])
cell_ranks names cells i s h l =
    ranks-at names (get_or cells i []) s (All-get_or (IsCell (length names)) cells i [] l h).below
    ∙ ap (ranks_of names) (sym (get_or-map (names_at names) cells i [] [] l))
