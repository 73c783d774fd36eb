-- The rank of an edge among edges that ascend: its index, or the place where a search would put it.
use Rattle.std.proofs.Common.{◌≡◌, ℕ, zero, suc, ◌+◌, ◌<◌, ◌≤◌, Bool, true, false, cond, List, [], ◌∷◌, length, get_or, Less, Equal, Greater, is_lt, ap, subst, ◌∙◌, arith, ⊎_elim}
use Rattle.std.specs.List.{count_by}
use Rattle.std.specs.Ordering.{ordering_index, ordering_reverse}
use Rattle.std.specs.List.Sorted.{IsStrictlySortedBy, IsPartitionPoint, IsNonDecreasingBy}
use Rattle.std.proofs.lemmas.Bool.{cases_lt}
use Rattle.std.proofs.lemmas.Cmp.{tied_itself}
use Rattle.std.proofs.lemmas.List.{get_or_default}
use Rattle.std.proofs.lemmas.List.Sorted.{searchable_from_sorted}
use Rattle.std.proofs.lemmas.List.Sums.{sum_by-cons}
use Rattle.std.proofs.lemmas.Map.Keys.{Less-from_sorted}
use Rattle.viz_grid_section.specs.Edges.{Edge}
use Rattle.viz_grid_section.specs.Edges.{is_before, rank_of}
use Rattle.viz_grid_section.proofs.EdgeOrder.{edge_cmp, edge_cmp_total, less-before, after-not_before, equal-not_before, greater-not_before}

count_by-cons : {X : Type 0} (p : X → Bool) (x : X) (xs : List X) → count_by p (x ∷ xs) ≡ cond (p x) 1 0 + count_by p xs
count_by-cons p x xs = sum_by-cons (λ y. cond (p y) 1 0) x xs

-- where just the first i pass, i pass
count-of_first : {X : Type 0} (p : X → Bool) (xs : List X) (i : ℕ) → i ≤ length xs → ((k : ℕ) (d : X) → k < i → p (get_or xs k d) ≡ true) → ((k : ℕ) (d : X) → i ≤ k → k < length xs → p (get_or xs k d) ≡ false) → count_by p xs ≡ i
count-of_first p [] i l passes fails = omega arith
count-of_first p (x ∷ xs) zero l passes fails =
    let rest = count-of_first p xs zero (omega arith) (λ k d below. absurd (omega arith)) (λ k d from below. fails (suc k) d (omega arith) (omega arith)) in
    count_by-cons p x xs ∙ rw (fails 0 x (omega arith) (omega arith)) (omega (arith, rest))
count-of_first p (x ∷ xs) (suc i) l passes fails =
    let rest = count-of_first p xs i (omega arith) (λ k d below. passes (suc k) d (omega arith)) (λ k d from below. fails (suc k) d (omega arith) (omega arith)) in
    count_by-cons p x xs ∙ rw (passes 0 x (omega arith)) (omega (arith, rest))

-- the rank of the edge at an index
pub rank-at : (ns : List Edge) (i : ℕ) (d : Edge) → IsStrictlySortedBy edge_cmp ns → i < length ns → rank_of ns (get_or ns i d) ≡ i
rank-at ns i d s l = count-of_first (λ m. is_before m (get_or ns i d)) ns i (omega arith) before not_before
  where
    n : Edge
    n = get_or ns i d

    before : (k : ℕ) (e : Edge) → k < i → is_before (get_or ns k e) n ≡ true
    before k e below =
        subst (λ m. is_before m n ≡ true) (get_or_default ns k d e (omega arith))
        (less-before (get_or ns k d) n (Less-from_sorted edge_cmp ns k i d s below l))

    not_before : (k : ℕ) (e : Edge) → i ≤ k → k < length ns → is_before (get_or ns k e) n ≡ false
    not_before k e from below =
        subst (λ m. is_before m n ≡ false) (get_or_default ns k d e below)
        (⊎_elim
        (λ after. after-not_before (get_or ns k d) n (Less-from_sorted edge_cmp ns i k d s after below))
        (λ up_to. equal-not_before (get_or ns k d) n (subst (λ j. edge_cmp (get_or ns j d) n ≡ Equal) {x = i} {y = k} (omega arith) (tied_itself edge_cmp_total n)))
        (cases_lt i k))

-- the rank of an edge, by where a search ends that doesn't find it
pub rank-at_place : (ns : List Edge) (n : Edge) (i : ℕ) → i ≤ length ns → IsPartitionPoint (λ m. edge_cmp m n ≡ Less) (λ m. edge_cmp m n ≡ Greater) ns i → rank_of ns n ≡ i
rank-at_place ns n i l h =
    count-of_first (λ m. is_before m n) ns i l
    (λ k d below. less-before (get_or ns k d) n (h.0 k d (omega arith) below))
    (λ k d from below. greater-not_before (get_or ns k d) n (h.1 k d from below))

-- edges that ascend may be searched
pub searchable : (ns : List Edge) (n : Edge) → IsStrictlySortedBy edge_cmp ns → IsNonDecreasingBy (λ m. ordering_index (edge_cmp m n)) ns
searchable ns n s =
    searchable_from_sorted edge_cmp_total (λ m. m) ns n
    (λ k d from below. ap is_lt (edge_cmp_total.antisymm (get_or ns (k + 1) d) (get_or ns k d) ∙ ap ordering_reverse (Less-from_sorted edge_cmp ns k (k + 1) d s (omega arith) (omega arith))))
