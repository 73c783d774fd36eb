-- Pairs of ranks compare as the leaves of their names.
use Rattle.std.proofs.Common.{◌≡◌, ℕ, ◌<◌, List, [], ◌∷◌, ◌++◌, length, get_or, map, Ordering, Less, Equal, Greater, refl, sym, ap, ap₂, subst, ◌∙◌, ⊎_elim, arith}
use Rattle.std.specs.List.{All, AllByRecursion}
use Rattle.std.specs.List.Sorted.{IsStrictlySortedBy}
use Rattle.std.specs.Cmp.{IsTotalOrder}
use Rattle.std.specs.Cmp.Lexicographic.{slice_cmp}
use Rattle.std.specs.Ordering.{nat_cmp, ordering_then, ordering_reverse}
use Rattle.std.proofs.lemmas.Bool.{cases_lt}
use Rattle.std.proofs.lemmas.Cmp.{tied_itself, nat_cmp_total, nat_list_cmp_total}
use Rattle.std.proofs.lemmas.Map.Keys.{Less-from_sorted}
use Rattle.std.proofs.lemmas.List.Elements.{All-get_or, All-head, All-tail}
use Rattle.viz_sheet.specs.PairNames.{AreNames, IsPair, pair_name}
use Rattle.viz_sheet.specs.Sheet.{AreAscending}

then_assoc : (o p q : Ordering) → ordering_then o (ordering_then p q) ≡ ordering_then (ordering_then o p) q
then_assoc Less p q = refl
then_assoc Equal p q = refl
then_assoc Greater p q = refl

-- joined lists compare by their fronts, where those are of one length, and then by the rest
slice_cmp-append : (a b c d : List ℕ) → length a ≡ length c → slice_cmp nat_cmp (a ++ b) (c ++ d) ≡ ordering_then (slice_cmp nat_cmp a c) (slice_cmp nat_cmp b d)
slice_cmp-append [] b [] d h = refl
slice_cmp-append [] b (y ∷ c) d h = absurd (omega arith)
slice_cmp-append (x ∷ a) b [] d h = absurd (omega arith)
slice_cmp-append (x ∷ a) b (y ∷ c) d h =
    ap (ordering_then (nat_cmp x y)) (slice_cmp-append a b c d (omega arith))
    ∙ then_assoc (nat_cmp x y) (slice_cmp nat_cmp a c) (slice_cmp nat_cmp b d)

-- items of a strictly sorted list compare as their indices
module _ {X : Type 0} {R : X → X → Ordering} (o : IsTotalOrder R) where
  less : (xs : List X) (i k : ℕ) (d : X) → IsStrictlySortedBy R xs → i < k → k < length xs → R (get_or xs i d) (get_or xs k d) ≡ Less
  less xs i k d s h l = Less-from_sorted R xs i k d s h l

  pub compare_as_ranks : (xs : List X) (i k : ℕ) (d : X) → IsStrictlySortedBy R xs → i < length xs → k < length xs → R (get_or xs i d) (get_or xs k d) ≡ nat_cmp i k
  compare_as_ranks xs i k d s il kl =
      ⊎_elim
      (λ h. less xs i k d s h kl ∙ sym (below i k h))
      (λ h. ⊎_elim
      (λ g. o.antisymm (get_or xs i d) (get_or xs k d) ∙ ap ordering_reverse (less xs k i d s g il) ∙ sym (above i k g))
      (λ g. same i k (omega arith))
      (cases_lt k i))
      (cases_lt i k)
    where
      below : (i k : ℕ) → i < k → nat_cmp i k ≡ Less
      below i k h = grind (arith)

      above : (i k : ℕ) → k < i → nat_cmp i k ≡ Greater
      above i k h = grind (arith)

      same : (i k : ℕ) → i ≡ k → R (get_or xs i d) (get_or xs k d) ≡ nat_cmp i k
      same i k e = subst (λ j. R (get_or xs i d) (get_or xs j d) ≡ nat_cmp i j) e (tied_itself o (get_or xs i d) ∙ sym (tied_itself nat_cmp_total i))

two_items : (p : List ℕ) → length p ≡ 2 → p ≡ get_or p 0 0 ∷ get_or p 1 0 ∷ []
two_items [] h = absurd (omega arith)
two_items (x ∷ []) h = absurd (omega arith)
two_items (x ∷ y ∷ []) h = refl
two_items (x ∷ y ∷ z ∷ p) h = absurd (omega arith)

then_equal : (o : Ordering) → ordering_then o Equal ≡ o
then_equal Less = refl
then_equal Equal = refl
then_equal Greater = refl

of_two : (a b c d : ℕ) → slice_cmp nat_cmp (a ∷ b ∷ []) (c ∷ d ∷ []) ≡ ordering_then (nat_cmp a c) (nat_cmp b d)
of_two a b c d = ap (ordering_then (nat_cmp a c)) (then_equal (nat_cmp b d))

pub pairs_compare : (size : ℕ) (names : List (List ℕ)) (p q : List ℕ) → AreNames size names → IsPair (length names) p → IsPair (length names) q → slice_cmp nat_cmp (pair_name names p) (pair_name names q) ≡ slice_cmp nat_cmp p q
pairs_compare size names p q n hp hq =
    let a = get_or p 0 0 in
    let b = get_or p 1 0 in
    let c = get_or q 0 0 in
    let d = get_or q 1 0 in
    let al : a < length names = omega (arith, hp.rises, hp.below) in
    let cl : c < length names = omega (arith, hq.rises, hq.below) in
    let la = All-get_or (λ m. length m ≡ size) names a [] al n.sized in
    let lc = All-get_or (λ m. length m ≡ size) names c [] cl n.sized in
    slice_cmp-append (get_or names a []) (get_or names b []) (get_or names c []) (get_or names d []) (la ∙ sym lc)
    ∙ ap₂ ordering_then (compare_as_ranks nat_list_cmp_total names a c [] n.ascending al cl) (compare_as_ranks nat_list_cmp_total names b d [] n.ascending hp.below hq.below)
    ∙ sym (ap₂ (slice_cmp nat_cmp) (two_items p hp.two) (two_items q hq.two) ∙ of_two a b c d)

pub pairs_ascend : (size : ℕ) (names : List (List ℕ)) (pairs : List (List ℕ)) → AreNames size names → All (IsPair (length names)) pairs → IsStrictlySortedBy (slice_cmp nat_cmp) pairs → AreAscending (map (pair_name names) pairs)
unfolding IsStrictlySortedBy
pairs_ascend size names [] n h s = tt
pairs_ascend size names (p ∷ ps) n h s =
    (after ps (All-tail (IsPair (length names)) p ps h) s.0, pairs_ascend size names ps n (All-tail (IsPair (length names)) p ps h) s.1)
  where
    after : (qs : List (List ℕ)) → All (IsPair (length names)) qs → AllByRecursion (λ q. slice_cmp nat_cmp p q ≡ Less) qs → AllByRecursion (λ m. slice_cmp nat_cmp (pair_name names p) m ≡ Less) (map (pair_name names) qs)
    after [] k a = tt
    after (q ∷ qs) k a = (
      pairs_compare size names p q n (All-head (IsPair (length names)) p ps h) (All-head (IsPair (length names)) q qs k) ∙ a.0,
      after qs (All-tail (IsPair (length names)) q qs k) a.1,
    )
