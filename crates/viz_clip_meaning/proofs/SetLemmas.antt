-- Items of a set in order: they ascend, and are the items of the list.
use Rattle.std.proofs.Common.{◌≡◌, ℕ, Bool, true, false, ◌⊎◌, inl, inr, ⊎_elim, List, [], ◌∷◌, get_or, map, cond, Ordering, Less, Equal, Greater, is_lt, refl, sym, ap, ap₂, subst, ◌∙◌, true≢false, arith}
use Rattle.std.specs.Cmp.{IsTotalOrder}
use Rattle.std.specs.Cmp.Lexicographic.{slice_cmp}
use Rattle.std.specs.List.{All, Contains, AllByRecursion}
use Rattle.std.specs.List.Sorted.{IsStrictlySortedBy}
use Rattle.std.specs.Ordering.{nat_cmp, ordering_reverse}
use Rattle.std.proofs.lemmas.Bool.{cond_both}
use Rattle.std.proofs.lemmas.Cmp.{lists_total}
use Rattle.std.proofs.lemmas.List.Elements.{All-contains, All-nil, All-cons}
use Rattle.std.proofs.lemmas.Map.Lookups.{exact_bytes}
use Rattle.viz_sheet.proofs.MemberLemmas.{here, there, member_cases, no_member, same_from_members}
use Rattle.viz_meaning.proofs.ListLemmas.{all-among}
use Rattle.viz_clip_meaning.specs.declared.vertex.Vertex.{Vertex}
use Rattle.viz_clip_meaning.specs.declared.vertex.Vertex.TheVariants.{Corner, Cut}
use Rattle.viz_clip_meaning.specs.Order.{with_item, ascending}
use Rattle.viz_clip_meaning.specs.Vertices.{place_of, vertex_cmp}
use Rattle.viz_clip_meaning.specs.Solids.{in_order}

lt_is_less : (o : Ordering) → is_lt o ≡ true → o ≡ Less
lt_is_less Less h = refl
lt_is_less Equal h = absurd (true≢false (sym h))
lt_is_less Greater h = absurd (true≢false (sym h))

neither : (o : Ordering) → is_lt o ≡ false → is_lt (ordering_reverse o) ≡ false → o ≡ Equal
neither Less p q = absurd (true≢false p)
neither Equal p q = refl
neither Greater p q = absurd (true≢false q)

-- items that compare as equal are the same
abbrev pub IsExact : {X : Type 0} → (X → X → Ordering) → Type 0
IsExact {X} R = (x y : X) → R x y ≡ Equal → x ≡ y

module _ {X : Type 0} {R : X → X → Ordering} (o : IsTotalOrder R) where
  in_front : (x y : X) (ys : List X) → R x y ≡ Less → IsStrictlySortedBy R (y ∷ ys) → IsStrictlySortedBy R (x ∷ y ∷ ys)
  unfolding IsStrictlySortedBy
  in_front x y ys e s = ((e, all_below ys s.0), s)
    where
      all_below : (zs : List X) → AllByRecursion (λ z. R y z ≡ Less) zs → AllByRecursion (λ z. R x z ≡ Less) zs
      all_below [] a = tt
      all_below (z ∷ zs) a = (o.trans x y z e a.0, all_below zs a.1)

  all_with : (P : X → Type 0) (n : X) (ms : List X) → P n → AllByRecursion P ms → AllByRecursion P (with_item R n ms)
  all_with P n [] p a = (p, tt)
  all_with P n (m ∷ ms) p a =
      cond_both (is_lt (R n m)) (n ∷ m ∷ ms) _ (AllByRecursion P) (λ _. (p, a))
      (λ _. cond_both (is_lt (R m n)) (m ∷ with_item R n ms) (m ∷ ms) (AllByRecursion P) (λ _. (a.0, all_with P n ms p a.1)) (λ _. a))

  sorted-with_item : (n : X) (ms : List X) → IsStrictlySortedBy R ms → IsStrictlySortedBy R (with_item R n ms)
  unfolding IsStrictlySortedBy
  sorted-with_item n [] s = (tt, tt)
  sorted-with_item n (m ∷ ms) s =
      cond_both (is_lt (R n m)) (n ∷ m ∷ ms) _ (IsStrictlySortedBy R) (λ h. in_front n m ms (lt_is_less (R n m) h) s)
      (λ _. cond_both (is_lt (R m n)) (m ∷ with_item R n ms) (m ∷ ms) (IsStrictlySortedBy R)
      (λ h. (all_with (λ z. R m z ≡ Less) n ms (lt_is_less (R m n) h) s.0, sorted-with_item n ms s.1))
      (λ _. s))

  pub sorted-ascending : (ns : List X) → IsStrictlySortedBy R (ascending R ns)
  unfolding IsStrictlySortedBy
  sorted-ascending [] = tt
  sorted-ascending (n ∷ ns) = sorted-with_item n (ascending R ns) (sorted-ascending ns)

  cases_of-with_item : (n : X) (ms : List X) (z : X) → Contains (with_item R n ms) z → (n ≡ z) ⊎ Contains ms z
  cases_of-with_item n [] z = member_cases n [] z
  cases_of-with_item n (m ∷ ms) z =
      let goal : List X → Type 0 = λ l. Contains l z → (n ≡ z) ⊎ Contains (m ∷ ms) z in
      cond_both (is_lt (R n m)) (n ∷ m ∷ ms) _ goal (λ _. member_cases n (m ∷ ms) z)
      (λ _. cond_both (is_lt (R m n)) (m ∷ with_item R n ms) (m ∷ ms) goal
      (λ _ c. ⊎_elim (λ e. inr (subst (Contains (m ∷ ms)) e (here m ms))) (λ d. ⊎_elim inl (λ k. inr (there m ms z k)) (cases_of-with_item n ms z d)) (member_cases m (with_item R n ms) z c))
      (λ _ c. inr c))

  pub of-ascending : (ns : List X) (z : X) → Contains (ascending R ns) z → Contains ns z
  of-ascending [] z c = c
  of-ascending (n ∷ ns) z c =
      ⊎_elim
      (λ e. subst (Contains (n ∷ ns)) e (here n ns))
      (λ d. there n ns z (of-ascending ns z d))
      (cases_of-with_item n (ascending R ns) z c)

  same : IsExact R → (m n : X) → is_lt (R m n) ≡ false → is_lt (R n m) ≡ false → m ≡ n
  same exact m n p q = exact m n (neither (R m n) p (ap is_lt (sym (o.antisymm n m)) ∙ q))

  first_in-with_item : IsExact R → (n : X) (ms : List X) → Contains (with_item R n ms) n
  first_in-with_item exact n [] = here n []
  first_in-with_item exact n (m ∷ ms) =
      cond_both (is_lt (R n m)) (n ∷ m ∷ ms) _ (λ l. Contains l n) (λ _. here n (m ∷ ms))
      (λ not_before. cond_both (is_lt (R m n)) (m ∷ with_item R n ms) (m ∷ ms) (λ l. Contains l n)
      (λ _. there m (with_item R n ms) n (first_in-with_item exact n ms))
      (λ not_after. subst (Contains (m ∷ ms)) (same exact m n not_after not_before) (here m ms)))

  rest_in-with_item : (n : X) (ms : List X) (z : X) → Contains ms z → Contains (with_item R n ms) z
  rest_in-with_item n [] z c = absurd (no_member z c)
  rest_in-with_item n (m ∷ ms) z c =
      cond_both (is_lt (R n m)) (n ∷ m ∷ ms) _ (λ l. Contains l z) (λ _. there n (m ∷ ms) z c)
      (λ _. cond_both (is_lt (R m n)) (m ∷ with_item R n ms) (m ∷ ms) (λ l. Contains l z)
      (λ _. ⊎_elim (λ e. subst (Contains (m ∷ with_item R n ms)) e (here m (with_item R n ms))) (λ d. there m (with_item R n ms) z (rest_in-with_item n ms z d)) (member_cases m ms z c))
      (λ _. c))

  pub in-ascending : IsExact R → (ns : List X) (z : X) → Contains ns z → Contains (ascending R ns) z
  in-ascending exact [] z c = c
  in-ascending exact (n ∷ ns) z c =
      ⊎_elim
      (λ e. subst (Contains (ascending R (n ∷ ns))) e (first_in-with_item exact n (ascending R ns)))
      (λ d. rest_in-with_item n (ascending R ns) z (in-ascending exact ns z d))
      (member_cases n ns z c)

  -- a list that ascends and has just the items of another one
  pub ascending-is : IsExact R → (xs ns : List X) → IsStrictlySortedBy R xs → ((z : X) → Contains xs z → Contains ns z) → ((z : X) → Contains ns z → Contains xs z)
      → xs ≡ ascending R ns
  ascending-is exact xs ns s there_too back =
      same_from_members o xs (ascending R ns) s (sorted-ascending ns)
      (λ z c. in-ascending exact ns z (there_too z c))
      (λ z c. back z (of-ascending ns z c))

  each-sorted : (ts : List (List X)) → All (IsStrictlySortedBy R) (map (ascending R) ts)
  each-sorted [] = All-nil (IsStrictlySortedBy R)
  each-sorted (t ∷ ts) = All-cons (IsStrictlySortedBy R) (ascending R t) (map (ascending R) ts) (sorted-ascending t) (each-sorted ts)

-- each tetrahedron in order ascends
pub in_order-sorted : {X : Type 0} {R : X → X → Ordering} (o : IsTotalOrder R) → (ts : List (List X)) → All (IsStrictlySortedBy R) (in_order R ts)
in_order-sorted {X} {R} o ts =
    all-among (IsStrictlySortedBy R) (in_order R ts) (map (ascending R) ts) (each-sorted o ts)
    (λ t c. of-ascending (lists_total o) (map (ascending R) ts) t c)

-- ---- vertices

first_of : (v w : Vertex) → place_of v ≡ place_of w → v ≡ w
first_of (Corner a) (Corner b) e = ap (λ (l : List ℕ). Corner (get_or l 1 0)) e
first_of (Corner a) (Cut b c) e = absurd (differ (ap (λ (l : List ℕ). get_or l 0 0) e))
  where
    differ : ◌≡◌ {A = ℕ} 0 1 → ⊥
    differ h = omega (arith, h)
first_of (Cut a b) (Corner c) e = absurd (differ (ap (λ (l : List ℕ). get_or l 0 0) e))
  where
    differ : ◌≡◌ {A = ℕ} 1 0 → ⊥
    differ h = omega (arith, h)
first_of (Cut a b) (Cut c d) e = ap (λ (l : List ℕ). Cut (get_or l 1 0) (get_or l 2 0)) e

pub vertices-exact : IsExact vertex_cmp
vertices-exact v w e = first_of v w (exact_bytes (place_of v) (place_of w) e)

pub numbers-exact : IsExact nat_cmp
numbers-exact j k e = grind (arith)
