-- Edges in order: a list that ascends is known by its members, and `each_once` gives the list of a list's members.
use Rattle.std.proofs.Common.{◌≡◌, ℕ, zero, suc, ◌<◌, true, ◌⊎◌, inl, inr, ⊎_elim, List, [], ◌∷◌, length, get_or, Ordering, Less, Equal, Greater, is_lt, is_eq, refl, sym, ap, subst, ◌∙◌, true≢false, arith}
use Rattle.std.specs.Cmp.{IsTotalOrder}
use Rattle.std.specs.List.{Contains, AllByRecursion, dedup}
use Rattle.std.specs.List.Retain.{IsFiltered, DiffersFromLast}
use Rattle.std.specs.List.Sorted.{IsStrictlySortedBy, IsSorted, IsPermutation}
use Rattle.std.proofs.lemmas.Bool.{cond_both}
use Rattle.std.proofs.lemmas.Cmp.{tied_itself}
use Rattle.std.proofs.lemmas.List.Elements.{All-from_recursion, All-contains}
use Rattle.std.proofs.lemmas.List.Filters.{dedup_is}
use Rattle.std.proofs.lemmas.List.Kept.{IsStrictlySortedBy-dedup, Contains-dedup, Contains-from_dedup}
use Rattle.std.proofs.lemmas.List.Sorted.{Contains-permutation, IsPermutation-sym}
use Rattle.std.proofs.lemmas.Map.Keys.{sorted_head, sorted_tail}
use Rattle.viz_grid_section.specs.Edges.{Edge}
use Rattle.viz_grid_section.specs.Edges.{is_before, with_edge, each_once, AreAscending}
use Rattle.viz_grid_section.proofs.EdgeOrder.{edge_cmp, edge_cmp_total, edge_eq, edge_eq_equiv, edge_eq-is, same_edge, before-less, less-before, not_before-same}

-- ---- members

here : {X : Type 0} (x : X) (xs : List X) → Contains (x ∷ xs) x
here x xs = (0, omega arith, refl)

there : {X : Type 0} (x : X) (xs : List X) (y : X) → Contains xs y → Contains (x ∷ xs) y
there x xs y c = (suc c.0, omega (arith, c.1), c.2)

cases_at : {X : Type 0} (x : X) (xs : List X) (y : X) (k : ℕ) → k < length (x ∷ xs) → get_or (x ∷ xs) k y ≡ y → (x ≡ y) ⊎ Contains xs y
cases_at x xs y zero l e = inl e
cases_at x xs y (suc k) l e = inr (k, omega arith, e)

member_cases : {X : Type 0} (x : X) (xs : List X) (y : X) → Contains (x ∷ xs) y → (x ≡ y) ⊎ Contains xs y
member_cases x xs y c = cases_at x xs y c.0 c.1 c.2

no_member : {X : Type 0} (y : X) → Contains [] y → ⊥
no_member y c = omega (arith, c.1)

-- ---- strictly sorted lists with the same members are the same

module _ {X : Type 0} {R : X → X → Ordering} (o : IsTotalOrder R) where
  all_after : (x : X) (xs : List X) → IsStrictlySortedBy R (x ∷ xs) → (y : X) → Contains xs y → R x y ≡ Less
  all_after x xs s y c = All-contains (λ z. R x z ≡ Less) xs y (All-from_recursion (λ z. R x z ≡ Less) xs (sorted_head R x xs s)) c

  not_after_itself : (x : X) → R x x ≡ Less → ⊥
  not_after_itself x h = true≢false (ap is_lt (sym h ∙ tied_itself o x))

  same_heads : (x : X) (xs : List X) (y : X) (ys : List X) → IsStrictlySortedBy R (x ∷ xs) → IsStrictlySortedBy R (y ∷ ys) → Contains (y ∷ ys) x → Contains (x ∷ xs) y → x ≡ y
  same_heads x xs y ys s t c d =
      ⊎_elim (λ e. sym e)
      (λ in_ys. ⊎_elim (λ e. e) (λ in_xs. absurd (not_after_itself x (o.trans x y x (all_after x xs s y in_xs) (all_after y ys t x in_ys)))) (member_cases x xs y d))
      (member_cases y ys x c)

  in_tail : (x : X) (xs : List X) (y : X) (ys : List X) → IsStrictlySortedBy R (x ∷ xs) → x ≡ y → (z : X) → Contains xs z → Contains (y ∷ ys) z → Contains ys z
  in_tail x xs y ys s e z c d =
      ⊎_elim
      (λ is_head. absurd (not_after_itself z (subst (λ u. R u z ≡ Less) (e ∙ is_head) (all_after x xs s z c))))
      (λ in_ys. in_ys)
      (member_cases y ys z d)

  pub same_from_members : (xs ys : List X) → IsStrictlySortedBy R xs → IsStrictlySortedBy R ys → ((z : X) → Contains xs z → Contains ys z) → ((z : X) → Contains ys z → Contains xs z) → xs ≡ ys
  same_from_members [] [] s t there_too back = refl
  same_from_members [] (y ∷ ys) s t there_too back = absurd (no_member y (back y (here y ys)))
  same_from_members (x ∷ xs) [] s t there_too back = absurd (no_member x (there_too x (here x xs)))
  same_from_members (x ∷ xs) (y ∷ ys) s t there_too back =
      let e : x ≡ y = same_heads x xs y ys s t (there_too x (here x xs)) (back y (here y ys)) in
      let rest : xs ≡ ys = same_from_members xs ys (sorted_tail R x xs s) (sorted_tail R y ys t)
      (λ z c. in_tail x xs y ys s e z c (there_too z (there x xs z c)))
      (λ z c. in_tail y ys x xs t (sym e) z c (back z (there y ys z c))) in
      λ i. e i ∷ rest i

-- ---- edges that ascend are strictly sorted

in_front : (x y : Edge) (ys : List Edge) → edge_cmp x y ≡ Less → IsStrictlySortedBy edge_cmp (y ∷ ys) → IsStrictlySortedBy edge_cmp (x ∷ y ∷ ys)
unfolding IsStrictlySortedBy
in_front x y ys e s = ((e, all_below ys s.0), s)
  where
    all_below : (zs : List Edge) → AllByRecursion (λ z. edge_cmp y z ≡ Less) zs → AllByRecursion (λ z. edge_cmp x z ≡ Less) zs
    all_below [] a = tt
    all_below (z ∷ zs) a = (edge_cmp_total.trans x y z e a.0, all_below zs a.1)

pub sorted-from_ascending : (xs : List Edge) → AreAscending xs → IsStrictlySortedBy edge_cmp xs
unfolding IsStrictlySortedBy
sorted-from_ascending [] a = tt
sorted-from_ascending (x ∷ []) a = (tt, tt)
sorted-from_ascending (x ∷ y ∷ ys) a = in_front x y ys (before-less x y a.0) (sorted-from_ascending (y ∷ ys) a.1)

pub ascending-from_sorted : (xs : List Edge) → IsStrictlySortedBy edge_cmp xs → AreAscending xs
unfolding IsStrictlySortedBy
ascending-from_sorted [] s = tt
ascending-from_sorted (x ∷ []) s = tt
ascending-from_sorted (x ∷ y ∷ ys) s = (less-before x y s.0.0, ascending-from_sorted (y ∷ ys) s.1)

-- ---- an edge among others

all_with : (P : Edge → Type 0) (n : Edge) (ms : List Edge) → P n → AllByRecursion P ms → AllByRecursion P (with_edge n ms)
all_with P n [] p a = (p, tt)
all_with P n (m ∷ ms) p a =
    cond_both (is_before n m) (n ∷ m ∷ ms) _ (AllByRecursion P) (λ _. (p, a))
    (λ _. cond_both (is_before m n) (m ∷ with_edge n ms) (m ∷ ms) (AllByRecursion P) (λ _. (a.0, all_with P n ms p a.1)) (λ _. a))

sorted-with_edge : (n : Edge) (ms : List Edge) → IsStrictlySortedBy edge_cmp ms → IsStrictlySortedBy edge_cmp (with_edge n ms)
unfolding IsStrictlySortedBy
sorted-with_edge n [] s = (tt, tt)
sorted-with_edge n (m ∷ ms) s =
    cond_both (is_before n m) (n ∷ m ∷ ms) _ (IsStrictlySortedBy edge_cmp) (λ h. in_front n m ms (before-less n m h) s)
    (λ _. cond_both (is_before m n) (m ∷ with_edge n ms) (m ∷ ms) (IsStrictlySortedBy edge_cmp)
    (λ h. (all_with (λ z. edge_cmp m z ≡ Less) n ms (before-less m n h) s.0, sorted-with_edge n ms s.1))
    (λ _. s))

first_in-with_edge : (n : Edge) (ms : List Edge) → Contains (with_edge n ms) n
first_in-with_edge n [] = here n []
first_in-with_edge n (m ∷ ms) =
    cond_both (is_before n m) (n ∷ m ∷ ms) _ (λ l. Contains l n) (λ _. here n (m ∷ ms))
    (λ not_before. cond_both (is_before m n) (m ∷ with_edge n ms) (m ∷ ms) (λ l. Contains l n)
    (λ _. there m (with_edge n ms) n (first_in-with_edge n ms))
    (λ not_after. subst (Contains (m ∷ ms)) (not_before-same m n not_after not_before) (here m ms)))

rest_in-with_edge : (n : Edge) (ms : List Edge) (z : Edge) → Contains ms z → Contains (with_edge n ms) z
rest_in-with_edge n [] z c = absurd (no_member z c)
rest_in-with_edge n (m ∷ ms) z c =
    cond_both (is_before n m) (n ∷ m ∷ ms) _ (λ l. Contains l z) (λ _. there n (m ∷ ms) z c)
    (λ _. cond_both (is_before m n) (m ∷ with_edge n ms) (m ∷ ms) (λ l. Contains l z)
    (λ _. ⊎_elim (λ e. subst (Contains (m ∷ with_edge n ms)) e (here m (with_edge n ms))) (λ d. there m (with_edge n ms) z (rest_in-with_edge n ms z d)) (member_cases m ms z c))
    (λ _. c))

cases_of-with_edge : (n : Edge) (ms : List Edge) (z : Edge) → Contains (with_edge n ms) z → (n ≡ z) ⊎ Contains ms z
cases_of-with_edge n [] z = member_cases n [] z
cases_of-with_edge n (m ∷ ms) z =
    let goal : List Edge → Type 0 = λ l. Contains l z → (n ≡ z) ⊎ Contains (m ∷ ms) z in
    cond_both (is_before n m) (n ∷ m ∷ ms) _ goal (λ _. member_cases n (m ∷ ms) z)
    (λ _. cond_both (is_before m n) (m ∷ with_edge n ms) (m ∷ ms) goal
    (λ _ c. ⊎_elim (λ e. inr (subst (Contains (m ∷ ms)) e (here m ms))) (λ d. ⊎_elim inl (λ k. inr (there m ms z k)) (cases_of-with_edge n ms z d)) (member_cases m (with_edge n ms) z c))
    (λ _ c. inr c))

-- ---- each once

pub sorted-each_once : (ns : List Edge) → IsStrictlySortedBy edge_cmp (each_once ns)
unfolding IsStrictlySortedBy
sorted-each_once [] = tt
sorted-each_once (n ∷ ns) = sorted-with_edge n (each_once ns) (sorted-each_once ns)

pub in-each_once : (ns : List Edge) (z : Edge) → Contains ns z → Contains (each_once ns) z
in-each_once [] z c = c
in-each_once (n ∷ ns) z c =
    ⊎_elim
    (λ e. subst (Contains (each_once (n ∷ ns))) e (first_in-with_edge n (each_once ns)))
    (λ d. rest_in-with_edge n (each_once ns) z (in-each_once ns z d))
    (member_cases n ns z c)

pub of-each_once : (ns : List Edge) (z : Edge) → Contains (each_once ns) z → Contains ns z
of-each_once [] z c = c
of-each_once (n ∷ ns) z c =
    ⊎_elim
    (λ e. subst (Contains (n ∷ ns)) e (here n ns))
    (λ d. there n ns z (of-each_once ns z d))
    (cases_of-with_edge n (each_once ns) z c)

-- a strictly sorted list with the members of others is those others, each once
pub each_once-from_members : (ns ms : List Edge) → IsStrictlySortedBy edge_cmp ms → ((z : Edge) → Contains ms z → Contains ns z) → ((z : Edge) → Contains ns z → Contains ms z) → ms ≡ each_once ns
each_once-from_members ns ms s of_ns in_ms =
    same_from_members edge_cmp_total ms (each_once ns) s (sorted-each_once ns)
    (λ z c. in-each_once ns z (of_ns z c))
    (λ z c. in_ms z (of-each_once ns z c))

equal_is : (o : Ordering) → is_eq o ≡ true → o ≡ Equal
equal_is Less h = absurd (true≢false (sym h))
equal_is Equal h = refl
equal_is Greater h = absurd (true≢false (sym h))

-- what `dedup` leaves of sorted edges, which are the edges ns in another order
pub each_once-from_sort : (ns sorted left : List Edge) → IsPermutation ns sorted → IsSorted edge_cmp sorted → IsFiltered (DiffersFromLast edge_eq) [] sorted left → left ≡ each_once ns
each_once-from_sort ns sorted left moved rises kept =
    let same : (m n : Edge) → edge_eq m n ≡ true → m ≡ n = λ m n h. same_edge m n (equal_is (edge_cmp m n) (sym (edge_eq-is m n) ∙ h)) in
    dedup_is edge_eq sorted left kept ∙ each_once-from_members ns (dedup edge_eq sorted) (IsStrictlySortedBy-dedup edge_cmp_total edge_eq-is sorted rises)
    (λ z c. Contains-permutation sorted ns z (IsPermutation-sym ns sorted moved) (Contains-from_dedup edge_eq sorted z c))
    (λ z c. Contains-dedup edge_eq_equiv same sorted z (Contains-permutation ns sorted z moved c))
