-- Names in order, each once, and the ends of an edge.
use Rattle.std.proofs.Common.{◌≡◌, ℕ, zero, suc, ◌/◌, Bool, true, false, ◌⊎◌, inl, inr, ⊎_elim, List, [], ◌∷◌, ◌++◌, length, take, drop, cond, Ordering, Less, Equal, Greater, is_lt, refl, sym, ap, subst, ◌∙◌, true≢false, arith}
use Rattle.std.specs.List.{Contains, AllByRecursion, flat_map}
use Rattle.std.specs.List.Sorted.{IsStrictlySortedBy}
use Rattle.std.specs.Cmp.Lexicographic.{slice_cmp}
use Rattle.std.specs.Ordering.{nat_cmp, ordering_reverse}
use Rattle.std.proofs.lemmas.Bool.{cond_both}
use Rattle.std.proofs.lemmas.Cmp.{nat_list_cmp_total}
use Rattle.std.proofs.lemmas.List.{length-append}
use Rattle.std.proofs.lemmas.Map.Lookups.{exact_bytes}
use Rattle.viz_sheet.specs.Sheet.{AreAscending}
use Rattle.viz_sheet.proofs.MemberLemmas.{here, there, member_cases, no_member, same_from_members}
use Rattle.viz_meaning.specs.Names.{is_before, edge_name, with_name, each_once, names_of}
use Rattle.viz_meaning.specs.Laws.{HasEnds}

-- ---- the order of names

lt_is_less : (o : Ordering) → is_lt o ≡ true → o ≡ Less
lt_is_less Less h = refl
lt_is_less Equal h = absurd (true≢false (sym h))
lt_is_less Greater h = absurd (true≢false (sym h))

before-less : (m n : List ℕ) → is_before m n ≡ true → slice_cmp nat_cmp m n ≡ Less
before-less m n h = lt_is_less (slice_cmp nat_cmp m n) h

neither : (o : Ordering) → is_lt o ≡ false → is_lt (ordering_reverse o) ≡ false → o ≡ Equal
neither Less p q = absurd (true≢false p)
neither Equal p q = refl
neither Greater p q = absurd (true≢false q)

-- of two different names one comes before the other
pub not_before-same : (m n : List ℕ) → is_before m n ≡ false → is_before n m ≡ false → m ≡ n
not_before-same m n p q =
    exact_bytes m n (neither (slice_cmp nat_cmp m n) p (ap is_lt (sym (nat_list_cmp_total.antisymm n m)) ∙ q))

not_both : (o : Ordering) → is_lt o ≡ true → is_lt (ordering_reverse o) ≡ true → ⊥
not_both Less p q = true≢false (sym q)
not_both Equal p q = true≢false (sym p)
not_both Greater p q = true≢false (sym p)

pub not_before-both : (m n : List ℕ) → is_before m n ≡ true → is_before n m ≡ true → ⊥
not_before-both m n p q =
    not_both (slice_cmp nat_cmp m n) p (ap is_lt (sym (nat_list_cmp_total.antisymm n m)) ∙ q)

-- ---- a name among others

in_front : (x y : List ℕ) (ys : List (List ℕ)) → slice_cmp nat_cmp x y ≡ Less → AreAscending (y ∷ ys) → AreAscending (x ∷ y ∷ ys)
unfolding IsStrictlySortedBy
in_front x y ys e s = ((e, all_below ys s.0), s)
  where
    all_below : (zs : List (List ℕ)) → AllByRecursion (λ z. slice_cmp nat_cmp y z ≡ Less) zs → AllByRecursion (λ z. slice_cmp nat_cmp x z ≡ Less) zs
    all_below [] a = tt
    all_below (z ∷ zs) a = (nat_list_cmp_total.trans x y z e a.0, all_below zs a.1)

all_with : (P : List ℕ → Type 0) (n : List ℕ) (ms : List (List ℕ)) → P n → AllByRecursion P ms → AllByRecursion P (with_name n ms)
all_with P n [] p a = (p, tt)
all_with P n (m ∷ ms) p a =
    cond_both (is_before n m) (n ∷ m ∷ ms) _ (AllByRecursion P) (λ _. (p, a))
    (λ _. cond_both (is_before m n) (m ∷ with_name n ms) (m ∷ ms) (AllByRecursion P) (λ _. (a.0, all_with P n ms p a.1)) (λ _. a))

sorted-with_name : (n : List ℕ) (ms : List (List ℕ)) → AreAscending ms → AreAscending (with_name n ms)
unfolding IsStrictlySortedBy
sorted-with_name n [] s = (tt, tt)
sorted-with_name n (m ∷ ms) s =
    cond_both (is_before n m) (n ∷ m ∷ ms) _ AreAscending (λ h. in_front n m ms (before-less n m h) s)
    (λ _. cond_both (is_before m n) (m ∷ with_name n ms) (m ∷ ms) AreAscending
    (λ h. (all_with (λ z. slice_cmp nat_cmp m z ≡ Less) n ms (before-less m n h) s.0, sorted-with_name n ms s.1))
    (λ _. s))

first_in-with_name : (n : List ℕ) (ms : List (List ℕ)) → Contains (with_name n ms) n
first_in-with_name n [] = here n []
first_in-with_name n (m ∷ ms) =
    cond_both (is_before n m) (n ∷ m ∷ ms) _ (λ l. Contains l n) (λ _. here n (m ∷ ms))
    (λ not_before. cond_both (is_before m n) (m ∷ with_name n ms) (m ∷ ms) (λ l. Contains l n)
    (λ _. there m (with_name n ms) n (first_in-with_name n ms))
    (λ not_after. subst (Contains (m ∷ ms)) (not_before-same m n not_after not_before) (here m ms)))

rest_in-with_name : (n : List ℕ) (ms : List (List ℕ)) (z : List ℕ) → Contains ms z → Contains (with_name n ms) z
rest_in-with_name n [] z c = absurd (no_member z c)
rest_in-with_name n (m ∷ ms) z c =
    cond_both (is_before n m) (n ∷ m ∷ ms) _ (λ l. Contains l z) (λ _. there n (m ∷ ms) z c)
    (λ _. cond_both (is_before m n) (m ∷ with_name n ms) (m ∷ ms) (λ l. Contains l z)
    (λ _. ⊎_elim (λ e. subst (Contains (m ∷ with_name n ms)) e (here m (with_name n ms))) (λ d. there m (with_name n ms) z (rest_in-with_name n ms z d)) (member_cases m ms z c))
    (λ _. c))

cases_of-with_name : (n : List ℕ) (ms : List (List ℕ)) (z : List ℕ) → Contains (with_name n ms) z → (n ≡ z) ⊎ Contains ms z
cases_of-with_name n [] z = member_cases n [] z
cases_of-with_name n (m ∷ ms) z =
    let goal : List (List ℕ) → Type 0 = λ l. Contains l z → (n ≡ z) ⊎ Contains (m ∷ ms) z in
    cond_both (is_before n m) (n ∷ m ∷ ms) _ goal (λ _. member_cases n (m ∷ ms) z)
    (λ _. cond_both (is_before m n) (m ∷ with_name n ms) (m ∷ ms) goal
    (λ _ c. ⊎_elim (λ e. inr (subst (Contains (m ∷ ms)) e (here m ms))) (λ d. ⊎_elim inl (λ k. inr (there m ms z k)) (cases_of-with_name n ms z d)) (member_cases m (with_name n ms) z c))
    (λ _ c. inr c))

-- ---- each once

pub sorted-each_once : (ns : List (List ℕ)) → AreAscending (each_once ns)
unfolding IsStrictlySortedBy
sorted-each_once [] = tt
sorted-each_once (n ∷ ns) = sorted-with_name n (each_once ns) (sorted-each_once ns)

pub in-each_once : (ns : List (List ℕ)) (z : List ℕ) → Contains ns z → Contains (each_once ns) z
in-each_once [] z c = c
in-each_once (n ∷ ns) z c =
    ⊎_elim
    (λ e. subst (Contains (each_once (n ∷ ns))) e (first_in-with_name n (each_once ns)))
    (λ d. rest_in-with_name n (each_once ns) z (in-each_once ns z d))
    (member_cases n ns z c)

pub of-each_once : (ns : List (List ℕ)) (z : List ℕ) → Contains (each_once ns) z → Contains ns z
of-each_once [] z c = c
of-each_once (n ∷ ns) z c =
    ⊎_elim
    (λ e. subst (Contains (n ∷ ns)) e (here n ns))
    (λ d. there n ns z (of-each_once ns z d))
    (cases_of-with_name n (each_once ns) z c)

-- a list that ascends and has just the names of cells
pub names-from_members : (names : List (List ℕ)) (cells : List (List (List ℕ))) → AreAscending names
    → ((n : List ℕ) → Contains names n → Contains (flat_map (λ cell. cell) cells) n)
    → ((n : List ℕ) → Contains (flat_map (λ cell. cell) cells) n → Contains names n)
    → names ≡ names_of cells
names-from_members names cells s of_cells in_names =
    let all = flat_map (λ cell. cell) cells in
    same_from_members nat_list_cmp_total names (each_once all) s (sorted-each_once all)
    (λ z c. in-each_once all z (of_cells z c))
    (λ z c. in_names z (of-each_once all z c))

-- ---- edges

one_of_two : (b c : Bool) (x y : List ℕ) → (b ≡ false → c ≡ false → x ≡ y) → (b ≡ true → c ≡ true → ⊥) → cond b x y ≡ cond c y x
one_of_two true true x y same not = absurd (not refl refl)
one_of_two true false x y same not = refl
one_of_two false true x y same not = refl
one_of_two false false x y same not = sym (same refl refl)

pub edge-turned : (m n : List ℕ) → edge_name m n ≡ edge_name n m
edge-turned m n =
    one_of_two (is_before n m) (is_before m n) (n ++ m) (m ++ n)
    (λ p q. let e : n ≡ m = not_before-same n m p q in ap (λ k. k ++ m) e ∙ ap (λ k. m ++ k) (sym e))
    (not_before-both n m)

take-front : (m n : List ℕ) (k : ℕ) → k ≡ length m → take k (m ++ n) ≡ m
take-front [] n zero h = refl
take-front [] n (suc k) h = absurd (omega arith)
take-front (x ∷ m) n zero h = absurd (omega arith)
take-front (x ∷ m) n (suc k) h = ap (λ l. x ∷ l) (take-front m n k (omega arith))

drop-front : (m n : List ℕ) (k : ℕ) → k ≡ length m → drop k (m ++ n) ≡ n
drop-front [] n zero h = refl
drop-front [] n (suc k) h = absurd (omega arith)
drop-front (x ∷ m) n zero h = absurd (omega arith)
drop-front (x ∷ m) n (suc k) h = drop-front m n k (omega arith)

half : (m n : List ℕ) → length m ≡ length n → length (m ++ n) / 2 ≡ length m
half m n h = omega (arith, length-append m n)

pub pair-ends : (m n : List ℕ) → length m ≡ length n → HasEnds m n
pair-ends m n h = record {
  lesser = take-front m n (length (m ++ n) / 2) (half m n h);
  greater = drop-front m n (length (m ++ n) / 2) (half m n h);
}
