-- The halves of a key, and keys in order.
use Rattle.std.proofs.Common.{◌≡◌, ◌≢◌, ℕ, ◌+◌, ◌*◌, ◌^◌, ◌<◌, ◌≤◌, ◌⊎◌, inl, inr, ⊎_elim, List, [], ◌∷◌, ◌++◌, length, get_or, map, Less, Equal, is_lt, true, false, true≢false, cond, refl, sym, ap, ap₂, subst, ◌∙◌, arith}
use Rattle.std.specs.List.{All, AllByRecursion}
use Rattle.std.specs.List.Sorted.{IsStrictlySortedBy}
use Rattle.std.specs.Cmp.Lexicographic.{slice_cmp}
use Rattle.std.specs.Ordering.{nat_cmp, ordering_then}
use Rattle.std.proofs.Math.Nat.{min-eq_left, min-eq_right, max-eq_left, max-eq_right}
use Rattle.std.proofs.lemmas.Bool.{cases_lt}
use Rattle.std.proofs.lemmas.Cmp.{nat_list_cmp_total}
use Rattle.viz_sheet.specs.PairNames.{IsPair, pair_name}
use Rattle.viz_sheet.specs.Sheet.{AreAscending}
use Rattle.viz_sheet.proofs.PairOrder.{compare_as_ranks}
use Rattle.viz_meaning.specs.Names.{edge_name, is_before}
use Rattle.viz_cells.specs.Steps.Keys.{key_of, low_of, high_of, pair_of, key_name, IsEdgeKey}
use Rattle.viz_meaning.proofs.ListLemmas.{all-map}

halves : (a b : ℕ) → b < 2 ^ 32 → (low_of (a * 2 ^ 32 + b) ≡ a) × (high_of (a * 2 ^ 32 + b) ≡ b)
halves a b l = (omega arith, omega arith)

-- the key of two ranks, the lesser one first
pub key-rises : (a b : ℕ) → a < b → b < 2 ^ 32 → (low_of (key_of a b) ≡ a) × (high_of (key_of a b) ≡ b)
key-rises a b r l =
    let le : a ≤ b = omega arith in
    let e : key_of a b ≡ a * 2 ^ 32 + b = ap₂ (λ p q. p * 2 ^ 32 + q) (min-eq_left le) (max-eq_right le) in
    let h = halves a b l in
    (ap low_of e ∙ h.0, ap high_of e ∙ h.1)

-- and the greater one first
pub key-falls : (a b : ℕ) → b < a → a < 2 ^ 32 → (low_of (key_of a b) ≡ b) × (high_of (key_of a b) ≡ a)
key-falls a b r l =
    let le : b ≤ a = omega arith in
    let e : key_of a b ≡ b * 2 ^ 32 + a = ap₂ (λ p q. p * 2 ^ 32 + q) (min-eq_right le) (max-eq_left le) in
    let h = halves b a l in
    (ap low_of e ∙ h.0, ap high_of e ∙ h.1)

-- one of two different numbers is below the other
pub below_or_above : (a b : ℕ) → a ≢ b → (a < b) ⊎ (b < a)
below_or_above a b d = ⊎_elim (λ l. inl l) (λ f. ⊎_elim (λ l. inr l) (λ g. absurd (d (omega arith))) (cases_lt b a)) (cases_lt a b)

not_less : (a b : ℕ) → a < b → is_lt (nat_cmp b a) ≡ false
not_less a b h = grind (arith)

is_less : (a b : ℕ) → a < b → is_lt (nat_cmp a b) ≡ true
is_less a b h = grind (arith)

-- the name of the edge between the names of two ranks
edge-rises : (names : List (List ℕ)) (a b : ℕ) → AreAscending names → a < b → b < length names → edge_name (get_or names a []) (get_or names b []) ≡ get_or names a [] ++ get_or names b []
edge-rises names a b s r l =
    let no : is_before (get_or names b []) (get_or names a []) ≡ false = ap is_lt (compare_as_ranks nat_list_cmp_total names b a [] s l (omega arith)) ∙ not_less a b r in
    ap (λ t. cond t (get_or names b [] ++ get_or names a []) (get_or names a [] ++ get_or names b [])) no

edge-falls : (names : List (List ℕ)) (a b : ℕ) → AreAscending names → b < a → a < length names → edge_name (get_or names a []) (get_or names b []) ≡ get_or names b [] ++ get_or names a []
edge-falls names a b s r l =
    let yes : is_before (get_or names b []) (get_or names a []) ≡ true = ap is_lt (compare_as_ranks nat_list_cmp_total names b a [] s (omega arith) l) ∙ is_less b a r in
    ap (λ t. cond t (get_or names b [] ++ get_or names a []) (get_or names a [] ++ get_or names b [])) yes

pub edge-key : (names : List (List ℕ)) (a b : ℕ) → AreAscending names → length names ≤ 2 ^ 32 → a ≢ b → a < length names → b < length names
    → edge_name (get_or names a []) (get_or names b []) ≡ key_name names (key_of a b)
unfolding key_name
edge-key names a b s few d al bl =
    ⊎_elim
    (λ r. let h = key-rises a b r (omega arith) in edge-rises names a b s r bl ∙ sym (ap₂ (λ i j. get_or names i [] ++ get_or names j []) h.0 h.1))
    (λ r. let h = key-falls a b r (omega arith) in edge-falls names a b s r al ∙ sym (ap₂ (λ i j. get_or names i [] ++ get_or names j []) h.0 h.1))
    (below_or_above a b d)

-- a relation of the ranks of an edge that holds either way is one of its halves
pub by-halves : (P : ℕ → ℕ → Type 0) (a b : ℕ) → a ≢ b → a < 2 ^ 32 → b < 2 ^ 32 → (a < b → P a b) → (b < a → P b a) → P (low_of (key_of a b)) (high_of (key_of a b))
by-halves P a b d al bl up down =
    ⊎_elim
    (λ r. let h = key-rises a b r bl in subst (λ i. P i (high_of (key_of a b))) (sym h.0) (subst (λ j. P a j) (sym h.1) (up r)))
    (λ r. let h = key-falls a b r al in subst (λ i. P i (high_of (key_of a b))) (sym h.0) (subst (λ j. P b j) (sym h.1) (down r)))
    (below_or_above a b d)

-- edges with one key have the same two ranks
pub same-edge : (a b c d : ℕ) → a ≢ b → c ≢ d → a < 2 ^ 32 → b < 2 ^ 32 → c < 2 ^ 32 → d < 2 ^ 32 → key_of a b ≡ key_of c d
    → ((a ≡ c) × (b ≡ d)) ⊎ ((a ≡ d) × (b ≡ c))
same-edge a b c d ab cd al bl cl dl e =
    ⊎_elim
    (λ r. let h = key-rises a b r bl in ⊎_elim
    (λ t. let k = key-rises c d t dl in inl (sym h.0 ∙ ap low_of e ∙ k.0, sym h.1 ∙ ap high_of e ∙ k.1))
    (λ t. let k = key-falls c d t cl in inr (sym h.0 ∙ ap low_of e ∙ k.0, sym h.1 ∙ ap high_of e ∙ k.1))
    (below_or_above c d cd))
    (λ r. let h = key-falls a b r al in ⊎_elim
    (λ t. let k = key-rises c d t dl in inr (sym h.1 ∙ ap high_of e ∙ k.1, sym h.0 ∙ ap low_of e ∙ k.0))
    (λ t. let k = key-falls c d t cl in inl (sym h.1 ∙ ap high_of e ∙ k.1, sym h.0 ∙ ap low_of e ∙ k.0))
    (below_or_above c d cd))
    (below_or_above a b ab)

-- ---- order

less-below : (j k : ℕ) → nat_cmp j k ≡ Less → j < k
less-below j k h =
    ⊎_elim (λ l. l) (λ f. absurd (true≢false (sym (ap is_lt h) ∙ at_least f))) (cases_lt j k)
  where
    at_least : k ≤ j → is_lt (nat_cmp j k) ≡ false
    at_least f = grind (arith)

less : (j k : ℕ) → j < k → nat_cmp j k ≡ Less
less j k h = grind (arith)

same : (j k : ℕ) → j ≡ k → nat_cmp j k ≡ Equal
same j k h = grind (arith)

pair-less : (j k : ℕ) → nat_cmp j k ≡ Less → slice_cmp nat_cmp (pair_of j) (pair_of k) ≡ Less
pair-less j k h =
    let l : j < k = less-below j k h in
    ⊎_elim
    (λ r. ap (λ o. ordering_then o (ordering_then (nat_cmp (high_of j) (high_of k)) Equal)) (less (low_of j) (low_of k) r))
    (λ f.
    let e : low_of j ≡ low_of k = omega arith in
    let r : high_of j < high_of k = omega arith in
    ap₂ (λ o p. ordering_then o (ordering_then p Equal)) (same (low_of j) (low_of k) e) (less (high_of j) (high_of k) r))
    (cases_lt (low_of j) (low_of k))

pub pairs-sorted : (keys : List ℕ) → IsStrictlySortedBy nat_cmp keys → IsStrictlySortedBy (slice_cmp nat_cmp) (map pair_of keys)
unfolding IsStrictlySortedBy
pairs-sorted [] s = tt
pairs-sorted (k ∷ ks) s = (after ks s.0, pairs-sorted ks s.1)
  where
    after : (js : List ℕ) → AllByRecursion (λ j. nat_cmp k j ≡ Less) js → AllByRecursion (λ p. slice_cmp nat_cmp (pair_of k) p ≡ Less) (map pair_of js)
    after [] a = tt
    after (j ∷ js) a = (pair-less k j a.0, after js a.1)

is_pair : (n key : ℕ) → IsEdgeKey n key → IsPair n (pair_of key)
is_pair n key h = record { two = refl; rises = h.rises; below = h.below }

pub are_pairs : (n : ℕ) (keys : List ℕ) → All (IsEdgeKey n) keys → All (IsPair n) (map pair_of keys)
are_pairs n keys h = all-map (IsPair n) pair_of keys (λ k d l. is_pair n (get_or keys k d) (h k d l))

pub names-by_pairs : (names : List (List ℕ)) (keys : List ℕ) → map (pair_name names) (map pair_of keys) ≡ map (key_name names) keys
unfolding key_name
names-by_pairs names [] = refl
names-by_pairs names (k ∷ ks) = ap (λ rest. pair_name names (pair_of k) ∷ rest) (names-by_pairs names ks)
