-- A cell has one facet with some ranks where these are all but one of its own, and else none.
use Rattle.std.proofs.Common.{◌≡◌, ℕ, ◌+◌, ◌^◌, ◌<◌, ◌≤◌, Bool, true, false, cond, ◌&&◌, not, List, [], ◌∷◌, length, get_or, map, refl, sym, ap, ap₂, ◌∙◌, nat_eq, arith, eqb-true, eq-eqb}
use Rattle.std.specs.List.{All, count_by, flat_map}
use Rattle.std.proofs.lemmas.List.Elements.{All-head, All-tail}
use Rattle.std.proofs.lemmas.List.Sums.{sum_by-append}
use Rattle.viz_sheet.specs.Sheet.{AreApart}
use Rattle.viz_sheet.specs.Ranked.{IsCell}
use Rattle.viz_sheet.proofs.KeptLemmas.{count_by-cons}
use Rattle.viz_mesh_meaning.specs.Facets.{facet, facets_of, has_each, occurrences}
use Rattle.viz_mesh_meaning.proofs.FacetLemmas.{facets-all, facets-apart, facets-size}
use Rattle.viz_boundary.specs.Steps.Keys.{set_key}
use Rattle.viz_boundary.proofs.OrderLemmas.{IsSet, key-tells_set}
use Rattle.viz_boundary.proofs.TestLemmas.{count-members, count-none, count-not, each-facet, each-from, mem, same_test}

-- tests that agree item by item count the same
pub count-alike : {X Y : Type 0} (p : X → Bool) (q : Y → Bool) (xs : List X) (ys : List Y) → map p xs ≡ map q ys → count_by p xs ≡ count_by q ys
count-alike p q xs ys e = by_answers p xs ∙ ap (count_by (λ b. b)) e ∙ sym (by_answers q ys)
  where
    by_answers : {Z : Type 0} (r : Z → Bool) (zs : List Z) → count_by r zs ≡ count_by (λ b. b) (map r zs)
    by_answers r [] = refl
    by_answers r (z ∷ zs) = count_by-cons r z zs ∙ ap (λ n. cond (r z) 1 0 + n) (by_answers r zs) ∙ sym (count_by-cons (λ b. b) (r z) (map r zs))

-- a facet of a cell is a set of ranks
pub facet-sets : (n : ℕ) (cell : List ℕ) → n ≤ 2 ^ 32 → IsCell n cell → All IsSet (facets_of cell)
facet-sets n cell few h k d l =
    let size = facets-size cell h.most k d l in
    record {
      apart = facets-apart cell h.most h.apart k d l;
      some = size.some;
      most = size.most;
      below = λ j e m. let b = facets-all (λ r. r < n) cell h.most h.below k d l j e m in omega arith;
    }

-- whether facet i is a set, by what is left out
facet-test : (n : ℕ) (x d : List ℕ) (i : ℕ) → n ≤ 2 ^ 32 → IsSet x → IsCell n d → 2 ≤ length d → i < length d → IsSet (facet d i) → length (facet d i) + 1 ≡ length d
    → nat_eq (set_key (facet d i)) (set_key x) ≡ (nat_eq (length d) (length x + 1) && (has_each nat_eq d x && not (mem x (get_or d i 0))))
facet-test n x d i few hx hd two l set size =
    key-tells_set x (facet d i) hx set
    ∙ ap₂ (λ a b. a && b) (same_test (nat_eq (length (facet d i)) (length x)) (nat_eq (length d) (length x + 1))
    (λ e. eq-eqb (length d) (length x + 1) (omega (arith, eqb-true (length (facet d i)) (length x) e)))
    (λ e. eq-eqb (length (facet d i)) (length x) (omega (arith, eqb-true (length d) (length x + 1) e))))
    (each-facet d x i hd.apart l)

count-tests : (x d : List ℕ) → AreApart x → AreApart d → (s h : Bool) → nat_eq (length d) (length x + 1) ≡ s → has_each nat_eq d x ≡ h
    → count_by (λ r. s && (h && not (mem x r))) d ≡ cond (s && h) 1 0
count-tests x d ax ad false h es eh = count-none (λ r. false) d (λ k e l. refl)
count-tests x d ax ad true false es eh = count-none (λ r. false) d (λ k e l. refl)
count-tests x d ax ad true true es eh =
    let size : length d ≡ length x + 1 = eqb-true (length d) (length x + 1) es in
    omega (arith, count-members x d ax ad (each-from d x eh), count-not (mem x) d, size)

-- whether a cell of a size has all of some ranks
abbrev pub has_set : ℕ → List ℕ → List ℕ → Bool
has_set size x d = nat_eq (length d) size && has_each nat_eq d x

few_facets : (x d : List ℕ) → length d ≤ 1 → IsSet x → count_by (λ (y : List ℕ). true) [] ≡ cond (has_set (length x + 1) x d) 1 0
few_facets x d l h = one (nat_eq (length d) (length x + 1)) refl
  where
    one : (b : Bool) → nat_eq (length d) (length x + 1) ≡ b → count_by (λ (y : List ℕ). true) [] ≡ cond (b && has_each nat_eq d x) 1 0
    one true e = absurd (omega (arith, eqb-true (length d) (length x + 1) e, h.some))
    one false e = refl

pub cell-count : (n : ℕ) (x d : List ℕ) → n ≤ 2 ^ 32 → IsSet x → IsCell n d → count_by (λ y. nat_eq (set_key y) (set_key x)) (facets_of d) ≡ cond (has_set (length x + 1) x d) 1 0
cell-count n x [] few hx hd = few_facets x [] (omega arith) hx
cell-count n x (a ∷ []) few hx hd = few_facets x (a ∷ []) (omega arith) hx
cell-count n x (a ∷ b ∷ []) few hx hd =
    let d = a ∷ b ∷ [] in
    let t0 = facet-test n x d 0 few hx hd (omega arith) (omega arith) (facet-sets n d few hd 0 (facet d 0) (omega arith)) (facets-size d hd.most 0 (facet d 0) (omega arith)).fewer in
    let t1 = facet-test n x d 1 few hx hd (omega arith) (omega arith) (facet-sets n d few hd 1 (facet d 1) (omega arith)) (facets-size d hd.most 1 (facet d 1) (omega arith)).fewer in
    count-alike (λ y. nat_eq (set_key y) (set_key x)) (λ r. nat_eq (length d) (length x + 1) && (has_each nat_eq d x && not (mem x r))) (facets_of d) d
    (λ i. t0 i ∷ t1 i ∷ [])
    ∙ count-tests x d hx.apart hd.apart (nat_eq (length d) (length x + 1)) (has_each nat_eq d x) refl refl
cell-count n x (a ∷ b ∷ c ∷ []) few hx hd =
    let d = a ∷ b ∷ c ∷ [] in
    let t0 = facet-test n x d 0 few hx hd (omega arith) (omega arith) (facet-sets n d few hd 0 (facet d 0) (omega arith)) (facets-size d hd.most 0 (facet d 0) (omega arith)).fewer in
    let t1 = facet-test n x d 1 few hx hd (omega arith) (omega arith) (facet-sets n d few hd 1 (facet d 1) (omega arith)) (facets-size d hd.most 1 (facet d 1) (omega arith)).fewer in
    let t2 = facet-test n x d 2 few hx hd (omega arith) (omega arith) (facet-sets n d few hd 2 (facet d 2) (omega arith)) (facets-size d hd.most 2 (facet d 2) (omega arith)).fewer in
    count-alike (λ y. nat_eq (set_key y) (set_key x)) (λ r. nat_eq (length d) (length x + 1) && (has_each nat_eq d x && not (mem x r))) (facets_of d) d
    (λ i. t0 i ∷ t1 i ∷ t2 i ∷ [])
    ∙ count-tests x d hx.apart hd.apart (nat_eq (length d) (length x + 1)) (has_each nat_eq d x) refl refl
cell-count n x (a ∷ b ∷ c ∷ e ∷ []) few hx hd =
    let d = a ∷ b ∷ c ∷ e ∷ [] in
    let t0 = facet-test n x d 0 few hx hd (omega arith) (omega arith) (facet-sets n d few hd 0 (facet d 0) (omega arith)) (facets-size d hd.most 0 (facet d 0) (omega arith)).fewer in
    let t1 = facet-test n x d 1 few hx hd (omega arith) (omega arith) (facet-sets n d few hd 1 (facet d 1) (omega arith)) (facets-size d hd.most 1 (facet d 1) (omega arith)).fewer in
    let t2 = facet-test n x d 2 few hx hd (omega arith) (omega arith) (facet-sets n d few hd 2 (facet d 2) (omega arith)) (facets-size d hd.most 2 (facet d 2) (omega arith)).fewer in
    let t3 = facet-test n x d 3 few hx hd (omega arith) (omega arith) (facet-sets n d few hd 3 (facet d 3) (omega arith)) (facets-size d hd.most 3 (facet d 3) (omega arith)).fewer in
    count-alike (λ y. nat_eq (set_key y) (set_key x)) (λ r. nat_eq (length d) (length x + 1) && (has_each nat_eq d x && not (mem x r))) (facets_of d) d
    (λ i. t0 i ∷ t1 i ∷ t2 i ∷ t3 i ∷ [])
    ∙ count-tests x d hx.apart hd.apart (nat_eq (length d) (length x + 1)) (has_each nat_eq d x) refl refl
cell-count n x (a ∷ b ∷ c ∷ e ∷ f ∷ rest) few hx hd = absurd (omega (arith, hd.most))

-- in all cells
pub cells-count : (n : ℕ) (x : List ℕ) (cells : List (List ℕ)) → n ≤ 2 ^ 32 → IsSet x → All (IsCell n) cells
    → count_by (λ y. nat_eq (set_key y) (set_key x)) (flat_map facets_of cells) ≡ occurrences nat_eq cells (length x + 1) x
cells-count n x [] few hx h = refl
cells-count n x (d ∷ ds) few hx h =
    let p = λ (y : List ℕ). nat_eq (set_key y) (set_key x) in
    sum_by-append (λ y. cond (p y) 1 0) (facets_of d) (flat_map facets_of ds)
    ∙ ap₂ (λ a b. a + b) (cell-count n x d few hx (All-head (IsCell n) d ds h)) (cells-count n x ds few hx (All-tail (IsCell n) d ds h))
    ∙ sym (count_by-cons (λ e. has_set (length x + 1) x e) d ds)
