-- Keys of a sorted list whose set no other key has: those whose neighbours have other sets.
use Rattle.std.proofs.Common.{◌≡◌, ◌≢◌, ℕ, zero, suc, ◌+◌, ◌-◌, ◌<◌, ◌≤◌, Bool, true, false, cond, ◌&&◌, List, [], ◌∷◌, length, get_or, replicate, refl, sym, ap, subst, ◌∙◌, true≢false, ⊎_elim, nat_eq, is_lt, arith, eqb-true, eq-eqb}
use Rattle.std.specs.List.{count_by, Contains}
use Rattle.std.specs.List.Sorted.{IsSorted, IsPermutation}
use Rattle.std.specs.Ordering.{nat_cmp}
use Rattle.std.proofs.lemmas.Bool.{cases_lt}
use Rattle.std.proofs.lemmas.Cmp.{nat_cmp_total}
use Rattle.std.proofs.lemmas.List.{get_or_default, length-replicate}
use Rattle.std.proofs.lemmas.List.Sorted.{ranks_by, sorted_far, sum_by-IsPermutation, Contains-permutation, IsPermutation-sym}
use Rattle.viz_sheet.proofs.KeptLemmas.{count_by-cons}
use Rattle.viz_boundary.specs.Steps.Alone.{AreIndexed, AreMarked, Begins, Ends, HaveIndices, TellAlone, index_of, is_alone, set_of, times}
use Rattle.viz_boundary.proofs.TestLemmas.{is_false, same_test}

count-none : {X : Type 0} (p : X → Bool) (xs : List X) (d : X) → ((j : ℕ) → j < length xs → p (get_or xs j d) ≡ false) → count_by p xs ≡ 0
count-none p [] d o = refl
count-none p (x ∷ xs) d o = count_by-cons p x xs ∙ rw (o 0 (omega arith)) (omega (arith, count-none p xs d (λ j k. o (suc j) (omega arith))))

-- only the one at i passes
count-one : {X : Type 0} (p : X → Bool) (xs : List X) (i : ℕ) (d : X) → i < length xs → p (get_or xs i d) ≡ true → ((j : ℕ) → j < length xs → j ≢ i → p (get_or xs j d) ≡ false) → count_by p xs ≡ 1
count-one p [] i d l h o = absurd (omega arith)
count-one p (x ∷ xs) zero d l h o =
    count_by-cons p x xs ∙ rw h (omega (arith, count-none p xs d (λ j k. o (suc j) (omega arith) (λ e. absurd (omega arith)))))
count-one p (x ∷ xs) (suc i) d l h o =
    count_by-cons p x xs ∙ rw (o 0 (omega arith) (λ e. absurd (omega arith)))
    (omega (arith, count-one p xs i d (omega arith) h (λ j k n. o (suc j) (omega arith) (λ e. n (omega arith)))))

-- one that passes counts
count-some : {X : Type 0} (p : X → Bool) (xs : List X) (i : ℕ) (d : X) → i < length xs → p (get_or xs i d) ≡ true → 1 ≤ count_by p xs
count-some p [] i d l h = absurd (omega arith)
count-some p (x ∷ xs) zero d l h = rw (count_by-cons p x xs, h) (omega arith)
count-some p (x ∷ xs) (suc i) d l h = rw (count_by-cons p x xs) (omega (arith, count-some p xs i d (omega arith) h))

-- two that pass count twice
count-two : {X : Type 0} (p : X → Bool) (xs : List X) (i : ℕ) (d : X) → i + 1 < length xs → p (get_or xs i d) ≡ true → p (get_or xs (i + 1) d) ≡ true → 2 ≤ count_by p xs
count-two p [] i d l h k = absurd (omega arith)
count-two p (x ∷ xs) zero d l h k = rw (count_by-cons p x xs, h) (omega (arith, count-some p xs 0 d (omega arith) k))
count-two p (x ∷ xs) (suc i) d l h k = rw (count_by-cons p x xs) (omega (arith, count-two p xs i d (omega arith) h (subst (λ j. p (get_or (x ∷ xs) j d) ≡ true) {x = suc i + 1} {y = suc (i + 1)} (omega arith) k)))

-- ---- sorted keys

from_not : (a b : ℕ) → is_lt (nat_cmp b a) ≡ false → a ≤ b
from_not a b h = ⊎_elim (λ l. absurd (true≢false (sym (yes l) ∙ h))) (λ f. f) (cases_lt b a)
  where
    yes : b < a → is_lt (nat_cmp b a) ≡ true
    yes l = grind (arith)

pub far : (xs : List ℕ) → IsSorted nat_cmp xs → (i j : ℕ) → i ≤ j → j < length xs → get_or xs i 0 ≤ get_or xs j 0
far xs s i j h l = from_not (get_or xs i 0) (get_or xs j 0) (sorted_far (λ x y. is_lt (nat_cmp x y)) (ranks_by nat_cmp_total (λ x. x)) xs s i j 0 h l)

squeezed : (a b c : ℕ) → a ≤ b → b ≤ c → set_of a ≡ set_of c → set_of b ≡ set_of c
squeezed a b c h k e = omega arith

between : (xs : List ℕ) → IsSorted nat_cmp xs → (i m j : ℕ) → i ≤ m → m ≤ j → j < length xs → set_of (get_or xs i 0) ≡ set_of (get_or xs j 0) → set_of (get_or xs m 0) ≡ set_of (get_or xs j 0)
between xs s i m j im mj l e = squeezed (get_or xs i 0) (get_or xs m 0) (get_or xs j 0) (far xs s i m im (omega arith)) (far xs s m j mj l) e

once : (xs : List ℕ) (at : ℕ) → at < length xs → IsSorted nat_cmp xs → Begins xs at → Ends xs at → times xs (set_of (get_or xs at 0)) ≡ 1
once xs at l s b e =
    let set = set_of (get_or xs at 0) in
    count-one (λ k. nat_eq (set_of k) set) xs at 0 l (eq-eqb set set refl)
    (λ j jl n. is_false (nat_eq (set_of (get_or xs j 0)) set) (λ h.
    let same : set_of (get_or xs j 0) ≡ set = eqb-true (set_of (get_or xs j 0)) set h in
    ⊎_elim
    (λ before. b.other (omega arith) (between xs s j (at - 1) at (omega arith) (omega arith) l same))
    (λ up_to. e.other (omega (arith, n)) (between xs s at (at + 1) j (omega arith) (omega (arith, n)) jl (sym same) ∙ same))
    (cases_lt j at)))

twice-before : (xs : List ℕ) (at : ℕ) → at < length xs → 0 < at → set_of (get_or xs (at - 1) 0) ≡ set_of (get_or xs at 0) → 2 ≤ times xs (set_of (get_or xs at 0))
twice-before xs at l p e =
    let set = set_of (get_or xs at 0) in
    count-two (λ k. nat_eq (set_of k) set) xs (at - 1) 0 (omega arith) (eq-eqb _ set e)
    (eq-eqb _ set (ap (λ j. set_of (get_or xs j 0)) {x = at - 1 + 1} {y = at} (omega arith)))

twice-after : (xs : List ℕ) (at : ℕ) → at + 1 < length xs → set_of (get_or xs (at + 1) 0) ≡ set_of (get_or xs at 0) → 2 ≤ times xs (set_of (get_or xs at 0))
twice-after xs at l e =
    let set = set_of (get_or xs at 0) in
    count-two (λ k. nat_eq (set_of k) set) xs at 0 l (eq-eqb set set refl) (eq-eqb _ set e)

not_one : (n : ℕ) (b : Bool) → nat_eq n 1 ≡ b → 2 ≤ n → b ≡ false
not_one n true h l = absurd (omega (arith, eqb-true n 1 h))
not_one n false h l = refl

-- a key is alone where both neighbours have other sets
pub alone-is : (xs : List ℕ) (at : ℕ) → at < length xs → IsSorted nat_cmp xs → (b e : Bool)
    → (b ≡ true → Begins xs at) → (b ≡ false → (0 < at) × (set_of (get_or xs (at - 1) 0) ≡ set_of (get_or xs at 0)))
    → (e ≡ true → Ends xs at) → (e ≡ false → (at + 1 < length xs) × (set_of (get_or xs (at + 1) 0) ≡ set_of (get_or xs at 0)))
    → (b && e) ≡ is_alone xs at
unfolding is_alone
alone-is xs at l s true true b nb e ne = sym (eq-eqb (times xs (set_of (get_or xs at 0))) 1 (once xs at l s (b refl) (e refl)))
alone-is xs at l s true false b nb e ne = sym (not_one (times xs (set_of (get_or xs at 0))) _ refl (twice-after xs at (ne refl).0 (ne refl).1))
alone-is xs at l s false f b nb e ne = sym (not_one (times xs (set_of (get_or xs at 0))) _ refl (twice-before xs at l (nb refl).0 (nb refl).1))

-- ---- marks

times-permutation : (xs ys : List ℕ) (set : ℕ) → IsPermutation xs ys → times ys set ≡ times xs set
times-permutation xs ys set h = sum_by-IsPermutation (λ k. cond (nat_eq (set_of k) set) 1 0) xs ys h

alone-moved : (xs ys : List ℕ) (i j : ℕ) → IsPermutation xs ys → get_or ys i 0 ≡ get_or xs j 0 → is_alone ys i ≡ is_alone xs j
unfolding is_alone
alone-moved xs ys i j h e = ap (λ n. nat_eq n 1) (times-permutation xs ys (set_of (get_or ys i 0)) h ∙ ap (λ k. times xs (set_of k)) e)

-- a key of the sorted list stands in the first one at its index
at-index : (keys sorted : List ℕ) (k : ℕ) → AreIndexed keys → IsPermutation keys sorted → k < length sorted → (index_of (get_or sorted k 0) < length keys) × (get_or sorted k 0 ≡ get_or keys (index_of (get_or sorted k 0)) 0)
at-index keys sorted k h p l =
    let key = get_or sorted k 0 in
    let c : Contains keys key = Contains-permutation sorted keys key (IsPermutation-sym keys sorted p) (k, l, get_or_default sorted k key 0 l) in
    let e : get_or keys c.0 0 ≡ key = get_or_default keys c.0 0 key c.1 ∙ c.2 in
    let index : index_of key ≡ c.0 = ap index_of (sym e) ∙ h.each c.0 c.1 in
    (omega (arith, c.1, index), sym e ∙ ap (λ j. get_or keys j 0) (sym index))

-- once all keys of the sorted list were looked at, a mark tells of each key of the first one whether it is alone
pub marks-are : (keys sorted : List ℕ) (marks : List Bool) → AreIndexed keys → IsPermutation keys sorted → AreMarked sorted (length sorted) marks
    → (j : ℕ) → j < length keys → get_or marks j false ≡ is_alone keys j
marks-are keys sorted marks h p m j l =
    same_test (get_or marks j false) (is_alone keys j)
    (λ e.
    let from = m.only j e in
    let at = at-index keys sorted from.0 h p from.1 in
    sym (alone-moved keys sorted from.0 j p (at.1 ∙ ap (λ i. get_or keys i 0) from.2)) ∙ from.3)
    (λ e.
    let key = get_or keys j 0 in
    let c : Contains sorted key = Contains-permutation keys sorted key p (j, l, get_or_default keys j key 0 l) in
    let is : get_or sorted c.0 0 ≡ key = get_or_default sorted c.0 0 key c.1 ∙ c.2 in
    subst (λ i. get_or marks i false ≡ true) (ap index_of is ∙ h.each j l) (m.set c.0 c.1 (alone-moved keys sorted c.0 j p is ∙ e)))

-- the sorted keys have indices below their number
pub sorted-indices : (keys sorted : List ℕ) → AreIndexed keys → IsPermutation keys sorted → length sorted ≡ length keys → HaveIndices sorted
sorted-indices keys sorted h p size = record { below = λ k l. omega (arith, (at-index keys sorted k h p l).0, size) }

pub none-marked : (keys : List ℕ) → AreMarked keys 0 (replicate (length keys) false)
none-marked keys = record {
  size = length-replicate (length keys) false;
  set = λ k l. absurd (omega arith);
  only = λ j e. absurd (true≢false (sym e ∙ unmarked (length keys) j));
}
  where
    unmarked : (n j : ℕ) → get_or (replicate n false) j false ≡ false
    unmarked zero j = refl
    unmarked (suc n) zero = refl
    unmarked (suc n) (suc j) = unmarked n j

pub tells-alone : (keys sorted : List ℕ) (marks : List Bool) → AreIndexed keys → IsPermutation keys sorted → length sorted ≡ length keys → AreMarked sorted (length sorted) marks → TellAlone keys marks
tells-alone keys sorted marks h p size m = record { size = m.size ∙ size; each = marks-are keys sorted marks h p m }
