-- Marked items: their ranks among themselves, and what they keep of their order.
use Rattle.std.proofs.Common.{◌≡◌, ℕ, zero, suc, ◌+◌, ◌<◌, ◌≤◌, Bool, true, false, cond, List, [], ◌∷◌, ◌++◌, length, get_or, take, Ordering, Less, refl, sym, ap, ◌∙◌, true≢false, arith, add-one, append-nil}
use Rattle.std.specs.List.{AllByRecursion, count_by}
use Rattle.std.specs.List.Sorted.{IsStrictlySortedBy}
use Rattle.std.proofs.lemmas.List.Sums.{sum_by-cons}
use Rattle.viz_sheet.specs.Kept.{kept, kept_rank}

pub count_by-cons : {X : Type 0} (p : X → Bool) (x : X) (xs : List X) → count_by p (x ∷ xs) ≡ cond (p x) 1 0 + count_by p xs
count_by-cons p x xs = sum_by-cons (λ y. cond (p y) 1 0) x xs

pub rank-suc : (b : Bool) (bs : List Bool) (r : ℕ) → kept_rank (b ∷ bs) (suc r) ≡ cond b 1 0 + kept_rank bs r
rank-suc b bs r = count_by-cons (λ c. c) b (take r bs)

-- a marked item stands at its rank
pub kept-at : {X : Type 0} (marks : List Bool) (xs : List X) (r : ℕ) (d : X) → length marks ≡ length xs → get_or marks r false ≡ true → get_or (kept marks xs) (kept_rank marks r) d ≡ get_or xs r d
kept-at [] xs r d l m = absurd (true≢false (sym m))
kept-at (b ∷ bs) [] r d l m = absurd (omega arith)
kept-at (true ∷ bs) (x ∷ xs) zero d l m = refl
kept-at (false ∷ bs) (x ∷ xs) zero d l m = absurd (true≢false (sym m))
kept-at (true ∷ bs) (x ∷ xs) (suc r) d l m =
    rw (rank-suc true bs r) (next (kept_rank bs r) ∙ kept-at bs xs r d (omega arith) m)
  where
    next : (k : ℕ) → get_or (x ∷ kept bs xs) (1 + k) d ≡ get_or (kept bs xs) k d
    next k = ap (λ j. get_or (x ∷ kept bs xs) j d) {x = 1 + k} {y = suc k} (omega arith)
kept-at (false ∷ bs) (x ∷ xs) (suc r) d l m =
    rw (rank-suc false bs r) (ap (λ j. get_or (kept bs xs) j d) {x = 0 + kept_rank bs r} {y = kept_rank bs r} (omega arith) ∙ kept-at bs xs r d (omega arith) m)

-- its rank is below the number of marked items
pub rank-below : {X : Type 0} (marks : List Bool) (xs : List X) (r : ℕ) → length marks ≡ length xs → get_or marks r false ≡ true → kept_rank marks r < length (kept marks xs)
rank-below [] xs r l m = absurd (true≢false (sym m))
rank-below (b ∷ bs) [] r l m = absurd (omega arith)
rank-below (true ∷ bs) (x ∷ xs) zero l m = omega arith
rank-below (false ∷ bs) (x ∷ xs) zero l m = absurd (true≢false (sym m))
rank-below (true ∷ bs) (x ∷ xs) (suc r) l m = omega (arith, rank-suc true bs r, rank-below bs xs r (omega arith) m)
rank-below (false ∷ bs) (x ∷ xs) (suc r) l m = omega (arith, rank-suc false bs r, rank-below bs xs r (omega arith) m)

-- each rank below their number is that of a marked item
pub rank-from : {X : Type 0} (marks : List Bool) (xs : List X) (k : ℕ) → length marks ≡ length xs → k < length (kept marks xs) → (r : ℕ) × (get_or marks r false ≡ true) × (kept_rank marks r ≡ k)
rank-from [] xs k l b = absurd (omega arith)
rank-from (c ∷ bs) [] k l b = absurd (omega arith)
rank-from (true ∷ bs) (x ∷ xs) zero l b = (zero, refl, refl)
rank-from (true ∷ bs) (x ∷ xs) (suc k) l b =
    let rest = rank-from bs xs k (omega arith) (omega arith) in
    (suc rest.0, rest.1, omega (arith, rank-suc true bs rest.0, rest.2))
rank-from (false ∷ bs) (x ∷ xs) k l b =
    let rest = rank-from bs xs k (omega arith) b in
    (suc rest.0, rest.1, omega (arith, rank-suc false bs rest.0, rest.2))

-- lists of one length keep one length
pub kept-lengths : {X Y : Type 0} (marks : List Bool) (xs : List X) (ys : List Y) → length xs ≡ length ys → length (kept marks xs) ≡ length (kept marks ys)
kept-lengths [] xs ys l = refl
kept-lengths (b ∷ bs) [] [] l = refl
kept-lengths (b ∷ bs) [] (y ∷ ys) l = absurd (omega arith)
kept-lengths (b ∷ bs) (x ∷ xs) [] l = absurd (omega arith)
kept-lengths (true ∷ bs) (x ∷ xs) (y ∷ ys) l = ap suc (kept-lengths bs xs ys (omega arith))
kept-lengths (false ∷ bs) (x ∷ xs) (y ∷ ys) l = kept-lengths bs xs ys (omega arith)

-- marked items of a list in strict order are in strict order
pub kept-sorted : {X : Type 0} (R : X → X → Ordering) (marks : List Bool) (xs : List X) → IsStrictlySortedBy R xs → IsStrictlySortedBy R (kept marks xs)
unfolding IsStrictlySortedBy
kept-sorted R [] xs s = tt
kept-sorted R (b ∷ bs) [] s = tt
kept-sorted {X = X} R (true ∷ bs) (x ∷ xs) s = (all_kept bs xs s.0, kept-sorted R bs xs s.1)
  where
    all_kept : (cs : List Bool) (ys : List X) → AllByRecursion (λ y. R x y ≡ Less) ys → AllByRecursion (λ y. R x y ≡ Less) (kept cs ys)
    all_kept [] ys a = tt
    all_kept (c ∷ cs) [] a = tt
    all_kept (true ∷ cs) (y ∷ ys) a = (a.0, all_kept cs ys a.1)
    all_kept (false ∷ cs) (y ∷ ys) a = all_kept cs ys a.1
kept-sorted R (false ∷ bs) (x ∷ xs) s = kept-sorted R bs xs s.1

-- ranks among the marked keep the order
pub rank-rises : (marks : List Bool) (r s : ℕ) → r < s → get_or marks r false ≡ true → kept_rank marks r < kept_rank marks s
rank-rises [] r s h m = absurd (true≢false (sym m))
rank-rises (b ∷ bs) r zero h m = absurd (omega arith)
rank-rises (true ∷ bs) zero (suc s) h m = omega (arith, rank-suc true bs s)
rank-rises (false ∷ bs) zero (suc s) h m = absurd (true≢false (sym m))
rank-rises (true ∷ bs) (suc r) (suc s) h m = omega (arith, rank-suc true bs r, rank-suc true bs s, rank-rises bs r s (omega arith) m)
rank-rises (false ∷ bs) (suc r) (suc s) h m = omega (arith, rank-suc false bs r, rank-suc false bs s, rank-rises bs r s (omega arith) m)

-- one more item
kept-take_suc : {X : Type 0} (marks : List Bool) (xs : List X) (i : ℕ) (d : X) → length marks ≡ length xs → i < length xs → kept (take (suc i) marks) (take (suc i) xs) ≡ kept (take i marks) (take i xs) ++ cond (get_or marks i false) (get_or xs i d ∷ []) []
kept-take_suc [] [] i d l h = absurd (omega arith)
kept-take_suc [] (x ∷ xs) i d l h = absurd (omega arith)
kept-take_suc (b ∷ bs) [] i d l h = absurd (omega arith)
kept-take_suc (true ∷ bs) (x ∷ xs) zero d l h = refl
kept-take_suc (false ∷ bs) (x ∷ xs) zero d l h = refl
kept-take_suc (true ∷ bs) (x ∷ xs) (suc i) d l h = ap (λ l. x ∷ l) (kept-take_suc bs xs i d (omega arith) (omega arith))
kept-take_suc (false ∷ bs) (x ∷ xs) (suc i) d l h = kept-take_suc bs xs i d (omega arith) (omega arith)

pub kept-take_more : {X : Type 0} (marks : List Bool) (xs : List X) (i : ℕ) (d : X) → length marks ≡ length xs → i < length xs → kept (take (i + 1) marks) (take (i + 1) xs) ≡ kept (take i marks) (take i xs) ++ cond (get_or marks i false) (get_or xs i d ∷ []) []
kept-take_more marks xs i d l h = rw add-one (kept-take_suc marks xs i d l h)

-- a marked one, and one that isn't
pub kept-take_yes : {X : Type 0} (marks : List Bool) (xs : List X) (i : ℕ) (d : X) → length marks ≡ length xs → i < length xs → get_or marks i false ≡ true → kept (take (i + 1) marks) (take (i + 1) xs) ≡ kept (take i marks) (take i xs) ++ get_or xs i d ∷ []
kept-take_yes marks xs i d l h m = rw m at (kept-take_more marks xs i d l h)

pub kept-take_no : {X : Type 0} (marks : List Bool) (xs : List X) (i : ℕ) (d : X) → length marks ≡ length xs → i < length xs → get_or marks i false ≡ false → kept (take (i + 1) marks) (take (i + 1) xs) ≡ kept (take i marks) (take i xs)
kept-take_no marks xs i d l h m = rw m at (kept-take_more marks xs i d l h) ∙ append-nil _

rank-take_suc : (marks : List Bool) (i : ℕ) → i < length marks → kept_rank marks (suc i) ≡ kept_rank marks i + cond (get_or marks i false) 1 0
rank-take_suc [] i h = absurd (omega arith)
rank-take_suc (b ∷ bs) zero h = omega (arith, rank-suc b bs zero)
rank-take_suc (b ∷ bs) (suc i) h = omega (arith, rank-suc b bs (suc i), rank-suc b bs i, rank-take_suc bs i (omega arith))

pub rank-more : (marks : List Bool) (i : ℕ) → i < length marks → kept_rank marks (i + 1) ≡ kept_rank marks i + cond (get_or marks i false) 1 0
rank-more marks i h = rw add-one (rank-take_suc marks i h)

pub rank-most : (marks : List Bool) (i : ℕ) → i ≤ length marks → kept_rank marks i ≤ i
rank-most marks zero h = omega arith
rank-most [] (suc i) h = absurd (omega arith)
rank-most (true ∷ bs) (suc i) h = omega (arith, rank-suc true bs i, rank-most bs i (omega arith))
rank-most (false ∷ bs) (suc i) h = omega (arith, rank-suc false bs i, rank-most bs i (omega arith))

pub kept-most : {X : Type 0} (marks : List Bool) (xs : List X) → length (kept marks xs) ≤ length xs
kept-most [] xs = omega arith
kept-most (b ∷ bs) [] = omega arith
kept-most (true ∷ bs) (x ∷ xs) = omega (arith, kept-most bs xs)
kept-most (false ∷ bs) (x ∷ xs) = omega (arith, kept-most bs xs)

pub ruleset more = (kept-take_yes, kept-take_no, rank-more, rank-most)
