-- Where a walk over names that ascend stops.
use Rattle.std.proofs.Common.{◌≡◌, ℕ, ◌+◌, ◌<◌, ◌≤◌, Bool, true, false, true≢false, subst, ⊎_elim, List, [], length, get_or, Ordering, Less, Equal, Greater, is_lt, refl, sym, ap, ◌∙◌, arith}
use Rattle.std.specs.List.Sorted.{IsNonDecreasingBy}
use Rattle.std.specs.Cmp.Lexicographic.{slice_cmp}
use Rattle.std.specs.Ordering.{nat_cmp, ordering_index, ordering_reverse}
use Rattle.std.proofs.lemmas.Bool.{cases_lt}
use Rattle.std.proofs.lemmas.Cmp.{nat_list_cmp_total}
use Rattle.std.proofs.lemmas.List.Sorted.{searchable_from_sorted}
use Rattle.std.proofs.lemmas.Map.Keys.{Less-from_sorted}
use Rattle.viz_sheet.specs.Ranked.{rank_of}
use Rattle.viz_sheet.specs.Sheet.{AreAscending}
use Rattle.viz_sheet.proofs.RankLemmas.{count-of_first}
use Rattle.viz_piece_stitch.specs.Steps.Walk.{ComeBefore, PrecedeFrom}

less_is : (o : Ordering) → is_lt o ≡ true → o ≡ Less
less_is Less h = refl
less_is Equal h = absurd (true≢false (sym h))
less_is Greater h = absurd (true≢false (sym h))

contrary : (a b : Bool) → (a ≡ true → b ≡ true) → b ≡ false → a ≡ false
contrary true b f g = absurd (true≢false (sym (f refl) ∙ g))
contrary false b f g = refl

-- what comes before a name comes before later ones
pub before-later : (names : List (List ℕ)) (at : ℕ) (m n : List ℕ) → ComeBefore names at m → slice_cmp nat_cmp m n ≡ Less → ComeBefore names at n
before-later names at m n b h k l =
    ap is_lt (nat_list_cmp_total.trans (get_or names k []) m n (less_is (slice_cmp nat_cmp (get_or names k []) m) (b k l)) h)

-- the names before one of them
pub before-at : (names : List (List ℕ)) (i : ℕ) → AreAscending names → i < length names → ComeBefore names i (get_or names i [])
before-at names i s l k below = ap is_lt (Less-from_sorted (slice_cmp nat_cmp) names k i [] s below l)

pub before-more : (names : List (List ℕ)) (i : ℕ) (n : List ℕ) → ComeBefore names i n → is_lt (slice_cmp nat_cmp (get_or names i []) n) ≡ true → ComeBefore names (i + 1) n
before-more names i n b h k l =
    ⊎_elim (λ e. b k e)
    (λ e. let same : i ≡ k = omega (arith, e, l) in subst (λ j. is_lt (slice_cmp nat_cmp (get_or names j []) n) ≡ true) same h)
    (cases_lt k i)

not_before : (names : List (List ℕ)) (n : List ℕ) (i k : ℕ) → AreAscending names → i ≤ k → k < length names → is_lt (slice_cmp nat_cmp (get_or names i []) n) ≡ false → is_lt (slice_cmp nat_cmp (get_or names k []) n) ≡ false
not_before names n i k s from below f =
    ⊎_elim
    (λ e. contrary (is_lt (slice_cmp nat_cmp (get_or names k []) n)) (is_lt (slice_cmp nat_cmp (get_or names i []) n))
    (λ h. ap is_lt (nat_list_cmp_total.trans (get_or names i []) (get_or names k []) n (Less-from_sorted (slice_cmp nat_cmp) names i k [] s e below) (less_is (slice_cmp nat_cmp (get_or names k []) n) h))) f)
    (λ e. let same : i ≡ k = omega (arith, e, from) in subst (λ j. is_lt (slice_cmp nat_cmp (get_or names j []) n) ≡ false) same f)
    (cases_lt i k)

-- where the names before one end, there is its rank
pub rank-stop : (names : List (List ℕ)) (n : List ℕ) (i : ℕ) → AreAscending names → i < length names → ComeBefore names i n → is_lt (slice_cmp nat_cmp (get_or names i []) n) ≡ false → rank_of names n ≡ i
rank-stop names n i s l b f =
    count-of_first (λ m. is_lt (slice_cmp nat_cmp m n)) names i [] (omega (arith, l)) b (λ k from below. not_before names n i k s from below f)

pub rank-end : (names : List (List ℕ)) (n : List ℕ) (i : ℕ) → i ≡ length names → ComeBefore names i n → rank_of names n ≡ i
rank-end names n i e b =
    count-of_first (λ m. is_lt (slice_cmp nat_cmp m n)) names i [] (omega (arith, e)) b (λ k from below. absurd (omega (arith, from, below, e)))

-- names that come before one of a piece come before the later ones of it
pub precede : (names : List (List ℕ)) (at : ℕ) (piece : List (List ℕ)) (i : ℕ) → AreAscending piece → i < length piece → ComeBefore names at (get_or piece i []) → PrecedeFrom names at piece i
precede names at piece i s l b j from below =
    ⊎_elim
    (λ e. before-later names at (get_or piece i []) (get_or piece j []) b (Less-from_sorted (slice_cmp nat_cmp) piece i j [] s e below))
    (λ e. let same : i ≡ j = omega (arith, e, from) in subst (λ q. ComeBefore names at (get_or piece q [])) same b)
    (cases_lt i j)

-- names that ascend may be searched
pub searchable : (names : List (List ℕ)) (n : List ℕ) → AreAscending names → IsNonDecreasingBy (λ m. ordering_index (slice_cmp nat_cmp m n)) names
searchable names n s =
    searchable_from_sorted nat_list_cmp_total (λ m. m) names n
    (λ k d from below. ap is_lt (nat_list_cmp_total.antisymm (get_or names (k + 1) d) (get_or names k d) ∙ ap ordering_reverse (Less-from_sorted (slice_cmp nat_cmp) names k (k + 1) d s (omega arith) (omega arith))))
