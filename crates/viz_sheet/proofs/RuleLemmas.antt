-- What a test tells of a list once it has gone over all of it.
use Rattle.std.proofs.Common.{◌≡◌, ◌≢◌, ℕ, ◌+◌, ◌-◌, ◌<◌, ◌≤◌, true, List, [], ◌∷◌, length, get_or, take, drop, Ordering, Less, Equal, Greater, ap, refl, subst, sym, true≢false, arith}
use Rattle.std.specs.List.{All}
use Rattle.std.specs.Cmp.Lexicographic.{slice_cmp}
use Rattle.std.specs.Ordering.{nat_cmp, is_lt}
use Rattle.std.proofs.Math.Dec.{eqb}
use Rattle.std.proofs.lemmas.Bool.{eqb-true}
use Rattle.std.proofs.lemmas.Cmp.{nat_list_cmp_total}
use Rattle.std.proofs.lemmas.List.{take_all}
use Rattle.std.proofs.lemmas.List.Elements.{All-get_or}
use Rattle.std.proofs.lemmas.Map.Keys.{Less-from_sorted, sorted_from_all_adjacent}
use Rattle.viz_sheet.specs.Sheet.{AreApart, AreAscending}

-- what holds of the items that were seen holds of all
pub all_seen : {X : Type 0} (P : X → Type 0) (xs : List X) (i : ℕ) → length xs ≤ i → All P (take i xs) → All P xs
all_seen P xs i l h = subst (All P) (take_all i xs l) h

is_less : (o : Ordering) → is_lt o ≡ true → o ≡ Less
is_less Less h = refl
is_less Equal h = absurd (true≢false (sym h))
is_less Greater h = absurd (true≢false (sym h))

-- neighbours that ascend are names that ascend, and the other way round
pub ascending_from_neighbours : (names : List (List ℕ)) → ((k : ℕ) → k + 1 < length names → is_lt (slice_cmp nat_cmp (get_or names k []) (get_or names (k + 1) [])) ≡ true) → AreAscending names
ascending_from_neighbours names h = sorted_from_all_adjacent nat_list_cmp_total names [] (λ k l. is_less (slice_cmp nat_cmp (get_or names k []) (get_or names (k + 1) [])) (h k l))

pub neighbours_ascend : (names : List (List ℕ)) (i j : ℕ) → AreAscending names → i < j → j < length names → is_lt (slice_cmp nat_cmp (get_or names i []) (get_or names j [])) ≡ true
neighbours_ascend names i j s h l = ap is_lt (Less-from_sorted (slice_cmp nat_cmp) names i j [] s h l)

-- one item is found among the others, so they aren't apart
found_again : {A : Type 0} (x : ℕ) (xs ys : List ℕ) (k : ℕ) → ys ≡ xs → k < length ys → ((d : ℕ) → eqb (get_or ys k d) x ≡ true) → All (λ y. x ≢ y) xs → A
found_again x xs ys k e l h a =
    absurd (All-get_or (λ y. x ≢ y) xs k 0 (subst (λ (zs : List ℕ). k < length zs) e l) a
    (sym (eqb-true (get_or xs k 0) x (subst (λ (zs : List ℕ). eqb (get_or zs k 0) x ≡ true) e (h 0)))))

pub not_apart : {A : Type 0} (cell : List ℕ) (k : ℕ) → 1 ≤ length cell → k < length (take (length cell - 1) (drop 1 cell))
    → ((d : ℕ) → eqb (get_or (take (length cell - 1) (drop 1 cell)) k d) (get_or cell 0 0) ≡ true) → AreApart cell → A
not_apart [] k l b h a = absurd (omega (arith, l))
not_apart (x ∷ xs) k l b h a = found_again x xs (take (length (x ∷ xs) - 1) xs) k (take_all (length (x ∷ xs) - 1) xs (omega arith)) b h a.0
