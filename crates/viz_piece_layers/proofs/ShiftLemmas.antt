-- A sheet whose leaves' numbers are all so much greater is a sheet.
use Rattle.std.proofs.Common.{◌≡◌, ◌≢◌, ℕ, ◌+◌, ◌-◌, ◌≤◌, List, [], ◌∷◌, map, Less, Ordering, refl, sym, ap, ap₂, subst, ◌∙◌, arith}
use Rattle.std.specs.List.{AllByRecursion, Contains, flat_map}
use Rattle.std.specs.List.Sorted.{IsStrictlySortedBy}
use Rattle.std.specs.Cmp.Lexicographic.{slice_cmp}
use Rattle.std.specs.Ordering.{nat_cmp, ordering_then}
use Rattle.std.proofs.lemmas.List.{length-map}
use Rattle.viz_meaning.proofs.ListLemmas.{all-map, contains-map, contains-unmap, flat-map}
use Rattle.viz_sheet.specs.Sheet.{AreApart, IsNamedCell}
use Rattle.viz_piece_layers.specs.Sheets.{ShiftedIsSheet}

-- leaves so much greater, and back
back : (by : ℕ) (n : List ℕ) → map (λ leaf. leaf - by) (map (λ leaf. leaf + by) n) ≡ n
back by [] = refl
back by (l ∷ ls) = ap₂ (λ x xs. x ∷ xs) (same l by) (back by ls)
  where
    same : (a b : ℕ) → a + b - b ≡ a
    same a b = omega arith

one-name : (by : ℕ) (m n : List ℕ) → map (λ leaf. leaf + by) m ≡ map (λ leaf. leaf + by) n → m ≡ n
one-name by m n e = sym (back by m) ∙ ap (map (λ leaf. leaf - by)) e ∙ back by n

-- names compare as before
leaves-compare : (by x y : ℕ) → nat_cmp (x + by) (y + by) ≡ nat_cmp x y
leaves-compare by x y = grind arith

names-compare : (by : ℕ) (m n : List ℕ) → slice_cmp nat_cmp (map (λ leaf. leaf + by) m) (map (λ leaf. leaf + by) n) ≡ slice_cmp nat_cmp m n
names-compare by [] [] = refl
names-compare by [] (y ∷ ys) = refl
names-compare by (x ∷ xs) [] = refl
names-compare by (x ∷ xs) (y ∷ ys) = ap₂ ordering_then (leaves-compare by x y) (names-compare by xs ys)

-- a function that keeps the order of items keeps a list in order
after-map : {X Y : Type 0} (R : X → X → Ordering) (S : Y → Y → Ordering) (f : X → Y) → ((x z : X) → S (f x) (f z) ≡ R x z) → (x : X) (xs : List X)
    → AllByRecursion (λ z. R x z ≡ Less) xs → AllByRecursion (λ z. S (f x) z ≡ Less) (map f xs)
after-map R S f h x [] a = tt
after-map R S f h x (z ∷ zs) a = (h x z ∙ a.0, after-map R S f h x zs a.1)

sorted-map : {X Y : Type 0} (R : X → X → Ordering) (S : Y → Y → Ordering) (f : X → Y) → ((x z : X) → S (f x) (f z) ≡ R x z) → (xs : List X)
    → IsStrictlySortedBy R xs → IsStrictlySortedBy S (map f xs)
unfolding IsStrictlySortedBy
sorted-map R S f h [] s = tt
sorted-map R S f h (x ∷ xs) s = (after-map R S f h x xs s.0, sorted-map R S f h xs s.1)

-- names that are apart stay apart
apart-map : {X Y : Type 0} (f : X → Y) → ((x z : X) → f x ≡ f z → x ≡ z) → (xs : List X) → AreApart xs → AreApart (map f xs)
apart-map f one [] a = tt
apart-map f one (x ∷ xs) a = (all-map (λ y. f x ≢ y) f xs (λ k d l e. a.0 k d l (one x _ e)), apart-map f one xs a.1)

pub shifted_is_sheet : ShiftedIsSheet
shifted_is_sheet by s is =
    record {
      ascending = sorted-map (slice_cmp nat_cmp) (slice_cmp nat_cmp) moved (names-compare by) s.names is.ascending;
      matched = is.matched ∙ sym (length-map s.names moved);
      each = all-map IsNamedCell (map moved) s.cells (λ k d l. cell _ (is.each k d l));
      used = λ n. (
        λ c.
            let m = contains-unmap moved s.names n c in
            subst (Contains (flat_map (λ c. c) (map (map moved) s.cells))) m.2
            (subst (λ ns. Contains ns (moved m.0)) (sym (flat-map moved s.cells)) (contains-map moved (flat_map (λ c. c) s.cells) m.0 ((is.used m.0).0 m.1))),
        λ c.
            let m = contains-unmap moved (flat_map (λ c. c) s.cells) n (subst (λ ns. Contains ns n) (flat-map moved s.cells) c) in
            subst (Contains (map moved s.names)) m.2 (contains-map moved s.names m.0 ((is.used m.0).1 m.1)),
      );
    }
  where
    moved : List ℕ → List ℕ
    moved = map (λ leaf. leaf + by)

    cell : (c : List (List ℕ)) → IsNamedCell c → IsNamedCell (map moved c)
    cell c h = record {
      some = subst (λ k. 1 ≤ k) (sym (length-map c moved)) h.some;
      most = subst (λ k. k ≤ 4) (sym (length-map c moved)) h.most;
      apart = apart-map moved (one-name by) c h.apart;
    }
