-- The order of keys doesn't matter to the counts of their sides.
use Rattle.std.proofs.Common.{◌≡◌, ℕ, ◌+◌, ◌*◌, ◌==◌, Bool, true, false, not, cond, ◌||◌, List, [], ◌∷◌, map, get_or, nat_eq, refl, sym, ap, ◌∙◌, eqb-true, eq-eqb, ne_eqb, arith}
use Rattle.std.specs.Prelude.{count_by, sum_by}
use Rattle.std.specs.List.{list_any}
use Rattle.std.specs.List.Sorted.{IsPermutation}
use Rattle.std.specs.Set.{is_member}
use Rattle.std.proofs.lemmas.List.Sums.{sum_by-cons}
use Rattle.std.proofs.lemmas.List.Sorted.{sum_by-IsPermutation}
use Rattle.viz_surface_law.specs.Steps.Keys.{half, forth, back, passing}
use Rattle.viz_surface_law.proofs.Sharing.ListCounts.{sum_by-same, sum_by-map, by_test}
use Rattle.viz_surface_law.proofs.Sharing.FacetTable.{Each, Each_at}
use Rattle.viz_surface_law.proofs.PassLaw.{without, uniq, split_at, cons_at, Each-uniq, without_hit, without_miss, eqb_apart, passes}

-- the others are without w, where w is the first
member_rest : (v x : ℕ) (xs : List ℕ) → (v ≡ x → ⊥) → is_member nat_eq (x ∷ xs) v ≡ is_member nat_eq xs v
member_rest v x xs apart = ap (λ t. t || is_member nat_eq xs v) (ne_eqb v x apart)

member_first : (x : ℕ) (xs : List ℕ) → is_member nat_eq (x ∷ xs) x ≡ true
member_first x xs = ap (λ t. t || is_member nat_eq xs x) (eq-eqb x x refl)

or_right : (p q : Bool) → q ≡ true → (p || q) ≡ true
or_right true q h = refl
or_right false q h = h

none_at_all : (h : ℕ → ℕ) (xs : List ℕ) → ((v : ℕ) → h v ≡ 0) → sum_by h xs ≡ 0
none_at_all h [] none = refl
none_at_all h (x ∷ xs) none = omega (arith, sum_by-cons h x xs, none x, none_at_all h xs none)

-- a sum over a list's members, where nothing else counts
sum_of_members : (h : ℕ → ℕ) (xs ys : List ℕ) → ((v : ℕ) → is_member nat_eq xs v ≡ false → h v ≡ 0) → ((v : ℕ) → is_member nat_eq xs v ≡ true → is_member nat_eq ys v ≡ true)
    → sum_by h (uniq ys) ≡ sum_by h (uniq xs)
sum_of_members h [] ys none within = none_at_all h (uniq ys) (λ v. none v refl)
sum_of_members h (x ∷ xs) ys none within =
    let m : is_member nat_eq ys x ≡ true = within x (member_first x xs) in
    let all : cond {A = ℕ} (is_member nat_eq ys x) (h x) 0 ≡ h x = ap (λ t. cond t (h x) 0) m in
    let rest = sum_of_members (without x h) xs ys (λ v miss. by_test (v == x)
    (λ so. without_hit x v h (eqb-true v x so))
    (λ other.
    let a = eqb_apart v x other in
    without_miss x v h a ∙ none v (member_rest v x xs a ∙ miss)))
    (λ v hit. within v (or_right (nat_eq v x) (is_member nat_eq xs v) hit)) in
    omega (arith, split_at h x ys, cons_at h x xs, all, rest)

-- each member is one
members : (xs : List ℕ) → Each (λ v. is_member nat_eq xs v ≡ true) xs
members [] = tt
members (x ∷ xs) = (member_first x xs, weaker xs (members xs))
  where
    weaker : (zs : List ℕ) → Each (λ v. is_member nat_eq xs v ≡ true) zs → Each (λ v. is_member nat_eq (x ∷ xs) v ≡ true) zs
    weaker [] each = tt
    weaker (z ∷ zs) each = (or_right (nat_eq z x) (is_member nat_eq xs z) each.0, weaker zs each.1)

same_sum : (h : ℕ → ℕ) (xs ys : List ℕ) → ((v : ℕ) → is_member nat_eq ys v ≡ is_member nat_eq xs v) → sum_by h (uniq ys) ≡ sum_by h (uniq xs)
same_sum h xs ys alike =
    let inner : ℕ → ℕ = λ v. cond (is_member nat_eq xs v) (h v) 0 in
    let at : (zs : List ℕ) → ((v : ℕ) → is_member nat_eq zs v ≡ is_member nat_eq xs v) → sum_by h (uniq zs) ≡ sum_by inner (uniq zs) =
    λ zs like. sum_by-same h inner (uniq zs) (λ k d less.
    let v = get_or (uniq zs) k d in
    let hit = Each_at (λ v. is_member nat_eq zs v ≡ true) (uniq zs) (Each-uniq (λ v. is_member nat_eq zs v ≡ true) zs (members zs)) k d less in
    sym (ap (λ t. cond {A = ℕ} t (h v) 0) (sym (like v) ∙ hit))) in
    at ys alike
    ∙ sum_of_members inner xs ys (λ v miss. ap (λ t. cond {A = ℕ} t (h v) 0) miss) (λ v hit. alike v ∙ hit)
    ∙ sym (at xs (λ v. refl))

any_is : {X : Type 0} (p : X → Bool) (xs : List X) → list_any p xs ≡ not (count_by p xs == 0)
any_is p [] = refl
any_is {X} p (x ∷ xs) = cases (p x) refl (any_is p xs)
  where
    step : count_by p (x ∷ xs) ≡ cond (p x) 1 0 + count_by p xs
    step = sum_by-cons (λ (y : X). cond {A = ℕ} (p y) 1 0) x xs

    cases : (t : Bool) → p x ≡ t → list_any p xs ≡ not (count_by p xs == 0) → list_any p (x ∷ xs) ≡ not (count_by p (x ∷ xs) == 0)
    cases true is rest =
        let one : cond {A = ℕ} (p x) 1 0 ≡ 1 = ap (λ t. cond t 1 0) is in
        ap (λ t. t || list_any p xs) is ∙ sym (ap not (ne_eqb (count_by p (x ∷ xs)) 0 (λ e. omega (arith, step, one, e))))
    cases false is rest =
        let none : count_by p (x ∷ xs) ≡ count_by p xs = omega (arith, step, ap (λ t. cond {A = ℕ} t 1 0) is) in
        ap (λ t. t || list_any p xs) is ∙ rest ∙ sym (ap (λ n. not (n == 0)) none)

-- keys in another order have the same sides, each run through as often
pub passing-reordered : (test : ℕ → ℕ → ℕ → Bool) (ks ls : List ℕ) → IsPermutation ks ls → passing test ls ≡ passing test ks
passing-reordered test ks ls moved =
    let f : (v : ℕ) → forth ls v ≡ forth ks v = λ v. sum_by-IsPermutation (λ key. cond {A = ℕ} (key == 2 * v) 1 0) ks ls moved in
    let b : (v : ℕ) → back ls v ≡ back ks v = λ v. sum_by-IsPermutation (λ key. cond {A = ℕ} (key == 2 * v + 1) 1 0) ks ls moved in
    let member : (v : ℕ) → is_member nat_eq (map half ls) v ≡ is_member nat_eq (map half ks) v = λ v.
    let count : (zs : List ℕ) → count_by (nat_eq v) (map half zs) ≡ sum_by (λ k. cond {A = ℕ} (nat_eq v (half k)) 1 0) zs = λ zs. sum_by-map (λ u. cond {A = ℕ} (nat_eq v u) 1 0) half zs in
    any_is (nat_eq v) (map half ls)
    ∙ ap (λ n. not (n == 0)) (count ls ∙ sum_by-IsPermutation (λ k. cond {A = ℕ} (nat_eq v (half k)) 1 0) ks ls moved ∙ sym (count ks))
    ∙ sym (any_is (nat_eq v) (map half ks)) in
    sum_by-same (passes test ls) (passes test ks) (uniq (map half ls)) (λ k d less.
    let v = get_or (uniq (map half ls)) k d in
    λ t. cond {A = ℕ} (test v (f v t) (b v t)) 1 0)
    ∙ same_sum (passes test ks) (map half ks) (map half ls) member
