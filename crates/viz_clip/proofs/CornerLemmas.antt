-- The corners of a cell in ascending order, parted by which are inside.
use Rattle.std.proofs.Common.{◌≡◌, ◌≢◌, ℕ, zero, suc, ◌+◌, ◌<◌, ◌≤◌, Bool, true, false, not, ⊎_elim, List, [], ◌∷◌, length, get_or, map, min, max, cond, Less, is_lt, refl, sym, ap, ap₂, subst, ◌∙◌, arith}
use Rattle.std.specs.List.{All, AllByRecursion, Contains}
use Rattle.std.specs.List.Sorted.{IsStrictlySortedBy}
use Rattle.std.specs.Ordering.{nat_cmp}
use Rattle.std.proofs.Math.Nat.{min-eq_left, min-eq_right, max-eq_left, max-eq_right}
use Rattle.std.proofs.lemmas.Bool.{cases_lt}
use Rattle.std.proofs.lemmas.Cmp.{nat_cmp_total}
use Rattle.std.proofs.lemmas.List.Elements.{All-head, All-tail, All-contains, Contains-get_or}
use Rattle.viz_sheet.specs.Kept.{kept}
use Rattle.viz_sheet.specs.Sheet.{AreApart}
use Rattle.viz_meaning.proofs.ListLemmas.{all-among}
use Rattle.viz_clip_meaning.specs.Order.{ascending, with_item}
use Rattle.viz_clip_meaning.proofs.SetLemmas.{of-ascending, sorted-ascending}
use Rattle.viz_clip.specs.Steps.Corners.{slid, inside_of, outside_of}

is_less : (j k : ℕ) → j < k → is_lt (nat_cmp j k) ≡ true
is_less j k h = grind (arith)

not_less : (j k : ℕ) → j < k → is_lt (nat_cmp k j) ≡ false
not_less j k h = grind (arith)

less-below : (j k : ℕ) → nat_cmp j k ≡ Less → j < k
less-below j k h = grind (arith)

-- a number before all of a list that ascends slides into its front
slid-front : (y : ℕ) (ys : List ℕ) → IsStrictlySortedBy nat_cmp (y ∷ ys) → slid y ys ≡ y ∷ ys
unfolding IsStrictlySortedBy
slid-front y [] s = refl
slid-front y (z ∷ zs) s =
    let l : y < z = less-below y z s.0.0 in
    let le : y ≤ z = omega (arith, l) in
    ap₂ (λ a t. a ∷ t) (min-eq_left le) (ap (λ m. slid m zs) (max-eq_right le) ∙ slid-front z zs s.1)

-- a number that isn't in a list that ascends slides to where it belongs
slid-in : (x : ℕ) (ys : List ℕ) → IsStrictlySortedBy nat_cmp ys → All (λ y. x ≢ y) ys → slid x ys ≡ with_item nat_cmp x ys
unfolding IsStrictlySortedBy
slid-in x [] s d = refl
slid-in x (y ∷ ys) s d =
    ⊎_elim
    (λ l.
    let le : x ≤ y = omega (arith, l) in
    ap₂ (λ a t. a ∷ t) (min-eq_left le) (ap (λ m. slid m ys) (max-eq_right le) ∙ slid-front y ys s)
    ∙ ap (λ t. cond t (x ∷ y ∷ ys) (cond (is_lt (nat_cmp y x)) (y ∷ with_item nat_cmp x ys) (y ∷ ys))) (sym (is_less x y l)))
    (λ f.
    let differ : x ≢ y = All-head (λ z. x ≢ z) y ys d in
    let l : y < x = omega (arith, f, differ) in
    let le : y ≤ x = omega (arith, l) in
    ap₂ (λ a t. a ∷ t) (min-eq_right le) (ap (λ m. slid m ys) (max-eq_left le) ∙ slid-in x ys s.1 (All-tail (λ z. x ≢ z) y ys d))
    ∙ ap₂ (λ t u. cond t (x ∷ y ∷ ys) (cond u (y ∷ with_item nat_cmp x ys) (y ∷ ys))) (sym (not_less y x l)) (sym (is_less y x l)))
    (cases_lt x y)

-- all numbers of a list, slid in turn
abbrev pub all_slid : List ℕ → List ℕ
all_slid [] = []
all_slid (x ∷ xs) = slid x (all_slid xs)

pub slid-ascending : (xs : List ℕ) → AreApart xs → all_slid xs ≡ ascending nat_cmp xs
slid-ascending [] a = refl
slid-ascending (x ∷ xs) a =
    ap (slid x) (slid-ascending xs a.1)
    ∙ slid-in x (ascending nat_cmp xs) (sorted-ascending nat_cmp_total xs)
    (all-among (λ y. x ≢ y) (ascending nat_cmp xs) xs a.0 (λ z c. of-ascending nat_cmp_total xs z c))

-- four items of a list
pub four-items : {X : Type 0} (xs : List X) (d : X) → length xs ≡ 4 → xs ≡ get_or xs 0 d ∷ get_or xs 1 d ∷ get_or xs 2 d ∷ get_or xs 3 d ∷ []
four-items [] d h = absurd (omega arith)
four-items (a ∷ []) d h = absurd (omega arith)
four-items (a ∷ b ∷ []) d h = absurd (omega arith)
four-items (a ∷ b ∷ c ∷ []) d h = absurd (omega arith)
four-items (a ∷ b ∷ c ∷ e ∷ []) d h = refl
four-items (a ∷ b ∷ c ∷ e ∷ g ∷ xs) d h = absurd (omega arith)

-- a cell of four ranks in order is four ranks
pub four-slid : (cell : List ℕ) → length cell ≡ 4 → AreApart cell
    → slid (get_or cell 0 0) (slid (get_or cell 1 0) (slid (get_or cell 2 0) (get_or cell 3 0 ∷ []))) ≡ ascending nat_cmp cell
four-slid cell four apart =
    sym (ap all_slid (four-items cell 0 four)) ∙ slid-ascending cell apart

pub four-ascending : (cell : List ℕ) → length cell ≡ 4 → AreApart cell → length (ascending nat_cmp cell) ≡ 4
four-ascending cell four apart = ap length (sym (four-slid cell four apart))

-- what holds of a list's items holds of them in order
pub all-ascending : (P : ℕ → Type 0) (cell : List ℕ) → All P cell → All P (ascending nat_cmp cell)
all-ascending P cell h = all-among P (ascending nat_cmp cell) cell h (λ z c. of-ascending nat_cmp_total cell z c)

-- flags of four ranks
pub map-four : {X : Type 0} (f : ℕ → X) (rs : List ℕ) → length rs ≡ 4
    → map f rs ≡ f (get_or rs 0 0) ∷ f (get_or rs 1 0) ∷ f (get_or rs 2 0) ∷ f (get_or rs 3 0) ∷ []
map-four f rs h = ap (map f) (four-items rs 0 h)

-- four flags and ranks, parted, are the corners of a cell
pub parted-first : (inside : List Bool) (cell ranks : List ℕ) → ranks ≡ ascending nat_cmp cell → length cell ≡ 4 → AreApart cell
    → kept (get_or inside (get_or ranks 0 0) false ∷ get_or inside (get_or ranks 1 0) false ∷ get_or inside (get_or ranks 2 0) false ∷ get_or inside (get_or ranks 3 0) false ∷ [])
    (get_or ranks 0 0 ∷ get_or ranks 1 0 ∷ get_or ranks 2 0 ∷ get_or ranks 3 0 ∷ [])
    ≡ inside_of inside cell
parted-first inside cell ranks e four apart =
    let len : length ranks ≡ 4 = ap length e ∙ four-ascending cell four apart in
    sym (ap₂ kept (map-four (λ r. get_or inside r false) ranks len) (four-items ranks 0 len)) ∙ ap (λ l. kept (map (λ r. get_or inside r false) l) l) e

pub parted-last : (inside : List Bool) (cell ranks : List ℕ) → ranks ≡ ascending nat_cmp cell → length cell ≡ 4 → AreApart cell
    → kept (map not (get_or inside (get_or ranks 0 0) false ∷ get_or inside (get_or ranks 1 0) false ∷ get_or inside (get_or ranks 2 0) false ∷ get_or inside (get_or ranks 3 0) false ∷ []))
    (get_or ranks 0 0 ∷ get_or ranks 1 0 ∷ get_or ranks 2 0 ∷ get_or ranks 3 0 ∷ [])
    ≡ outside_of inside cell
parted-last inside cell ranks e four apart =
    let len : length ranks ≡ 4 = ap length e ∙ four-ascending cell four apart in
    sym (ap₂ (λ fs rs. kept (map not fs) rs) (map-four (λ r. get_or inside r false) ranks len) (four-items ranks 0 len))
    ∙ ap (λ l. kept (map not (map (λ r. get_or inside r false) l)) l) e
