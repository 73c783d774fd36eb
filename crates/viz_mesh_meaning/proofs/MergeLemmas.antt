-- The merge of sheets is a sheet: each point has a group, so each leaf is below their number.
use Rattle.std.proofs.Common.{◌≡◌, ℕ, zero, suc, ◌<◌, ◌≤◌, ◌^◌, ⊎_elim, Bool, true, false, cond, not, ◌||◌, ◌&&◌, List, [], ◌∷◌, length, get_or, map, nat_eq, Ordering, Less, Equal, Greater, is_eq, ℤ, refl, sym, ap, ap₂, subst, ◌∙◌, true≢false, arith}
use Rattle.std.specs.List.{All, Contains, filter, flat_map, list_any}
use Rattle.std.specs.Cmp.{IsTotalOrder}
use Rattle.std.specs.Cmp.Lexicographic.{slice_cmp}
use Rattle.std.specs.Ordering.{int_cmp, ordering_then}
use Rattle.std.proofs.lemmas.Cmp.{int_cmp_total, lists_total, nat_eq_equiv, tied_itself}
use Rattle.std.proofs.lemmas.List.{get_or_default, length-map}
use Rattle.std.proofs.lemmas.List.Elements.{All-head, All-tail, All-nil, All-cons, All-map, Contains-append_left, Contains-append_right}
use Rattle.std.proofs.lemmas.Map.Lookups.{exact_signed}
use Rattle.std.proofs.lemmas.Map.Views.{list_any-from_Contains}
use Rattle.viz_fraction.specs.Points.{Point}
use Rattle.viz_fraction.specs.Places.{place_of}
use Rattle.viz_sheet.specs.Sheet.{SheetData, AreApart, IsSheet}
use Rattle.viz_sheet.specs.Ranked.{IsCell}
use Rattle.viz_sheet.proofs.MemberLemmas.{member_cases, no_member}
use Rattle.viz_meaning.specs.Section.{point_of}
use Rattle.viz_meaning.proofs.LeafCells.{leaves-sheet}
use Rattle.viz_meaning.proofs.SectionLemmas.{all-cells, corners}
use Rattle.viz_mesh_meaning.specs.Merge.{all_points, cells_by_leaves, firsts, group_of, has_no_repeat, is_same_place, leaf_in, merged}
use Rattle.viz_mesh_meaning.proofs.CellLemmas.{point-at}

-- ---- places

pub places_total : IsTotalOrder (slice_cmp int_cmp)
places_total = lists_total int_cmp_total

then-equal : (o p : Ordering) → ordering_then o p ≡ Equal → (o ≡ Equal) × (p ≡ Equal)
then-equal Less p h = absurd (true≢false (sym (ap is_eq h)))
then-equal Equal p h = (refl, h)
then-equal Greater p h = absurd (true≢false (sym (ap is_eq h)))

pub exact-places : (p q : List ℤ) → slice_cmp int_cmp p q ≡ Equal → p ≡ q
exact-places [] [] h = refl
exact-places [] (y ∷ ys) h = absurd (true≢false (sym (ap is_eq h)))
exact-places (x ∷ xs) [] h = absurd (true≢false (sym (ap is_eq h)))
exact-places (x ∷ xs) (y ∷ ys) h =
    let two = then-equal (int_cmp x y) (slice_cmp int_cmp xs ys) h in
    ap₂ (λ a b. a ∷ b) (exact_signed x y two.0) (exact-places xs ys two.1)

equal_is : (o : Ordering) → is_eq o ≡ true → o ≡ Equal
equal_is Less h = absurd (true≢false (sym h))
equal_is Equal h = refl
equal_is Greater h = absurd (true≢false (sym h))

-- a test of places tells whether they are the same
pub same-places : (p q : List ℤ) → is_eq (slice_cmp int_cmp p q) ≡ true → p ≡ q
same-places p q h = exact-places p q (equal_is (slice_cmp int_cmp p q) h)

pub places-same : (p q : List ℤ) → p ≡ q → is_eq (slice_cmp int_cmp p q) ≡ true
places-same p q e = subst (λ r. is_eq (slice_cmp int_cmp p r) ≡ true) e (ap is_eq (tied_itself places_total p))

same-both : (p q r : Point) → is_same_place p q ≡ true → is_same_place q r ≡ true → is_same_place p r ≡ true
same-both p q r e f =
    places-same (place_of p) (place_of r) (same-places (place_of p) (place_of q) e ∙ same-places (place_of q) (place_of r) f)

-- ---- a group for each point

-- some group has the place of a point
abbrev is_among : Point → List Point → Bool
is_among x gs = list_any (λ g. is_same_place g x) gs

group-found : (gs : List Point) (x : Point) → is_among x gs ≡ true → group_of gs x < length gs
group-found [] x h = absurd (true≢false (sym h))
group-found (g ∷ gs) x h = one (is_same_place g x) h (group-found gs x)
  where
    one : (b : Bool) → (b || is_among x gs) ≡ true → (is_among x gs ≡ true → group_of gs x < length gs) → cond b 0 (suc (group_of gs x)) < suc (length gs)
    one true e rest = omega arith
    one false e rest = let r = rest e in omega arith

-- it stays among those that have another place than a point at another place
still-among : (p x : Point) (gs : List Point) → is_same_place p x ≡ false → is_among x gs ≡ true → is_among x (filter (λ q. not (is_same_place p q)) gs) ≡ true
still-among p x [] n h = absurd (true≢false (sym h))
still-among p x (g ∷ gs) n h = one (is_same_place g x) (is_same_place p g) refl refl h (still-among p x gs n)
  where
    one : (a b : Bool) → is_same_place g x ≡ a → is_same_place p g ≡ b → (a || is_among x gs) ≡ true → (is_among x gs ≡ true → is_among x (filter (λ q. not (is_same_place p q)) gs) ≡ true)
        → is_among x (cond (not b) (g ∷ filter (λ q. not (is_same_place p q)) gs) (filter (λ q. not (is_same_place p q)) gs)) ≡ true
    one true true ea eb e rest = absurd (true≢false (sym (same-both p g x eb ea) ∙ n))
    one true false ea eb e rest = ap (λ a. a || is_among x (filter (λ q. not (is_same_place p q)) gs)) ea
    one false true ea eb e rest = rest e
    one false false ea eb e rest = ap (λ a. a || is_among x (filter (λ q. not (is_same_place p q)) gs)) ea ∙ rest e

-- each point has the place of a group
first-found : (ps : List Point) (x : Point) → Contains ps x → is_among x (firsts ps) ≡ true
first-found [] x c = absurd (no_member x c)
first-found (p ∷ ps) x c = one (is_same_place p x) refl (first-found ps x)
  where
    one : (b : Bool) → is_same_place p x ≡ b → (Contains ps x → is_among x (firsts ps) ≡ true) → (b || is_among x (filter (λ q. not (is_same_place p q)) (firsts ps))) ≡ true
    one true e rest = refl
    one false e rest =
        still-among p x (firsts ps) e
        (rest (⊎_elim (λ (h : p ≡ x). absurd (true≢false (sym (places-same (place_of p) (place_of x) (ap place_of h)) ∙ e))) (λ t. t) (member_cases p ps x c)))

-- the points of a sheet are among all
points-among : (sheets : List SheetData) (k : ℕ) (d : SheetData) (x : Point) → k < length sheets → Contains (get_or sheets k d).points x → Contains (all_points sheets) x
points-among [] k d x l c = absurd (omega arith)
points-among (s ∷ ss) zero d x l c = Contains-append_left s.points (all_points ss) x c
points-among (s ∷ ss) (suc k) d x l c = Contains-append_right s.points (all_points ss) x (points-among ss k d x (omega arith) c)

-- so the leaf of a name is below the number of groups
leaf-below : (sheets : List SheetData) (k : ℕ) (d : SheetData) (n : List ℕ) → IsSheet (get_or sheets k d) → k < length sheets → Contains (get_or sheets k d).names n → leaf_in (firsts (all_points sheets)) (get_or sheets k d) n < length (firsts (all_points sheets))
leaf-below sheets k d n h l c =
    let s = get_or sheets k d in
    let all = all_points sheets in
    let x = point_of s n in
    let name : get_or s.names c.0 [] ≡ n = get_or_default s.names c.0 [] n c.1 ∙ c.2 in
    let below : c.0 < length s.points = omega (arith, h.matched, c.1) in
    let at : get_or s.points c.0 x ≡ x = sym (point-at s c.0 x h.ascending h.matched c.1) ∙ ap (point_of s) name in
    group-found (firsts all) x (first-found all x (points-among sheets k d x l (c.0, below, at)))

-- ---- the rule of the cells

no-repeat : (leaves : List ℕ) → has_no_repeat leaves ≡ true → AreApart leaves
no-repeat [] h = tt
no-repeat (leaf ∷ leaves) h = one (list_any (nat_eq leaf) leaves) (has_no_repeat leaves) refl refl h (no-repeat leaves)
  where
    one : (a b : Bool) → list_any (nat_eq leaf) leaves ≡ a → has_no_repeat leaves ≡ b → (not a && b) ≡ true → (has_no_repeat leaves ≡ true → AreApart leaves) → AreApart (leaf ∷ leaves)
    one true b ea eb e rest = absurd (true≢false (sym e))
    one false false ea eb e rest = absurd (true≢false (sym e))
    one false true ea eb e rest = (λ k d l s. true≢false (sym (list_any-from_Contains nat_eq_equiv leaf leaves (k, l, get_or_default leaves k leaf d l ∙ sym s)) ∙ ea), rest eb)

-- one to four leaves below a count
record IsMapped (count : ℕ) (cell : List ℕ) : Type 0 where
  some : 1 ≤ length cell
  most : length cell ≤ 4
  below : All (λ r. r < count) cell

filter-cells : (count : ℕ) (cells : List (List ℕ)) → All (IsMapped count) cells → All (IsCell count) (filter has_no_repeat cells)
filter-cells count [] h = All-nil (IsCell count)
filter-cells count (c ∷ cs) h = one (has_no_repeat c) refl (filter-cells count cs (All-tail (IsMapped count) c cs h))
  where
    one : (b : Bool) → has_no_repeat c ≡ b → All (IsCell count) (filter has_no_repeat cs) → All (IsCell count) (cond b (c ∷ filter has_no_repeat cs) (filter has_no_repeat cs))
    one true e rest =
        let here = All-head (IsMapped count) c cs h in
        All-cons (IsCell count) c (filter has_no_repeat cs) (record { some = here.some; most = here.most; below = here.below; apart = no-repeat c e }) rest
    one false e rest = rest

sheet-mapped : (sheets : List SheetData) (k : ℕ) (d : SheetData) → IsSheet (get_or sheets k d) → k < length sheets
    → All (IsMapped (length (firsts (all_points sheets)))) (cells_by_leaves (firsts (all_points sheets)) (get_or sheets k d))
sheet-mapped sheets k d h l =
    let s = get_or sheets k d in
    let gs = firsts (all_points sheets) in
    let f = leaf_in gs s in
    All-map (IsMapped (length gs)) (map f) s.cells (λ i e il.
    let cell = get_or s.cells i e in
    let count : length (map f cell) ≡ length cell = simp length-map in
    record {
      some = omega (arith, count, (h.each i e il).some);
      most = omega (arith, count, (h.each i e il).most);
      below = All-map (λ r. r < length gs) f cell (λ j n jl. leaf-below sheets k d (get_or cell j n) h l (corners s h i e il j n jl));
    })

pub merged-cells : (sheets : List SheetData) → All IsSheet sheets → All (IsCell (length (firsts (all_points sheets)))) (filter has_no_repeat (flat_map (cells_by_leaves (firsts (all_points sheets))) sheets))
merged-cells sheets h =
    let gs = firsts (all_points sheets) in
    filter-cells (length gs) (flat_map (cells_by_leaves gs) sheets)
    (all-cells (IsMapped (length gs)) (cells_by_leaves gs) sheets (λ k d l. sheet-mapped sheets k d (h k d l) l))

-- ---- the merge

pub merged-sheet : (sheets : List SheetData) → All IsSheet sheets → IsSheet (merged sheets)
merged-sheet sheets h =
    let gs = firsts (all_points sheets) in
    let cells = filter has_no_repeat (flat_map (cells_by_leaves gs) sheets) in
    leaves-sheet (length gs) gs cells refl (merged-cells sheets h)
