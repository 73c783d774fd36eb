-- The cells in a tetrahedron between leaves, by names and by edges.
use Rattle.std.proofs.Common.{◌≡◌, ℕ, zero, suc, ◌+◌, ◌*◌, ◌<◌, ◌≤◌, Bool, false, cond, List, [], ◌∷◌, map, length, slice_index, slice_index_or, Ordering, Less, Equal, Greater, is_lt, refl, sym, ap, ap₂, ◌∙◌, arith, ⊎_elim}
use Rattle.std.specs.List.{All}
use Rattle.std.specs.Ordering.{nat_cmp, ordering_then}
use Rattle.std.proofs.Math.Nat.{min-eq_left, min-eq_right, max-eq_left, max-eq_right}
use Rattle.std.proofs.lemmas.Bool.{cases_lt}
use Rattle.std.proofs.lemmas.List.Elements.{All-head, All-tail}
use Rattle.viz_fraction.specs.CaseRows.{End}
use Rattle.viz_fraction.specs.Cases.{cells_at}
use Rattle.viz_fraction.proofs.CaseTable.{EachBelow}
use Rattle.viz_meaning.specs.Names.{edge_name}
use Rattle.viz_meaning.specs.Section as meaning
use Rattle.viz_meaning.specs.Section.{end_name, bits_of}
use Rattle.viz_grid_section.specs.Edges.{edge_of, edge_leaves}
use Rattle.viz_grid_section.specs.GridSection.{mask_of, named, cells_in}
use Rattle.viz_grid_section.proofs.MembersLemmas.{by_four, mask_case}

-- ---- lists

pub map-same : {X Y : Type 0} (f g : X → Y) → ((x : X) → f x ≡ g x) → (xs : List X) → map f xs ≡ map g xs
map-same f g same [] = refl
map-same f g same (x ∷ xs) = ap₂ (λ y ys. y ∷ ys) (same x) (map-same f g same xs)

pub map-after : {X Y Z : Type 0} (f : Y → Z) (g : X → Y) (xs : List X) → map f (map g xs) ≡ map (λ x. f (g x)) xs
map-after f g [] = refl
map-after f g (x ∷ xs) = ap (λ zs. f (g x) ∷ zs) (map-after f g xs)

-- ---- one edge

less : (x y : ℕ) → x < y → nat_cmp x y ≡ Less
less x y h = grind (arith)

not_less : (x y : ℕ) → y ≤ x → is_lt (nat_cmp x y) ≡ false
not_less x y h = grind (arith)

pub then_equal : (o : Ordering) → ordering_then o Equal ≡ o
then_equal Less = refl
then_equal Equal = refl
then_equal Greater = refl

-- the name of the edge between two leaves is both
pub name-edge : (a b : ℕ) → edge_name (a ∷ []) (b ∷ []) ≡ edge_leaves (edge_of a b)
name-edge a b = ⊎_elim after before (cases_lt b a)
  where
    name : Bool → List ℕ
    name first = cond first (b ∷ a ∷ []) (a ∷ b ∷ [])

    after : b < a → edge_name (a ∷ []) (b ∷ []) ≡ edge_leaves (edge_of a b)
    after h =
        ap (λ o. name (is_lt (ordering_then o Equal))) (less b a h)
        ∙ ap₂ (λ m n. m ∷ n ∷ []) (sym (min-eq_right (omega arith))) (sym (max-eq_left (omega arith)))

    before : a ≤ b → edge_name (a ∷ []) (b ∷ []) ≡ edge_leaves (edge_of a b)
    before h =
        ap name (ap is_lt (then_equal (nat_cmp b a)) ∙ not_less b a h)
        ∙ ap₂ (λ m n. m ∷ n ∷ []) (sym (min-eq_left h)) (sym (max-eq_right h))

-- ---- one tetrahedron

-- a fact of each number below n, written out, is one of any
each_below : (P : ℕ → Type 0) (n : ℕ) → EachBelow P n → (k : ℕ) → k < n → P k
each_below P zero facts k below = absurd (omega arith)
each_below P (suc n) (here, later) zero below = here
each_below P (suc n) (here, later) (suc k) below = each_below (λ i. P (suc i)) n later k (omega arith)

-- the name of an end between four leaves
abbrev end_between : List ℕ → End → List ℕ
end_between leaves e = edge_name (slice_index leaves e.low ∷ []) (slice_index leaves e.high ∷ [])

-- each end of a case lies between two of the four
ends-four : (a b c d : ℕ) (mask : ℕ) → mask < 16
    → map (map (end_name ((a ∷ []) ∷ (b ∷ []) ∷ (c ∷ []) ∷ (d ∷ []) ∷ []))) (cells_at 4 mask) ≡ map (map (end_between (a ∷ b ∷ c ∷ d ∷ []))) (cells_at 4 mask)
unfolding cells_at
ends-four a b c d mask below =
    each_below (λ m. map (map (end_name ((a ∷ []) ∷ (b ∷ []) ∷ (c ∷ []) ∷ (d ∷ []) ∷ []))) (cells_at 4 m) ≡ map (map (end_between (a ∷ b ∷ c ∷ d ∷ []))) (cells_at 4 m)) 16
    (refl, (refl, (refl, (refl, (refl, (refl, (refl, (refl, (refl, (refl, (refl, (refl, (refl, (refl, (refl, (refl, tt)))))))))))))))) mask below

-- by name an end is its edge
edges-four : (leaves : List ℕ) (cells : List (List End)) → map (map (end_between leaves)) cells ≡ map (map edge_leaves) (map (named leaves) cells)
edges-four leaves cells =
    map-same (map (end_between leaves)) (λ cell. map edge_leaves (named leaves cell))
    (λ cell.
    map-same (end_between leaves) (λ e. edge_leaves (edge_of (slice_index leaves e.low) (slice_index leaves e.high))) (λ e. name-edge (slice_index leaves e.low) (slice_index leaves e.high)) cell
    ∙ sym (map-after edge_leaves (λ (e : End). edge_of (slice_index leaves e.low) (slice_index leaves e.high)) cell))
    cells
    ∙ sym (map-after (map edge_leaves) (named leaves) cells)

-- which leaves are inside, as a number
mask-leaves : (inside : List ℕ → Bool) (flags : List Bool) (leaves : List ℕ) → All (λ leaf. inside (leaf ∷ []) ≡ slice_index_or flags leaf false) leaves
    → meaning.mask_of inside (map (λ leaf. leaf ∷ []) leaves) ≡ mask_of flags leaves
mask-leaves inside flags [] same = refl
mask-leaves inside flags (leaf ∷ leaves) same =
    let S : ℕ → Type 0 = λ n. inside (n ∷ []) ≡ slice_index_or flags n false in
    ap₂ (λ p rest. cond p 1 0 + 2 * rest) (All-head S leaf leaves same) (mask-leaves inside flags leaves (All-tail S leaf leaves same))

-- the cells in a tetrahedron by names are those by edges
pub cells-leaves : (inside : List ℕ → Bool) (flags : List Bool) (leaves : List ℕ) → length leaves ≡ 4 → All (λ leaf. inside (leaf ∷ []) ≡ slice_index_or flags leaf false) leaves
    → meaning.cells_in inside (map (λ leaf. leaf ∷ []) leaves) ≡ map (map edge_leaves) (cells_in flags leaves)
cells-leaves inside flags leaves four =
    by_four (λ xs. All (λ leaf. inside (leaf ∷ []) ≡ slice_index_or flags leaf false) xs → meaning.cells_in inside (map (λ leaf. leaf ∷ []) xs) ≡ map (map edge_leaves) (cells_in flags xs))
    (λ a b c d same.
    let leaves = a ∷ b ∷ c ∷ d ∷ [] in
    let below : mask_of flags leaves < 16 = (mask_case flags leaves refl).below in
    ap (λ mask. map (map (end_name ((a ∷ []) ∷ (b ∷ []) ∷ (c ∷ []) ∷ (d ∷ []) ∷ []))) (cells_at 4 mask)) (mask-leaves inside flags leaves same)
    ∙ ends-four a b c d (mask_of flags leaves) below
    ∙ edges-four leaves (cells_at 4 (mask_of flags leaves)))
    leaves four
