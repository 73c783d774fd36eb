-- The edges of a section are cut edges of its tetrahedra.
use Rattle.std.proofs.Common.{◌≡◌, ◌≢◌, ℕ, suc, zero, ◌+◌, ◌*◌, ◌<◌, Bool, true, false, if◌then◌else◌, List, [], ◌∷◌, ◌++◌, map, length, get_or, slice_index, slice_index_or, refl, sym, ap, subst, ◌∙◌, arith}
use Rattle.std.specs.List.{All, Contains, flat_map}
use Rattle.std.proofs.lemmas.List.{get_or_default}
use Rattle.std.proofs.lemmas.List.Elements.{All-map, Contains-append_left, Contains-append_right}
use Rattle.std.proofs.lemmas.Grind.{flat_map-append}
use Rattle.viz_extent.specs.Extent.{Bounds}
use Rattle.viz_kuhn.specs.Cubes.{tetrahedra_of}
use Rattle.viz_fraction.specs.CaseRows.{End}
use Rattle.viz_fraction.specs.Cases.{IsCase, is_inside, cells_at, ends_of}
use Rattle.viz_fraction.specs.CaseLaws.{IsCut}
use Rattle.viz_fraction.proofs.CaseEdges.{uses_cut_edges}
use Rattle.viz_grid_section.specs.Edges.{Edge}
use Rattle.viz_grid_section.specs.Edges.{edge_of}
use Rattle.viz_grid_section.specs.GridSection.{mask_of, cells_in, grid_cells}
use Rattle.viz_grid_section.proofs.TetrahedraLemmas.{All-flat_map, are_tetrahedra}

-- ---- lists

-- the items of a list of pieces, piece by piece
pub flat_map-pieces : {X A : Type 0} (f : X → List (List A)) (xs : List X)
    → flat_map (λ (p : List A). p) (flat_map f xs) ≡ flat_map (λ x. flat_map (λ (p : List A). p) (f x)) xs
flat_map-pieces f [] = refl
flat_map-pieces {X} {A} f (x ∷ xs) =
    flat_map-append (λ (p : List A). p) (f x) (flat_map f xs) ∙ ap (λ rest. flat_map (λ (p : List A). p) (f x) ++ rest) (flat_map-pieces f xs)

map-append_of : {X Y : Type 0} (f : X → Y) (xs ys : List X) → map f (xs ++ ys) ≡ map f xs ++ map f ys
map-append_of f [] ys = refl
map-append_of f (x ∷ xs) ys = ap (λ rest. f x ∷ rest) (map-append_of f xs ys)

-- the items of cells made item by item, cell by cell
pub map-pieces : {X Y : Type 0} (f : X → Y) (cells : List (List X))
    → flat_map (λ (p : List Y). p) (map (λ (cell : List X). map f cell) cells) ≡ map f (flat_map (λ (p : List X). p) cells)
map-pieces f [] = refl
map-pieces {X} f (cell ∷ cells) =
    ap (λ rest. map f cell ++ rest) (map-pieces f cells) ∙ sym (map-append_of f cell (flat_map (λ (p : List X). p) cells))

pub Contains-flat_map : {X A : Type 0} (f : X → List A) (xs : List X) (k : ℕ) (d : X) (y : A)
    → k < length xs → Contains (f (get_or xs k d)) y → Contains (flat_map f xs) y
Contains-flat_map f [] k d y within has = absurd (omega arith)
Contains-flat_map f (x ∷ xs) zero d y within has = Contains-append_left (f x) (flat_map f xs) y has
Contains-flat_map f (x ∷ xs) (suc k) d y within has =
    Contains-append_right (f x) (flat_map f xs) y (Contains-flat_map f xs k d y (omega arith) has)

pub get_or-map_of : {X Y : Type 0} (f : X → Y) (xs : List X) (k : ℕ) (d : X) (e : Y) → k < length xs → get_or (map f xs) k e ≡ f (get_or xs k d)
get_or-map_of f [] k d e within = absurd (omega arith)
get_or-map_of f (x ∷ xs) zero d e within = refl
get_or-map_of f (x ∷ xs) (suc k) d e within = get_or-map_of f xs k d e (omega arith)

pub length-map_of : {X Y : Type 0} (f : X → Y) (xs : List X) → length (map f xs) ≡ length xs
length-map_of f [] = refl
length-map_of f (x ∷ xs) = ap (λ n. suc n) (length-map_of f xs)

pub Contains-item : {X : Type 0} (xs : List X) (k : ℕ) (d : X) → k < length xs → Contains xs (get_or xs k d)
Contains-item xs k d within = (k, within, get_or_default xs k (get_or xs k d) d within)

-- ---- masks

below_four : (P : ℕ → Type 0) → P 0 → P 1 → P 2 → P 3 → (i : ℕ) → i < 4 → P i
below_four P a b c d zero less = a
below_four P a b c d (suc zero) less = b
below_four P a b c d (suc (suc zero)) less = c
below_four P a b c d (suc (suc (suc zero))) less = d
below_four P a b c d (suc (suc (suc (suc i)))) less = absurd (omega arith)

-- four truth values as a number
abbrev four_bits : Bool → Bool → Bool → Bool → ℕ
four_bits p q r s = (if p then 1 else 0) + 2 * ((if q then 1 else 0) + 2 * ((if r then 1 else 0) + 2 * ((if s then 1 else 0) + 2 * 0)))

-- one of four truth values
abbrev one_of : Bool → Bool → Bool → Bool → ℕ → Bool
one_of p q r s i = slice_index_or (p ∷ q ∷ r ∷ s ∷ []) i false

four_read : (p q r s : Bool) (i : ℕ) → i < 4 → is_inside (four_bits p q r s) i ≡ one_of p q r s i
four_read true true true true i less = below_four (λ i. is_inside (four_bits true true true true) i ≡ one_of true true true true i) refl refl refl refl i less
four_read true true true false i less = below_four (λ i. is_inside (four_bits true true true false) i ≡ one_of true true true false i) refl refl refl refl i less
four_read true true false true i less = below_four (λ i. is_inside (four_bits true true false true) i ≡ one_of true true false true i) refl refl refl refl i less
four_read true true false false i less = below_four (λ i. is_inside (four_bits true true false false) i ≡ one_of true true false false i) refl refl refl refl i less
four_read true false true true i less = below_four (λ i. is_inside (four_bits true false true true) i ≡ one_of true false true true i) refl refl refl refl i less
four_read true false true false i less = below_four (λ i. is_inside (four_bits true false true false) i ≡ one_of true false true false i) refl refl refl refl i less
four_read true false false true i less = below_four (λ i. is_inside (four_bits true false false true) i ≡ one_of true false false true i) refl refl refl refl i less
four_read true false false false i less = below_four (λ i. is_inside (four_bits true false false false) i ≡ one_of true false false false i) refl refl refl refl i less
four_read false true true true i less = below_four (λ i. is_inside (four_bits false true true true) i ≡ one_of false true true true i) refl refl refl refl i less
four_read false true true false i less = below_four (λ i. is_inside (four_bits false true true false) i ≡ one_of false true true false i) refl refl refl refl i less
four_read false true false true i less = below_four (λ i. is_inside (four_bits false true false true) i ≡ one_of false true false true i) refl refl refl refl i less
four_read false true false false i less = below_four (λ i. is_inside (four_bits false true false false) i ≡ one_of false true false false i) refl refl refl refl i less
four_read false false true true i less = below_four (λ i. is_inside (four_bits false false true true) i ≡ one_of false false true true i) refl refl refl refl i less
four_read false false true false i less = below_four (λ i. is_inside (four_bits false false true false) i ≡ one_of false false true false i) refl refl refl refl i less
four_read false false false true i less = below_four (λ i. is_inside (four_bits false false false true) i ≡ one_of false false false true i) refl refl refl refl i less
four_read false false false false i less = below_four (λ i. is_inside (four_bits false false false false) i ≡ one_of false false false false i) refl refl refl refl i less

four_below : (p q r s : Bool) → four_bits p q r s < 16
four_below p q r s = grind arith

-- a list of four items is four items
pub by_four : (P : List ℕ → Type 0) → ((a b c d : ℕ) → P (a ∷ b ∷ c ∷ d ∷ [])) → (leaves : List ℕ) → length leaves ≡ 4 → P leaves
by_four P each [] four = absurd (omega arith)
by_four P each (a ∷ []) four = absurd (omega arith)
by_four P each (a ∷ b ∷ []) four = absurd (omega arith)
by_four P each (a ∷ b ∷ c ∷ []) four = absurd (omega arith)
by_four P each (a ∷ b ∷ c ∷ d ∷ []) four = each a b c d
by_four P each (a ∷ b ∷ c ∷ d ∷ e ∷ rest) four = absurd (omega arith)

-- a bit of the mask says whether that corner's leaf is inside
pub mask_bit : (inside : List Bool) (leaves : List ℕ) → length leaves ≡ 4 → (i : ℕ) → i < 4
    → is_inside (mask_of inside leaves) i ≡ slice_index_or inside (slice_index leaves i) false
mask_bit inside leaves four =
    by_four (λ xs. (i : ℕ) → i < 4 → is_inside (mask_of inside xs) i ≡ slice_index_or inside (slice_index xs i) false)
    (λ a b c d i less.
    let p = slice_index_or inside a false in
    let q = slice_index_or inside b false in
    let r = slice_index_or inside c false in
    let s = slice_index_or inside d false in
    four_read p q r s i less
    ∙ below_four (λ k. one_of p q r s k ≡ slice_index_or inside (slice_index (a ∷ b ∷ c ∷ d ∷ []) k) false) refl refl refl refl i less)
    leaves four

pub mask_case : (inside : List Bool) (leaves : List ℕ) → length leaves ≡ 4 → IsCase 4 (mask_of inside leaves)
mask_case inside leaves four =
    record {
      least = omega arith;
      most = omega arith;
      below = by_four (λ xs. mask_of inside xs < 16) (λ a b c d. four_below (slice_index_or inside a false) (slice_index_or inside b false) (slice_index_or inside c false) (slice_index_or inside d false)) leaves four;
    }

-- ---- one tetrahedron

-- the edge of an end in a tetrahedron
abbrev pub end_edge : List ℕ → End → Edge
end_edge leaves e = edge_of (slice_index leaves e.low) (slice_index leaves e.high)

-- the edges in a tetrahedron are those of the ends of its cells
pub edges-in_tetrahedron : (inside : List Bool) (leaves : List ℕ)
    → flat_map (λ (cell : List Edge). cell) (cells_in inside leaves) ≡ map (end_edge leaves) (ends_of (cells_at 4 (mask_of inside leaves)))
edges-in_tetrahedron inside leaves = map-pieces (end_edge leaves) (cells_at 4 (mask_of inside leaves))

-- what holds of each cut edge holds of the edges in the tetrahedron
pub All-in_tetrahedron : (P : Edge → Type 0) (inside : List Bool) (leaves : List ℕ) → length leaves ≡ 4
    → ((i j : ℕ) → i < j → j < 4 → slice_index_or inside (slice_index leaves i) false ≢ slice_index_or inside (slice_index leaves j) false → P (edge_of (slice_index leaves i) (slice_index leaves j)))
    → All P (flat_map (λ (cell : List Edge). cell) (cells_in inside leaves))
All-in_tetrahedron P inside leaves four each =
    let m = mask_of inside leaves in
    let ends = ends_of (cells_at 4 m) in
    let Q : List Edge → Type 0 = λ ns. All P ns in
    subst Q (sym (edges-in_tetrahedron inside leaves)) (All-map P (end_edge leaves) ends (λ k d less.
    let e = get_or ends k d in
    let cut : IsCut 4 m e = (uses_cut_edges 4 m (mask_case inside leaves four) e).0 (Contains-item ends k d less) in
    let low : e.low < 4 = omega (arith, cut.order, cut.within) in
    each e.low e.high cut.order cut.within (λ same. cut.apart (mask_bit inside leaves four e.low low ∙ same ∙ sym (mask_bit inside leaves four e.high cut.within)))))

-- ---- all tetrahedra

-- the edges of a section, tetrahedron by tetrahedron
edges-of_section : (b : Bounds) (inside : List Bool)
    → flat_map (λ (cell : List Edge). cell) (grid_cells b inside) ≡ flat_map (λ leaves. flat_map (λ (cell : List Edge). cell) (cells_in inside leaves)) (tetrahedra_of b)
edges-of_section b inside = flat_map-pieces (cells_in inside) (tetrahedra_of b)

-- what holds of each cut edge of each tetrahedron holds of the edges of the section
pub All-in_section : (P : Edge → Type 0) (b : Bounds) (inside : List Bool)
    → ((k : ℕ) (d : List ℕ) → k < length (tetrahedra_of b) → (i j : ℕ) → i < j → j < 4
    → slice_index_or inside (slice_index (get_or (tetrahedra_of b) k d) i) false ≢ slice_index_or inside (slice_index (get_or (tetrahedra_of b) k d) j) false
    → P (edge_of (slice_index (get_or (tetrahedra_of b) k d) i) (slice_index (get_or (tetrahedra_of b) k d) j)))
    → All P (flat_map (λ (cell : List Edge). cell) (grid_cells b inside))
All-in_section P b inside each =
    let Q : List Edge → Type 0 = λ ns. All P ns in
    subst Q (sym (edges-of_section b inside)) (All-flat_map P (λ leaves. flat_map (λ (cell : List Edge). cell) (cells_in inside leaves)) (tetrahedra_of b)
    (λ k d less. All-in_tetrahedron P inside (get_or (tetrahedra_of b) k d) (are_tetrahedra b k d less).four (each k d less)))
