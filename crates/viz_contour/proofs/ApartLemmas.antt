-- The three edges of a triangle of a contour are different.
use Rattle.std.proofs.Common.{◌≡◌, ◌≢◌, ℕ, suc, ◌+◌, ◌-◌, ◌<◌, ◌≤◌, ◌⊎◌, inl, inr, ⊎_elim, min, max, List, [], ◌∷◌, Bool, map, length, get_or, slice_index, refl, sym, ap, subst, ◌∙◌, arith}
use Rattle.std.specs.Prelude.{AllPairs}
use Rattle.std.specs.List.{All}
use Rattle.std.proofs.lemmas.Bool.{cases_lt}
use Rattle.std.proofs.lemmas.List.{get_or_default}
use Rattle.std.proofs.lemmas.List.Elements.{All-map}
use Rattle.viz_extent.specs.Extent.{Bounds, Has}
use Rattle.viz_extent.proofs.NumberingLemmas.{parts-of_index}
use Rattle.viz_fraction.specs.CaseRows.{End}
use Rattle.viz_fraction.specs.Cases.{cells_at}
use Rattle.viz_fraction.specs.CaseLaws.{IsCut}
use Rattle.viz_fraction.proofs.CaseEdges.{uses_cut_edges, whole_cells}
use Rattle.viz_kuhn.specs.Corners.{Corner, corner, IsCorner}
use Rattle.viz_kuhn.specs.Kuhn.{Row, rows}
use Rattle.viz_kuhn.specs.Places.{Place, place, place_of}
use Rattle.viz_kuhn.specs.Cubes.{HasCube, all_lowest, cubes_of, lowest_of, leaf_of, leaves_of, six_at, tetrahedra_of}
use Rattle.viz_kuhn.proofs.CubeLemmas.{length-all_lowest, numbers_each}
use Rattle.viz_kuhn.proofs.RowLemmas.{below_six, pairs_of_four}
use Rattle.viz_sheet.specs.Sheet.{AreApart}
use Rattle.viz_grid_section.specs.Edges.{Edge, edge_of}
use Rattle.viz_grid_section.specs.GridSection.{mask_of, named, cells_in, grid_cells}
use Rattle.viz_grid_section.proofs.MembersLemmas.{get_or-map_of, length-map_of, mask_case, Contains-flat_map, Contains-item}
use Rattle.viz_grid_section.proofs.TetrahedraLemmas.{All-flat_map, are_tetrahedra}

-- ---- leaves

-- how many steps a corner is from the lowest one
abbrev steps : Corner → ℕ
steps c = c.x + c.y + c.z

point_within : (b : Bounds) (at : Place) (c : Corner) → HasCube b at.i at.j at.k → IsCorner c → Has b (at.i + c.x) (at.j + c.y) (at.k + c.z)
point_within b at c has corner =
    let x = corner.x in
    let y = corner.y in
    let z = corner.z in
    record {
      x = record { at_least = omega arith; at_most = omega arith };
      y = record { at_least = omega arith; at_most = omega arith };
      z = record { at_least = omega arith; at_most = omega arith };
    }

taken : (x i c m : ℕ) → x ≤ i → m ≡ i + c - x → c ≡ m + x - i
taken x i c m least is = omega (arith, is)

-- corners of one leaf are as many steps from the lowest one
same_steps : (b : Bounds) (at : Place) (c d : Corner) → HasCube b at.i at.j at.k → IsCorner c → IsCorner d
    → leaf_of b (place_of at c) ≡ leaf_of b (place_of at d) → steps c ≡ steps d
same_steps b at c d has of_c of_d same =
    let p = parts-of_index b (at.i + c.x) (at.j + c.y) (at.k + c.z) _ (point_within b at c has of_c) same in
    let q = parts-of_index b (at.i + d.x) (at.j + d.y) (at.k + d.z) _ (point_within b at d has of_d) refl in
    let x : c.x ≡ d.x = taken b.x0 at.i c.x _ has.x.at_least p.0 ∙ sym (taken b.x0 at.i d.x _ has.x.at_least q.0) in
    let y : c.y ≡ d.y = taken b.y0 at.j c.y _ has.y.at_least p.1 ∙ sym (taken b.y0 at.j d.y _ has.y.at_least q.1) in
    let z : c.z ≡ d.z = taken b.z0 at.k c.z _ has.z.at_least p.2 ∙ sym (taken b.z0 at.k d.z _ has.z.at_least q.2) in
    omega (arith, x, y, z)

-- two corners of a cube that aren't as many steps from the lowest one
pub record AreSteps (c d : Corner) : Type 0 where
  pub first : IsCorner c
  pub second : IsCorner d
  pub differ : steps c ≢ steps d

bits : (x y z : ℕ) → x < 2 → y < 2 → z < 2 → IsCorner (corner x y z)
bits x y z px py pz = record { x = px; y = py; z = pz }

of_row : (a b c d : Corner) → IsCorner a → IsCorner b → IsCorner c → IsCorner d
    → steps a ≢ steps b → steps a ≢ steps c → steps a ≢ steps d → steps b ≢ steps c → steps b ≢ steps d → steps c ≢ steps d
    → AllPairs AreSteps (a ∷ b ∷ c ∷ d ∷ [])
of_row a b c d ia ib ic id ab ac ad bc bd cd =
    pairs_of_four AreSteps a b c d
    (record { first = ia; second = ib; differ = ab }) (record { first = ia; second = ic; differ = ac }) (record { first = ia; second = id; differ = ad })
    (record { first = ib; second = ic; differ = bc }) (record { first = ib; second = id; differ = bd }) (record { first = ic; second = id; differ = cd })

up_row : (x1 y1 z1 x2 y2 z2 : ℕ) → IsCorner (corner x1 y1 z1) → IsCorner (corner x2 y2 z2) → x1 + y1 + z1 ≡ 1 → x2 + y2 + z2 ≡ 2
    → AllPairs AreSteps (corner 0 0 0 ∷ corner x1 y1 z1 ∷ corner x2 y2 z2 ∷ corner 1 1 1 ∷ [])
up_row x1 y1 z1 x2 y2 z2 p q one two =
    let o : 0 < 2 = omega arith in
    let i : 1 < 2 = omega arith in
    of_row _ _ _ _ (bits 0 0 0 o o o) p q (bits 1 1 1 i i i)
    (omega (arith, one)) (omega (arith, two)) (omega arith) (omega (arith, one, two)) (omega (arith, one)) (omega (arith, two))

down_row : (x1 y1 z1 x2 y2 z2 : ℕ) → IsCorner (corner x1 y1 z1) → IsCorner (corner x2 y2 z2) → x1 + y1 + z1 ≡ 2 → x2 + y2 + z2 ≡ 1
    → AllPairs AreSteps (corner 0 0 0 ∷ corner x1 y1 z1 ∷ corner x2 y2 z2 ∷ corner 1 1 1 ∷ [])
down_row x1 y1 z1 x2 y2 z2 p q two one =
    let o : 0 < 2 = omega arith in
    let i : 1 < 2 = omega arith in
    of_row _ _ _ _ (bits 0 0 0 o o o) p q (bits 1 1 1 i i i)
    (omega (arith, two)) (omega (arith, one)) (omega arith) (omega (arith, one, two)) (omega (arith, two)) (omega (arith, one))

rows_apart : All (λ (r : Row). (length r.corners ≡ 4) × AllPairs AreSteps r.corners) rows
unfolding rows
rows_apart k d within =
    let o : 0 < 2 = omega arith in
    let i : 1 < 2 = omega arith in
    below_six (λ p. (length (get_or rows p d).corners ≡ 4) × AllPairs AreSteps (get_or rows p d).corners)
    (refl, up_row 1 0 0 1 1 0 (bits 1 0 0 i o o) (bits 1 1 0 i i o) refl refl)
    (refl, down_row 1 0 1 1 0 0 (bits 1 0 1 i o i) (bits 1 0 0 i o o) refl refl)
    (refl, down_row 1 1 0 0 1 0 (bits 1 1 0 i i o) (bits 0 1 0 o i o) refl refl)
    (refl, up_row 0 1 0 0 1 1 (bits 0 1 0 o i o) (bits 0 1 1 o i i) refl refl)
    (refl, up_row 0 0 1 1 0 1 (bits 0 0 1 o o i) (bits 1 0 1 i o i) refl refl)
    (refl, down_row 0 1 1 0 0 1 (bits 0 1 1 o i i) (bits 0 0 1 o o i) refl refl)
    k within

-- four different leaves
pub record AreDifferent (leaves : List ℕ) : Type 0 where
  pub pairs : (i j : ℕ) → i < j → j < 4 → slice_index leaves i ≢ slice_index leaves j

row_different : (b : Bounds) (at : Place) (corners : List Corner) → HasCube b at.i at.j at.k → length corners ≡ 4 → AllPairs AreSteps corners → AreDifferent (leaves_of b at corners)
row_different b at corners has four each =
    let leaf : Corner → ℕ = λ c. leaf_of b (place_of at c) in
    let none = corner 0 0 0 in
    record {
      pairs = λ i j order below same.
          let both = each i j none order (omega (arith, four)) in
          let at_i = get_or-map_of leaf corners i none 0 (omega (arith, four)) in
          let at_j = get_or-map_of leaf corners j none 0 (omega (arith, four)) in
          both.differ (same_steps b at (get_or corners i none) (get_or corners j none) has both.first both.second (sym at_i ∙ same ∙ at_j));
    }

pub are_different : (b : Bounds) → All AreDifferent (tetrahedra_of b)
are_different b =
    All-flat_map AreDifferent (six_at b) (all_lowest b) (λ k d less.
    let at = get_or (all_lowest b) k d in
    let cube : k < cubes_of b = subst (λ n. k < n) (length-all_lowest b) less in
    let same : at ≡ lowest_of b k = get_or_default (all_lowest b) k d (place b.x1 b.y1 b.z1) less in
    let P : Place → Type 0 = λ (p : Place). HasCube b p.i p.j p.k in
    let has : HasCube b at.i at.j at.k = subst P (sym same) (numbers_each b k cube).0 in
    All-map AreDifferent (λ (r : Row). leaves_of b at r.corners) rows (λ m e within. row_different b at _ has (rows_apart m e within).0 (rows_apart m e within).1))

-- ---- edges

-- where leaves are different, each is known by its index
index_of : (leaves : List ℕ) → AreDifferent leaves → (i j : ℕ) → i < 4 → j < 4 → slice_index leaves i ≡ slice_index leaves j → i ≡ j
index_of leaves differ i j below_i below_j same =
    ⊎_elim
    (λ less. absurd (differ.pairs i j less below_j same))
    (λ most. ⊎_elim (λ less. absurd (differ.pairs j i less below_i (sym same))) (λ least. omega (arith, most, least)) (cases_lt j i))
    (cases_lt i j)

-- the same lesser and greater one of two are the same two
same_two : (a b c d : ℕ) → min a b ≡ min c d → max a b ≡ max c d → ((a ≡ c) × (b ≡ d)) ⊎ ((a ≡ d) × (b ≡ c))
same_two a b c d low high =
    ⊎_elim
    (λ less. ⊎_elim
    (λ below. inl (omega (arith, less, below, low, high), omega (arith, less, below, low, high)))
    (λ above. inr (omega (arith, less, above, low, high), omega (arith, less, above, low, high))) (cases_lt c d))
    (λ most. ⊎_elim
    (λ below. inr (omega (arith, most, below, low, high), omega (arith, most, below, low, high)))
    (λ above. inl (omega (arith, most, above, low, high), omega (arith, most, above, low, high))) (cases_lt c d))
    (cases_lt a b)

end_edge : List ℕ → End → Edge
end_edge leaves e = edge_of (slice_index leaves e.low) (slice_index leaves e.high)

same_end : (e f : End) → e.low ≡ f.low → e.high ≡ f.high → e ≡ f
same_end e f low high = λ i. record { low = low i; high = high i }

-- ends with one edge are one end
edge_apart : (leaves : List ℕ) (mask : ℕ) (e f : End) → AreDifferent leaves → IsCut 4 mask e → IsCut 4 mask f → e ≢ f → end_edge leaves e ≢ end_edge leaves f
unfolding end_edge
edge_apart leaves mask e f differ of_e of_f other same =
    let low : e.low < 4 = omega (arith, of_e.order, of_e.within) in
    let low_f : f.low < 4 = omega (arith, of_f.order, of_f.within) in
    let at = index_of leaves differ in
    ⊎_elim
    (λ p. other (same_end e f (at e.low f.low low low_f p.0) (at e.high f.high of_e.within of_f.within p.1)))
    (λ p.
    let x : e.low ≡ f.high = at e.low f.high low of_f.within p.0 in
    let y : e.high ≡ f.low = at e.high f.low of_e.within low_f p.1 in
    omega (arith, x, y, of_e.order, of_f.order))
    (same_two (slice_index leaves e.low) (slice_index leaves e.high) (slice_index leaves f.low) (slice_index leaves f.high)
    (ap (λ (m : Edge). m.low) same) (ap (λ (m : Edge). m.high) same))

-- items that differ in pairs are apart
apart-map : {X Y : Type 0} (f : X → Y) (xs : List X) → AllPairs (λ x y. f x ≢ f y) xs → AreApart (map f xs)
apart-map f [] each = tt
apart-map {X} {Y} f (x ∷ xs) each = (
  All-map (λ y. f x ≢ y) f xs (λ k d less. each 0 (suc k) d (omega arith) (omega arith)),
  apart-map f xs (λ i j d order less. each (suc i) (suc j) d (omega arith) (omega arith)),
)

-- three different edges
pub record IsTriangle (cell : List Edge) : Type 0 where
  pub three : length cell ≡ 3
  pub apart : AreApart cell

in_tetrahedron : (inside : List Bool) (leaves : List ℕ) → length leaves ≡ 4 → AreDifferent leaves → All IsTriangle (cells_in inside leaves)
unfolding end_edge
in_tetrahedron inside leaves four differ =
    let m = mask_of inside leaves in
    let ends = cells_at 4 m in
    let known = mask_case inside leaves four in
    All-map IsTriangle (named leaves) ends (λ k d less.
    let cell = get_or ends k d in
    let whole = whole_cells 4 m known k d less in
    let each : (i : ℕ) (e : End) → i < length cell → IsCut 4 m (get_or cell i e) = λ i e below.
    (uses_cut_edges 4 m known (get_or cell i e)).0 (Contains-flat_map (λ (p : List End). p) ends k d (get_or cell i e) less (Contains-item cell i e below)) in
    record {
      three = length-map_of (end_edge leaves) cell ∙ whole.size;
      apart = apart-map (end_edge leaves) cell (λ i j e order below.
          edge_apart leaves m (get_or cell i e) (get_or cell j e) differ (each i e (omega (arith, order, below))) (each j e below) (whole.different i j e order below));
    })

-- all triangles of a section are
pub are_triangles : (b : Bounds) (inside : List Bool) → All IsTriangle (grid_cells b inside)
are_triangles b inside =
    All-flat_map IsTriangle (cells_in inside) (tetrahedra_of b) (λ k d less.
    in_tetrahedron inside (get_or (tetrahedra_of b) k d) (are_tetrahedra b k d less).four (are_different b k d less))
