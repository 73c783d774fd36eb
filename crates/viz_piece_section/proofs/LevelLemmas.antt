-- The level that a part of a section hands on to a cell is that of the layer that the cell begins in.
use Rattle.std.proofs.Common.{◌≡◌, ℕ, zero, suc, ◌+◌, ◌-◌, ◌*◌, ◌/◌, ◌^◌, ◌<◌, ◌≤◌, Bool, ◌⊎◌, inl, inr, ⊎_elim, List, [], ◌∷◌, ◌++◌, cond, length, get_or, map, replicate, refl, sym, ap, ap₂, subst, ◌∙◌, arith}
use Rattle.std.specs.List.{All, Contains, flat_map, range_with_len}
use Rattle.std.proofs.lemmas.Bool.{cond_both}
use Rattle.std.proofs.lemmas.List.{get_or-map, length-map, map-append}
use Rattle.std.proofs.lemmas.List.Elements.{All-contains, Contains-append_cases, Contains-append_left, Contains-append_right, Contains-get_or}
use Rattle.viz_extent.specs.Extent.{Bounds, Has, IsExtent, size_x, size_y}
use Rattle.viz_extent.proofs.NumberingLemmas.{index_at_below, parts-of_index}
use Rattle.viz_fraction.specs.CaseRows.{End}
use Rattle.viz_fraction.specs.Cases.{cells_at}
use Rattle.viz_kuhn.specs.Corners.{Corner, corner}
use Rattle.viz_kuhn.specs.Cubes.{cubes_x, cubes_y, cubes_z, leaf_of, leaves_of, lowest_in_layer, lowest_in_row, six_at}
use Rattle.viz_kuhn.specs.Kuhn.{Row, rows}
use Rattle.viz_kuhn.specs.Places.{Place, place, place_of}
use Rattle.viz_meaning.proofs.ListLemmas.{contains-map, contains-unmap}
use Rattle.viz_meaning.specs.Names.{edge_name, is_before}
use Rattle.viz_meaning.specs.Section.{cells_in, end_name, mask_of}
use Rattle.viz_piece_filters.specs.HandedOn.{counts, handed_on}
use Rattle.viz_piece_layers.specs.Layers.{LeavesLieBetween, distance, layer_tets, plane_of}
use Rattle.viz_piece_layers.specs.Pieces.{named}
use Rattle.viz_piece_layers.proofs.RangeLemmas.{from_flat_map, in_range, into_flat_map}
use Rattle.viz_sheet.proofs.MemberLemmas.{here, there, member_cases, no_member}
use Rattle.viz_piece_section.specs.Steps.Leaves.{cell_level, least_leaf, least_of}
use Rattle.viz_piece_section.proofs.FirstLemmas.{HasFirst, has-first}
use Rattle.viz_piece_section.proofs.LeastLemmas.{div-rises, least-below, least-keeps}

abbrev Cell : Type 0
Cell = List (List ℕ)

-- ---- what is handed on from cells whose level their parts have too

-- each cell that is made of a cell has the cell's level
abbrev pub Match : (Cell → List Cell) → (Cell → ℕ) → List ℕ → List Cell → Type 0
Match f g [] [] = Unit {0}
Match f g [] (c ∷ cs) = ⊥
Match f g (l ∷ ls) [] = ⊥
Match f g (l ∷ ls) (c ∷ cs) = All (λ x. g x ≡ l) (f c) × Match f g ls cs

each-level : (g : Cell → ℕ) (l : ℕ) (xs : List Cell) → All (λ x. g x ≡ l) xs → replicate (length xs) l ≡ map g xs
each-level g l [] h = refl
each-level g l (x ∷ xs) h = ap₂ (λ a b. a ∷ b) (sym (h 0 x (omega arith))) (each-level g l xs (λ k d m. h (suc k) d (omega (arith, m))))

pub handed-mapped : (f : Cell → List Cell) (g : Cell → ℕ) (levels : List ℕ) (cells : List Cell) → Match f g levels cells
    → handed_on levels (counts f cells) ≡ map g (flat_map f cells)
handed-mapped f g [] [] m = refl
handed-mapped f g [] (c ∷ cs) m = absurd m
handed-mapped f g (l ∷ ls) [] m = absurd m
handed-mapped f g (l ∷ ls) (c ∷ cs) m =
    ap₂ (λ a b. a ++ b) (each-level g l (f c) m.0) (handed-mapped f g ls cs m.1) ∙ sym (map-append g (f c) (flat_map f cs))

match-append : (f : Cell → List Cell) (g : Cell → ℕ) (ls ms : List ℕ) (cs ds : List Cell) → Match f g ls cs → Match f g ms ds → Match f g (ls ++ ms) (cs ++ ds)
match-append f g [] ms [] ds m n = n
match-append f g [] ms (c ∷ cs) ds m n = absurd m
match-append f g (l ∷ ls) ms [] ds m n = absurd m
match-append f g (l ∷ ls) ms (c ∷ cs) ds m n = (m.0, match-append f g ls ms cs ds m.1 n)

pub match-each : (f : Cell → List Cell) (g : Cell → ℕ) (l : ℕ) (cs : List Cell) → ((c : Cell) → Contains cs c → All (λ x. g x ≡ l) (f c))
    → Match f g (replicate (length cs) l) cs
match-each f g l [] h = tt
match-each f g l (c ∷ cs) h = (h c (here c cs), match-each f g l cs (λ d m. h d (there c cs d m)))

pub match-range : (f : Cell → List Cell) (g : Cell → ℕ) (levels : ℕ → List ℕ) (cells : ℕ → List Cell) (a n : ℕ)
    → ((z : ℕ) → a ≤ z → z < a + n → Match f g (levels z) (cells z))
    → Match f g (flat_map levels (range_with_len a n)) (flat_map cells (range_with_len a n))
match-range f g levels cells a zero h = tt
match-range f g levels cells a (suc n) h =
    match-append f g (levels a) (flat_map levels (range_with_len (a + 1) n)) (cells a) (flat_map cells (range_with_len (a + 1) n))
    (h a (omega arith) (omega arith))
    (match-range f g levels cells (a + 1) n (λ z l m. h z (omega (arith, l)) (omega (arith, m))))

-- ---- the leaves of a cell of a section are those of the tetrahedron that it is in

abbrev single : ℕ → List ℕ
single leaf = leaf ∷ []

edge-has : (m n : List ℕ) (leaf : ℕ) → Contains (edge_name m n) leaf → Contains m leaf ⊎ Contains n leaf
edge-has m n leaf =
    cond_both (is_before n m) (n ++ m) (m ++ n) (λ name. Contains name leaf → Contains m leaf ⊎ Contains n leaf)
    (λ _ c. ⊎_elim (λ d. inr d) (λ d. inl d) (Contains-append_cases n m leaf c))
    (λ _ c. Contains-append_cases m n leaf c)

has-edge : (m n : List ℕ) (leaf : ℕ) → Contains m leaf → Contains (edge_name m n) leaf
has-edge m n leaf c =
    cond_both (is_before n m) (n ++ m) (m ++ n) (λ name. Contains name leaf)
    (λ _. Contains-append_right n m leaf c)
    (λ _. Contains-append_left m n leaf c)

leaf-at : (t : List ℕ) (i leaf : ℕ) → Contains (get_or (map single t) i []) leaf → Contains t leaf
leaf-at [] i leaf c = absurd (no_member leaf c)
leaf-at (l ∷ ls) zero leaf c = ⊎_elim (λ e. subst (Contains (l ∷ ls)) e (here l ls)) (λ d. absurd (no_member leaf d)) (member_cases l [] leaf c)
leaf-at (l ∷ ls) (suc i) leaf c = there l ls leaf (leaf-at ls i leaf c)

pub leaves-in : (inside : List ℕ → Bool) (t : List ℕ) (x : Cell) (leaf : ℕ) → Contains (cells_in inside (map single t)) x → Contains (flat_map (λ n. n) x) leaf → Contains t leaf
leaves-in inside t x leaf cx cl =
    let corners = map single t in
    let of_cell = contains-unmap (map (end_name corners)) (cells_at (length corners) (mask_of inside corners)) x cx in
    let of_name = from_flat_map (λ (n : List ℕ). n) x leaf cl in
    let of_end = contains-unmap (end_name corners) of_cell.0 of_name.0 (subst (λ ns. Contains ns of_name.0) (sym of_cell.2) of_name.1) in
    let e : End = of_end.0 in
    ⊎_elim (leaf-at t e.low leaf) (leaf-at t e.high leaf)
    (edge-has (get_or corners e.low []) (get_or corners e.high []) leaf (subst (λ n. Contains n leaf) (sym of_end.2) of_name.2))

-- and the first leaf is one of them
pub first-in : (inside : List ℕ → Bool) (t : List ℕ) (x : Cell) → length t ≡ 4 → Contains (cells_in inside (map single t)) x → Contains (flat_map (λ n. n) x) (get_or t 0 0)
first-in inside t x four cx =
    let corners = map single t in
    let has = All-contains (HasFirst corners) (cells_in inside corners) x (has-first inside corners (length-map t single ∙ four)) cx in
    let some : 0 < length t = omega (arith, four) in
    let e : End = has.end in
    let at : get_or corners e.low [] ≡ get_or t 0 0 ∷ [] = ap (λ k. get_or corners k []) has.low ∙ get_or-map single t 0 0 [] some in
    into_flat_map (λ (n : List ℕ). n) x (end_name corners e) (get_or t 0 0) has.used
    (has-edge (get_or corners e.low []) (get_or corners e.high []) (get_or t 0 0) (subst (λ n. Contains n (get_or t 0 0)) (sym at) (here (get_or t 0 0) [])))

-- ---- the first leaf of a tetrahedron lies on the plane below its layer

record IsFromLowest (r : Row) : Type 0 where
  four : length r.corners ≡ 4
  first : get_or r.corners 0 (corner 1 1 1) ≡ corner 0 0 0

row-at : (p : ℕ) → p < length rows → (d : Row) → IsFromLowest (get_or rows p d)
unfolding rows
row-at zero l d = record { four = refl; first = refl }
row-at (suc zero) l d = record { four = refl; first = refl }
row-at (suc (suc zero)) l d = record { four = refl; first = refl }
row-at (suc (suc (suc zero))) l d = record { four = refl; first = refl }
row-at (suc (suc (suc (suc zero)))) l d = record { four = refl; first = refl }
row-at (suc (suc (suc (suc (suc zero))))) l d = record { four = refl; first = refl }
row-at (suc (suc (suc (suc (suc (suc p)))))) l d = absurd (omega arith)

pub record BeginsAt (b : Bounds) (z : ℕ) (t : List ℕ) : Type 0 where
  pub four : length t ≡ 4
  pub plane : plane_of b (get_or t 0 0) ≡ z
  pub below : get_or t 0 0 < 2 ^ 31

lowest-leaf : (b : Bounds) (i j z : ℕ) → IsExtent b → b.x0 ≤ i → i < b.x0 + cubes_x b → b.y0 ≤ j → j < b.y0 + cubes_y b → z < cubes_z b
    → (plane_of b (leaf_of b (place_of (place i j (b.z0 + z)) (corner 0 0 0))) ≡ z) × (leaf_of b (place_of (place i j (b.z0 + z)) (corner 0 0 0)) < 2 ^ 31)
lowest-leaf b i j z is lx bx ly by lz =
    let leaf = leaf_of b (place_of (place i j (b.z0 + z)) (corner 0 0 0)) in
    let has : Has b (i + 0) (j + 0) (b.z0 + z + 0) = record {
      x = record { at_least = omega arith; at_most = omega arith };
      y = record { at_least = omega arith; at_most = omega arith };
      z = record { at_least = omega arith; at_most = omega arith };
    } in
    let parts = parts-of_index b (i + 0) (j + 0) (b.z0 + z + 0) leaf has refl in
    let most = index_at_below b (i + 0) (j + 0) (b.z0 + z + 0) has in
    let count = is.count in
    (omega (arith, parts.2), omega (arith, most, count))

pub begins-at : (b : Bounds) (z : ℕ) (t : List ℕ) → IsExtent b → z < cubes_z b → Contains (layer_tets b z) t → BeginsAt b z t
begins-at b z t is lz c =
    let cube = from_flat_map (six_at b) (lowest_in_layer b (b.z0 + z)) t c in
    let by_row = from_flat_map (λ j. lowest_in_row b j (b.z0 + z)) (range_with_len b.y0 (cubes_y b)) cube.0 cube.1 in
    let in_row = contains-unmap (λ i. place i by_row.0 (b.z0 + z)) (range_with_len b.x0 (cubes_x b)) cube.0 by_row.2 in
    let y = in_range b.y0 (cubes_y b) by_row.0 by_row.1 in
    let x = in_range b.x0 (cubes_x b) in_row.0 in_row.1 in
    let of_row = contains-unmap (λ (r : Row). leaves_of b cube.0 r.corners) rows t cube.2 in
    let r : Row = of_row.0 in
    let from = subst IsFromLowest of_row.1.2 (row-at of_row.1.0 of_row.1.1 r) in
    let leaf = λ (c : Corner). leaf_of b (place_of cube.0 c) in
    let four : length t ≡ 4 = ap length (sym of_row.2) ∙ length-map r.corners leaf ∙ from.four in
    let some : 0 < length r.corners = omega (arith, from.four) in
    let first : leaf_of b (place_of (place in_row.0 by_row.0 (b.z0 + z)) (corner 0 0 0)) ≡ get_or t 0 0 =
    ap (λ at. leaf_of b (place_of at (corner 0 0 0))) in_row.2
    ∙ ap leaf (sym from.first) ∙ sym (get_or-map leaf r.corners 0 (corner 1 1 1) 0 some) ∙ ap (λ ls. get_or ls 0 0) of_row.2 in
    let low = lowest-leaf b in_row.0 by_row.0 z is x.0 x.1 y.0 y.1 lz in
    record {
      four = four;
      plane = ap (plane_of b) (sym first) ∙ low.0;
      below = subst (λ k. k < 2 ^ 31) first low.1;
    }

-- ---- the layer of a cell

plane-rises : (b : Bounds) (m n : ℕ) → m ≤ n → plane_of b m ≤ plane_of b n
plane-rises b m n l = div-rises (m / size_x b) (n / size_x b) (size_y b) (omega arith) (div-rises m n (size_x b) (omega arith) l)

pub layer-is : LeavesLieBetween → (inside : List ℕ → Bool) (b : Bounds) (z : ℕ) (t : List ℕ) (x : Cell) → IsExtent b → z < cubes_z b → Contains (layer_tets b z) t
    → Contains (cells_in inside (map single t)) x → plane_of b (least_leaf x) ≡ z
layer-is between inside b z t x is lz ct cx =
    let begin = begins-at b z t is lz ct in
    let leaves = flat_map (λ (n : List ℕ). n) x in
    let first = get_or t 0 0 in
    let in_x = first-in inside t x begin.four cx in
    let most : plane_of b (least_of leaves) ≤ plane_of b first = plane-rises b (least_of leaves) first (least-below leaves first in_x) in
    let plane = begin.plane in
    let below = begin.below in
    let last : plane_of b first ≤ plane_of b (2 ^ 31 - 1) = plane-rises b first (2 ^ 31 - 1) (omega (arith, below)) in
    let least : z ≤ plane_of b (least_of leaves) =
    least-keeps (λ leaf. z ≤ plane_of b leaf) leaves (omega (arith, last, plane))
    (λ leaf c. (between b z t leaf lz ct (leaves-in inside t x leaf cx c)).0) in
    omega (arith, most, least, plane)

-- so each cell of a layer's tetrahedra has the level of the layer
pub level-is : LeavesLieBetween → (inside : List ℕ → Bool) (b : Bounds) (first next z : ℕ) (c : Cell) → IsExtent b → z < cubes_z b
    → Contains (named (layer_tets b z)) c → All (λ x. cell_level first next b x ≡ distance first next z) (cells_in inside c)
level-is between inside b first next z c is lz cc k d l =
    let of_tet = contains-unmap (map single) (layer_tets b z) c cc in
    let x = get_or (cells_in inside c) k d in
    let cx : Contains (cells_in inside (map single of_tet.0)) x = subst (λ e. Contains (cells_in inside e) x) (sym of_tet.2) (Contains-get_or (cells_in inside c) k d l) in
    ap (distance first next) (layer-is between inside b z of_tet.0 x is lz of_tet.1 cx)
