-- The tetrahedra of an extent, layer by layer.
use Rattle.std.proofs.Common.{◌≡◌, ℕ, ◌+◌, ◌-◌, ◌*◌, ◌<◌, ◌≤◌, false, List, [], ◌∷◌, ◌++◌, length, get_or, map, take, drop, refl, sym, ap, ap₂, subst, ◌∙◌, arith}
use Rattle.std.specs.List.{All, Contains, flat_map, range_with_len}
use Rattle.std.proofs.lemmas.List.{get_or_default}
use Rattle.std.proofs.lemmas.List.Elements.{All-contains}
use Rattle.std.proofs.lemmas.List.FromFn.{length-range_with_len, length-map-range_with_len}
use Rattle.viz_extent.specs.Extent.{Bounds, Has, size_x, plane_size}
use Rattle.viz_extent.specs.Numbering.{index_at}
use Rattle.viz_extent.proofs.NumberingLemmas.{parts-of_index}
use Rattle.viz_kuhn.specs.Corners.{Corner, corner, IsCorner}
use Rattle.viz_kuhn.specs.Kuhn.{Row, row, row_at, rows, OnlyCorners, SharesDiagonal}
use Rattle.viz_kuhn.specs.Places.{Place, place, place_of}
use Rattle.viz_kuhn.specs.Cubes.{cubes_x, cubes_y, cubes_z, leaf_of, leaves_of, lowest_in_row, lowest_in_layer, six_at}
use Rattle.viz_kuhn.proofs.PieceLemmas.{length-pieces}
use Rattle.viz_meaning.proofs.ListLemmas.{contains-map, contains-unmap, map-same, map-twice}
use Rattle.viz_piece_layers.specs.Layers.{layer_tets, tets_in, layer_size, plane_of, shifted, GoesByLayers, LayersAreEven, LayersAreRange, LeavesLieBetween, MeetNear, PlanesHaveLayers, TouchAbove, TouchBelow}
use Rattle.viz_extent.specs.Slabs.{planes}
use Rattle.viz_piece_layers.proofs.RangeLemmas.{from_flat_map, into_flat_map, in_range, into_range, flat-flat, map-flat, flat-same, flat-range_same, flat-range_from, length-range, three, middle}

-- ---- the list goes by layers

pub by_layers : GoesByLayers
by_layers b =
    flat-flat (six_at b) (lowest_in_layer b) (range_with_len b.z0 (cubes_z b))
    ∙ ap (λ k. flat_map (λ z. flat_map (six_at b) (lowest_in_layer b z)) (range_with_len k (cubes_z b))) {x = b.z0} {y = b.z0 + 0} (omega arith)
    ∙ flat-range_from (λ z. flat_map (six_at b) (lowest_in_layer b z)) b.z0 0 (cubes_z b)
    ∙ ap (λ n. flat_map (layer_tets b) (range_with_len 0 n)) {x = cubes_z b} {y = cubes_z b - 0} (omega arith)

length-layer : (b : Bounds) (k : ℕ) → length (lowest_in_layer b k) ≡ cubes_y b * cubes_x b
length-layer b k =
    length-pieces (λ j. lowest_in_row b j k) (cubes_x b) (λ j. length-map-range_with_len (λ i. place i j k) b.x0 (cubes_x b)) (range_with_len b.y0 (cubes_y b))
    ∙ ap (λ n. n * cubes_x b) (length-range_with_len b.y0 (cubes_y b))

pub layers_even : LayersAreEven
unfolding rows
layers_even b z =
    length-pieces (six_at b) 6 (λ lowest. refl) (lowest_in_layer b (b.z0 + z))
    ∙ ap (λ n. n * 6) (length-layer b (b.z0 + z)) ∙ turned (cubes_x b) (cubes_y b)
  where
    turned : (x y : ℕ) → y * x * 6 ≡ 6 * (x * y)
    turned x y = omega arith

pub layers_range : LayersAreRange
layers_range b low high l m =
    let below = flat_map (layer_tets b) (range_with_len 0 low) in
    let above = flat_map (layer_tets b) (range_with_len high (cubes_z b - high)) in
    sym (ap (λ t. take (layer_size b * (high - low)) (drop (layer_size b * low) t))
    (by_layers b ∙ ap (λ n. flat_map (layer_tets b) (range_with_len 0 n)) {x = cubes_z b - 0} {y = cubes_z b} (omega arith) ∙ three (layer_tets b) (cubes_z b) low high l m)
    ∙ middle below (tets_in b low high) above (layer_size b * low) (layer_size b * (high - low))
    (length-range (layer_tets b) (layer_size b) (layers_even b) 0 low)
    (length-range (layer_tets b) (layer_size b) (layers_even b) low (high - low)))

-- ---- cubes of a layer

record IsLowest (b : Bounds) (k : ℕ) (at : Place) : Type 0 where
  i : ℕ
  j : ℕ
  least_x : b.x0 ≤ i
  below_x : i < b.x0 + cubes_x b
  least_y : b.y0 ≤ j
  below_y : j < b.y0 + cubes_y b
  is : place i j k ≡ at

in-layer : (b : Bounds) (k : ℕ) (at : Place) → Contains (lowest_in_layer b k) at → IsLowest b k at
in-layer b k at c =
    let by_row = from_flat_map (λ j. lowest_in_row b j k) (range_with_len b.y0 (cubes_y b)) at c in
    let in_row = contains-unmap (λ i. place i by_row.0 k) (range_with_len b.x0 (cubes_x b)) at by_row.2 in
    let y = in_range b.y0 (cubes_y b) by_row.0 by_row.1 in
    let x = in_range b.x0 (cubes_x b) in_row.0 in_row.1 in
    record { i = in_row.0; j = by_row.0; least_x = x.0; below_x = x.1; least_y = y.0; below_y = y.1; is = in_row.2 }

six : (p : ℕ) → p < length rows → p < 6
unfolding rows
six p l = l

row-corners : OnlyCorners → (r : Row) → Contains rows r → All IsCorner r.corners
row-corners only r c = subst (λ (q : Row). All IsCorner q.corners) c.2 (at c.0 c.1 r)
  where
    at : (p : ℕ) → p < length rows → (d : Row) → All IsCorner (get_or rows p d).corners
    at p l d = subst (λ (q : Row). All IsCorner q.corners) (get_or_default rows p (row [] false []) d l) (only p (six p l))

-- the plane of a corner of a cube
corner-plane : (b : Bounds) (i j z : ℕ) (c : Corner) (leaf : ℕ) → b.x0 ≤ i → i < b.x0 + cubes_x b → b.y0 ≤ j → j < b.y0 + cubes_y b → z < cubes_z b
    → IsCorner c → leaf_of b (place_of (place i j (b.z0 + z)) c) ≡ leaf → plane_of b leaf ≡ z + c.z
corner-plane b i j z c leaf lx bx ly by lz is e =
    let cx = is.x in
    let cy = is.y in
    let cz = is.z in
    let has : Has b (i + c.x) (j + c.y) (b.z0 + z + c.z) = record {
      x = record { at_least = omega arith; at_most = omega arith };
      y = record { at_least = omega arith; at_most = omega arith };
      z = record { at_least = omega arith; at_most = omega arith };
    } in
    let parts = parts-of_index b (i + c.x) (j + c.y) (b.z0 + z + c.z) leaf has e in
    omega (arith, parts.2)

pub leaves_between : OnlyCorners → LeavesLieBetween
leaves_between only b z t leaf below ct cl =
    let cube = from_flat_map (six_at b) (lowest_in_layer b (b.z0 + z)) t ct in
    let low = in-layer b (b.z0 + z) cube.0 cube.1 in
    let of_row = contains-unmap (λ (r : Row). leaves_of b cube.0 r.corners) rows t cube.2 in
    let of_leaf = contains-unmap (λ (c : Corner). leaf_of b (place_of cube.0 c)) of_row.0.corners leaf (subst (λ ls. Contains ls leaf) (sym of_row.2) cl) in
    let c = of_leaf.0 in
    let is = All-contains IsCorner of_row.0.corners c (row-corners only of_row.0 of_row.1) of_leaf.1 in
    let e : leaf_of b (place_of (place low.i low.j (b.z0 + z)) c) ≡ leaf = ap (λ at. leaf_of b (place_of at c)) low.is ∙ of_leaf.2 in
    let plane = corner-plane b low.i low.j z c leaf low.least_x low.below_x low.least_y low.below_y below is e in
    let cz = is.z in
    (omega (arith, plane), omega (arith, plane, cz))

pub meet_near : OnlyCorners → MeetNear
meet_near only b y z s t leaf ly lz cs ct ls lt =
    let p = leaves_between only b y s leaf ly cs ls in
    let q = leaves_between only b z t leaf lz ct lt in
    record { above = omega (arith, p.0, q.1); below = omega (arith, q.0, p.1) }

-- ---- neighbours

-- a tetrahedron of a cube is one of its layer
of-layer : (b : Bounds) (k i j : ℕ) (r : Row) → b.x0 ≤ i → i < b.x0 + cubes_x b → b.y0 ≤ j → j < b.y0 + cubes_y b → Contains rows r
    → Contains (flat_map (six_at b) (lowest_in_layer b k)) (leaves_of b (place i j k) r.corners)
of-layer b k i j r lx bx ly by c =
    into_flat_map (six_at b) (lowest_in_layer b k) (place i j k) (leaves_of b (place i j k) r.corners)
    (into_flat_map (λ q. lowest_in_row b q k) (range_with_len b.y0 (cubes_y b)) j (place i j k) (into_range b.y0 (cubes_y b) j ly by)
    (contains-map (λ q. place q j k) (range_with_len b.x0 (cubes_x b)) i (into_range b.x0 (cubes_x b) i lx bx)))
    (contains-map (λ (q : Row). leaves_of b (place i j k) q.corners) rows r c)

has-ends : SharesDiagonal → (r : Row) → Contains rows r → Contains r.corners (corner 0 0 0) × Contains r.corners (corner 1 1 1)
has-ends ends r c = subst Ends ((get_or_default rows c.0 (row [] false []) r c.1) ∙ c.2) (ends c.0 (six c.0 c.1))
  where
    Ends : Row → Type 0
    Ends q = Contains q.corners (corner 0 0 0) × Contains q.corners (corner 1 1 1)

-- the cubes above and below have a tetrahedron at the shared corner
abbrev first_row : Row
first_row = row_at 0

abbrev fifth_row : Row
fifth_row = row_at 4

in-rows : Contains rows first_row × Contains rows fifth_row
unfolding rows
in-rows = ((0, omega arith, refl), (4, omega arith, refl))

in-first : Contains first_row.corners (corner 1 1 0)
unfolding rows
in-first = (2, omega arith, refl)

in-fifth : Contains fifth_row.corners (corner 0 0 1)
unfolding rows
in-fifth = (1, omega arith, refl)

-- the leaf at a corner of a tetrahedron
leaf-in : (b : Bounds) (at : Place) (t : List ℕ) (cs : List Corner) (c : Corner) (leaf : ℕ) → leaves_of b at cs ≡ t → Contains cs c → leaf_of b (place_of at c) ≡ leaf → Contains t leaf
leaf-in b at t cs c leaf e m is =
    subst (λ ls. Contains ls leaf) e (subst (Contains (leaves_of b at cs)) is (contains-map (λ (q : Corner). leaf_of b (place_of at q)) cs c m))

pub touch_above : SharesDiagonal → TouchAbove
touch_above ends b z t below ct =
    let cube = from_flat_map (six_at b) (lowest_in_layer b (b.z0 + z)) t ct in
    let low = in-layer b (b.z0 + z) cube.0 cube.1 in
    let of_row = contains-unmap (λ (r : Row). leaves_of b cube.0 r.corners) rows t cube.2 in
    let at = place low.i low.j (b.z0 + (z + 1)) in
    let leaf = leaf_of b (place_of at (corner 1 1 0)) in
    let same : leaf_of b (place_of (place low.i low.j (b.z0 + z)) (corner 1 1 1)) ≡ leaf = ap (index_at b (low.i + 1) (low.j + 1)) {x = b.z0 + z + 1} {y = b.z0 + (z + 1) + 0} (omega arith) in
    record {
      tet = leaves_of b at first_row.corners;
      leaf = leaf;
      there_is = of-layer b (b.z0 + (z + 1)) low.i low.j first_row low.least_x low.below_x low.least_y low.below_y in-rows.0;
      first = leaf-in b at (leaves_of b at first_row.corners) first_row.corners (corner 1 1 0) leaf refl in-first refl;
      second = leaf-in b cube.0 t of_row.0.corners (corner 1 1 1) leaf of_row.2 (has-ends ends of_row.0 of_row.1).1 (ap (λ p. leaf_of b (place_of p (corner 1 1 1))) (sym low.is) ∙ same);
    }

pub touch_below : SharesDiagonal → TouchBelow
touch_below ends b z t below ct =
    let cube = from_flat_map (six_at b) (lowest_in_layer b (b.z0 + (z + 1))) t ct in
    let low = in-layer b (b.z0 + (z + 1)) cube.0 cube.1 in
    let of_row = contains-unmap (λ (r : Row). leaves_of b cube.0 r.corners) rows t cube.2 in
    let at = place low.i low.j (b.z0 + z) in
    let leaf = leaf_of b (place_of at (corner 0 0 1)) in
    let same : leaf_of b (place_of (place low.i low.j (b.z0 + (z + 1))) (corner 0 0 0)) ≡ leaf = ap (index_at b (low.i + 0) (low.j + 0)) {x = b.z0 + (z + 1) + 0} {y = b.z0 + z + 1} (omega arith) in
    record {
      tet = leaves_of b at fifth_row.corners;
      leaf = leaf;
      there_is = of-layer b (b.z0 + z) low.i low.j fifth_row low.least_x low.below_x low.least_y low.below_y in-rows.1;
      first = leaf-in b at (leaves_of b at fifth_row.corners) fifth_row.corners (corner 0 0 1) leaf refl in-fifth refl;
      second = leaf-in b cube.0 t of_row.0.corners (corner 0 0 0) leaf of_row.2 (has-ends ends of_row.0 of_row.1).0 (ap (λ p. leaf_of b (place_of p (corner 0 0 0))) (sym low.is) ∙ same);
    }

-- ---- the planes of some layers

leaf-shifts : (b : Bounds) (low high i j z x y k : ℕ)
    → index_at (planes low high b) (i + x) (j + y) (b.z0 + low + z + k) + low * plane_size b ≡ index_at b (i + x) (j + y) (b.z0 + (low + z) + k)
leaf-shifts b low high i j z x y k =
    let part : b.z0 + low + z + k - (b.z0 + low) ≡ z + k = omega arith in
    let whole : b.z0 + (low + z) + k - b.z0 ≡ low + (z + k) = omega arith in
    let a = i + x - b.x0 in
    let c = j + y - b.y0 in
    ap (λ n. a + c * size_x b + n * plane_size b + low * plane_size b) part
    ∙ sums a (c * size_x b) (z + k) low (plane_size b)
    ∙ ap (λ n. a + c * size_x b + n * plane_size b) (sym whole)
  where
    sums : (a c n low p : ℕ) → a + c + n * p + low * p ≡ a + c + (low + n) * p
    sums a c n low p = omega arith

six-shift : (b : Bounds) (low high i j z : ℕ)
    → map (map (λ leaf. leaf + low * plane_size b)) (six_at (planes low high b) (place i j (b.z0 + low + z))) ≡ six_at b (place i j (b.z0 + (low + z)))
six-shift b low high i j z =
    let part = planes low high b in
    let by = low * plane_size b in
    map-twice (map (λ leaf. leaf + by)) (λ (r : Row). leaves_of part (place i j (b.z0 + low + z)) r.corners) rows
    ∙ map-same (λ (r : Row). map (λ leaf. leaf + by) (leaves_of part (place i j (b.z0 + low + z)) r.corners)) (λ (r : Row). leaves_of b (place i j (b.z0 + (low + z))) r.corners) rows
    (λ p d l. one (get_or rows p d).corners)
  where
    one : (cs : List Corner) → map (λ leaf. leaf + low * plane_size b) (leaves_of (planes low high b) (place i j (b.z0 + low + z)) cs) ≡ leaves_of b (place i j (b.z0 + (low + z))) cs
    one [] = refl
    one (c ∷ cs) = ap₂ (λ x xs. x ∷ xs) (leaf-shifts b low high i j z c.x c.y c.z) (one cs)

layer-shift : (b : Bounds) (low high z : ℕ) → shifted (low * plane_size b) (layer_tets (planes low high b) z) ≡ layer_tets b (low + z)
layer-shift b low high z =
    let part = planes low high b in
    let by = low * plane_size b in
    let xs = range_with_len b.x0 (cubes_x b) in
    let ys = range_with_len b.y0 (cubes_y b) in
    ap (map (map (λ leaf. leaf + by))) (cubes part (b.z0 + low + z) xs ys)
    ∙ map-flat (map (λ leaf. leaf + by)) (λ j. flat_map (λ i. six_at part (place i j (b.z0 + low + z))) xs) ys
    ∙ flat-same (λ j. map (map (λ leaf. leaf + by)) (flat_map (λ i. six_at part (place i j (b.z0 + low + z))) xs)) (λ j. flat_map (λ i. six_at b (place i j (b.z0 + (low + z)))) xs) ys
    (λ j _. map-flat (map (λ leaf. leaf + by)) (λ i. six_at part (place i j (b.z0 + low + z))) xs
    ∙ flat-same (λ i. map (map (λ leaf. leaf + by)) (six_at part (place i j (b.z0 + low + z)))) (λ i. six_at b (place i j (b.z0 + (low + z)))) xs (λ i _. six-shift b low high i j z))
    ∙ sym (cubes b (b.z0 + (low + z)) xs ys)
  where
    row_of : (e : Bounds) (j k : ℕ) (xs : List ℕ) → flat_map (six_at e) (map (λ i. place i j k) xs) ≡ flat_map (λ i. six_at e (place i j k)) xs
    row_of e j k [] = refl
    row_of e j k (x ∷ xs) = ap (λ t. six_at e (place x j k) ++ t) (row_of e j k xs)

    cubes : (e : Bounds) (k : ℕ) (xs ys : List ℕ) → flat_map (six_at e) (flat_map (λ j. map (λ i. place i j k) xs) ys) ≡ flat_map (λ j. flat_map (λ i. six_at e (place i j k)) xs) ys
    cubes e k xs ys =
        flat-flat (six_at e) (λ j. map (λ i. place i j k) xs) ys
        ∙ flat-same (λ j. flat_map (six_at e) (map (λ i. place i j k) xs)) (λ j. flat_map (λ i. six_at e (place i j k)) xs) ys (λ j _. row_of e j k xs)

pub planes_have : PlanesHaveLayers
planes_have b low high l m =
    let part = planes low high b in
    let by = low * plane_size b in
    ap (shifted by) (by_layers part)
    ∙ map-flat (map (λ leaf. leaf + by)) (layer_tets part) (range_with_len 0 (cubes_z part - 0))
    ∙ flat-range_same (λ z. shifted by (layer_tets part z)) (λ z. layer_tets b (low + z)) 0 (cubes_z part - 0) (λ z _ _. layer-shift b low high z)
    ∙ sym (flat-range_from (layer_tets b) low 0 (cubes_z part - 0))
    ∙ ap (λ a. flat_map (layer_tets b) (range_with_len a (cubes_z part - 0))) {x = low + 0} {y = low} (omega arith)
    ∙ ap (λ n. flat_map (layer_tets b) (range_with_len low n)) {x = cubes_z part - 0} {y = high - low} (omega arith)
