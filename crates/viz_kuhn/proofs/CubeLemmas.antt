-- The list of cubes by numbers, and of their tetrahedra.
use Rattle.std.proofs.Common.{◌≡◌, ℕ, zero, suc, ◌+◌, ◌-◌, ◌*◌, ◌/◌, ◌%◌, ◌<◌, [], length, false, get_or, refl, ap, ◌∙◌, sym, arith}
use Rattle.std.proofs.lemmas.Nat.{mul-add-lt}
use Rattle.std.proofs.lemmas.List.{get_or-map}
use Rattle.std.proofs.lemmas.List.FromFn.{length-range_with_len, get_or-range_with_len, length-map-range_with_len, get_or-map-range_with_len}
use Rattle.std.specs.List.{range_with_len}
use Rattle.viz_extent.specs.Extent.{Bounds}
use Rattle.viz_kuhn.specs.Kuhn.{Row, row, rows}
use Rattle.viz_kuhn.specs.Places.{Place, place}
use Rattle.viz_kuhn.specs.Cubes.{cubes_x, cubes_y, cubes_z, cubes_of, cube_at, HasCube, lowest_in_row, lowest_in_layer, all_lowest, lowest_of, leaves_of, six_at, tetrahedra_of, tet_at}
use Rattle.viz_extent.proofs.NumberingLemmas.{number-of_parts, plane_below}
use Rattle.viz_kuhn.proofs.PieceLemmas.{length-pieces, get_or-pieces}

-- a row has its cubes
length-row : (b : Bounds) (j k : ℕ) → length (lowest_in_row b j k) ≡ cubes_x b
length-row b j k = length-map-range_with_len (λ i. place i j k) b.x0 (cubes_x b)

-- a layer has its rows
length-layer : (b : Bounds) (k : ℕ) → length (lowest_in_layer b k) ≡ cubes_y b * cubes_x b
length-layer b k =
    length-pieces (λ j. lowest_in_row b j k) (cubes_x b) (λ j. length-row b j k) (range_with_len b.y0 (cubes_y b))
    ∙ ap (λ n. n * cubes_x b) (length-range_with_len b.y0 (cubes_y b))

-- the list has each cube
pub length-all_lowest : (b : Bounds) → length (all_lowest b) ≡ cubes_of b
length-all_lowest b =
    let pieces = length-pieces (lowest_in_layer b) (cubes_y b * cubes_x b) (length-layer b) (range_with_len b.z0 (cubes_z b)) in
    let layers = length-range_with_len b.z0 (cubes_z b) in
    grind (arith, pieces, layers)

-- the cube in place r of row q of layer p
pub get_or-all_lowest : (b : Bounds) (p q r : ℕ) (d : Place) → p < cubes_z b → q < cubes_y b → r < cubes_x b
    → get_or (all_lowest b) (p * (cubes_y b * cubes_x b) + (q * cubes_x b + r)) d ≡ place (b.x0 + r) (b.y0 + q) (b.z0 + p)
get_or-all_lowest b p q r d above across along =
    let k = get_or (range_with_len b.z0 (cubes_z b)) p 0 in
    let j = get_or (range_with_len b.y0 (cubes_y b)) q 0 in
    let layer = get_or-pieces (lowest_in_layer b) (cubes_y b * cubes_x b) (length-layer b)
    (range_with_len b.z0 (cubes_z b)) p (q * cubes_x b + r) 0 d
    (rw length-range_with_len above) (omega (arith, mul-add-lt q (cubes_x b) r (cubes_y b) across along)) in
    let in_row = get_or-pieces (λ j. lowest_in_row b j k) (cubes_x b) (λ j. length-row b j k)
    (range_with_len b.y0 (cubes_y b)) q r 0 d (rw length-range_with_len across) along in
    let in_place = get_or-map-range_with_len (λ i. place i j k) b.x0 (cubes_x b) r (b.x0 + r) d along refl in
    let at_k = get_or-range_with_len b.z0 (cubes_z b) p 0 above in
    let at_j = get_or-range_with_len b.y0 (cubes_y b) q 0 across in
    layer ∙ in_row ∙ in_place ∙ ap (λ j. place (b.x0 + r) j k) at_j ∙ ap (λ k. place (b.x0 + r) (b.y0 + q) k) at_k

-- the list has six tetrahedra for each cube
pub length-tetrahedra_of : (b : Bounds) → length (tetrahedra_of b) ≡ 6 * cubes_of b
unfolding rows
length-tetrahedra_of b =
    omega (arith, length-pieces (six_at b) 6 (λ lowest. refl) (all_lowest b), length-all_lowest b)

-- a cube's tetrahedra stand in the list by its number
pub get_or-tetrahedra_of : (b : Bounds) (cube p : ℕ) → cube < cubes_of b → p < 6
    → get_or (tetrahedra_of b) (6 * cube + p) [] ≡ tet_at b cube p
unfolding rows
get_or-tetrahedra_of b cube p within below =
    let item : 6 * cube + p ≡ cube * 6 + p = omega arith in
    rw item (
    get_or-pieces (six_at b) 6 (λ lowest. refl) (all_lowest b) cube p (place b.x1 b.y1 b.z1) [] (rw length-all_lowest within) below
    ∙ get_or-map (λ (r : Row). leaves_of b (lowest_of b cube) r.corners) rows p (row [] false []) [] below
    )

-- counted by strides, a place has the number that it has counted by layers
by_layers : (r q p l m : ℕ) → r + q * l + p * (l * m) ≡ p * (m * l) + (q * l + r)
by_layers r q p l m = omega arith

-- and likewise counted by rows
by_rows : (r q p l m : ℕ) → (p * m + q) * l + r ≡ p * (m * l) + (q * l + r)
by_rows r q p l m = omega arith

-- where there is a place, there is one along each axis
positive : (n l m k : ℕ) → n < l * m * k → (0 < l) × (0 < m)
positive n zero m k below = absurd (omega arith)
positive n (suc l) zero k below = absurd (omega arith)
positive n (suc l) (suc m) k below = (omega arith, omega arith)

-- a cube's number is below the count, and its place in the list
pub cube_at-in_list : (b : Bounds) (i j k : ℕ) → HasCube b i j k
    → (cube_at b i j k < cubes_of b) × (lowest_of b (cube_at b i j k) ≡ place i j k)
cube_at-in_list b i j k has =
    let r = i - b.x0 in
    let q = j - b.y0 in
    let p = k - b.z0 in
    let along : r < cubes_x b = omega arith in
    let across : q < cubes_y b = omega arith in
    let above : p < cubes_z b = omega arith in
    let in_layer = mul-add-lt q (cubes_x b) r (cubes_y b) across along in
    let below = mul-add-lt p (cubes_y b * cubes_x b) (q * cubes_x b + r) (cubes_z b) above (omega (arith, in_layer)) in
    let strides = by_layers r q p (cubes_x b) (cubes_y b) in
    let item = get_or-all_lowest b p q r (place b.x1 b.y1 b.z1) above across along in
    let x : b.x0 + r ≡ i = omega arith in
    let y : b.y0 + q ≡ j = omega arith in
    let z : b.z0 + p ≡ k = omega arith in
    (omega (arith, below, strides), rw strides (item ∙ cc))

-- a cube's number again from its quotients and remainders
cube_at-quotients : (b : Bounds) (cube : ℕ) → cube < cubes_of b
    → (i j k : ℕ) → i ≡ b.x0 + cube % cubes_x b → j ≡ b.y0 + cube / cubes_x b % cubes_y b → k ≡ b.z0 + cube / cubes_x b / cubes_y b
    → HasCube b i j k × (cube_at b i j k ≡ cube)
cube_at-quotients b cube within i j k x y z =
    let sizes = positive cube (cubes_x b) (cubes_y b) (cubes_z b) within in
    let l = cubes_x b in
    let m = cubes_y b in
    let r = cube % l in
    let q = cube / l % m in
    let p = cube / l / m in
    let along : r < l = omega (arith, sizes.0) in
    let across : q < m = omega (arith, sizes.1) in
    let above : p < cubes_z b = plane_below cube l m (cubes_z b) within in
    let at_x : i - b.x0 ≡ r = omega arith in
    let at_y : j - b.y0 ≡ q = omega arith in
    let at_z : k - b.z0 ≡ p = omega arith in
    let number : r + q * l + p * (l * m) ≡ cube =
    by_layers r q p l m ∙ sym (by_rows r q p l m) ∙ number-of_parts cube l m in (
      record {
        x = record { at_least = omega arith; below = omega arith };
        y = record { at_least = omega arith; below = omega arith };
        z = record { at_least = omega arith; below = omega arith };
      },
      rw at_x (rw at_y (rw at_z number)),
    )

-- a cube's lowest corner by quotients and remainders of its number
pub lowest_of-quotients : (b : Bounds) (cube : ℕ) → cube < cubes_of b
    → lowest_of b cube ≡ place (b.x0 + cube % cubes_x b) (b.y0 + cube / cubes_x b % cubes_y b) (b.z0 + cube / cubes_x b / cubes_y b)
lowest_of-quotients b cube within =
    let sizes = positive cube (cubes_x b) (cubes_y b) (cubes_z b) within in
    let r = cube % cubes_x b in
    let q = cube / cubes_x b % cubes_y b in
    let p = cube / cubes_x b / cubes_y b in
    let along : r < cubes_x b = omega (arith, sizes.0) in
    let across : q < cubes_y b = omega (arith, sizes.1) in
    let above = plane_below cube (cubes_x b) (cubes_y b) (cubes_z b) within in
    let number : p * (cubes_y b * cubes_x b) + (q * cubes_x b + r) ≡ cube =
    sym (by_rows r q p (cubes_x b) (cubes_y b)) ∙ number-of_parts cube (cubes_x b) (cubes_y b) in
    rw number at (get_or-all_lowest b p q r (place b.x1 b.y1 b.z1) above across along)

-- a cube's number is that of its lowest corner
pub numbers_each : (b : Bounds) (cube : ℕ) → cube < cubes_of b
    → let lowest = lowest_of b cube in HasCube b lowest.i lowest.j lowest.k × (cube_at b lowest.i lowest.j lowest.k ≡ cube)
numbers_each b cube within =
    let is = lowest_of-quotients b cube within in
    cube_at-quotients b cube within _ _ _ (ap (λ (at : Place). at.i) is) (ap (λ (at : Place). at.j) is) (ap (λ (at : Place). at.k) is)
