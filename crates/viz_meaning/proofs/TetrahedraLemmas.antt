-- The tetrahedra of an image are a sheet: each has four different leaves, which are points of the image.
use Rattle.std.proofs.Common.{◌≡◌, ◌≢◌, ℕ, ◌+◌, ◌<◌, ⊎_elim, false, [], length, get_or, map, refl, sym, ap, subst, ◌∙◌, arith}
use Rattle.std.specs.List.{All}
use Rattle.std.proofs.lemmas.List.{get_or_default, length-map}
use Rattle.std.proofs.lemmas.List.Elements.{All-map}
use Rattle.viz_extent.specs.Extent.{Bounds, count_of, Has}
use Rattle.viz_extent.proofs.NumberingLemmas.{index_at_below, parts-of_index}
use Rattle.viz_kuhn.specs.Corners.{Corner, IsCorner, IsEdge, IsStepUp}
use Rattle.viz_kuhn.specs.Kuhn.{Row, corners_of, row, rows, EdgesAreSteps, OnlyCorners}
use Rattle.viz_kuhn.specs.Places.{Place, place, place_of}
use Rattle.viz_kuhn.specs.Cubes.{HasCube, all_lowest, cubes_of, lowest_of, leaf_of, leaves_of, six_at, tetrahedra_of}
use Rattle.viz_kuhn.proofs.CubeLemmas.{length-all_lowest, numbers_each}
use Rattle.viz_kuhn.proofs.RowLemmas.{below_six}
use Rattle.viz_sheet.specs.Ranked.{IsCell}
use Rattle.viz_meaning.proofs.ListLemmas.{apart-map}
use Rattle.viz_meaning.proofs.SectionLemmas.{all-cells}

-- a corner of a cube is a point of the grid
has-corner : (b : Bounds) (at : Place) (c : Corner) → HasCube b at.i at.j at.k → IsCorner c → Has b (at.i + c.x) (at.j + c.y) (at.k + c.z)
has-corner b at c has is =
    let x = is.x in
    let y = is.y in
    let z = is.z in
    record {
      x = record { at_least = omega arith; at_most = omega arith };
      y = record { at_least = omega arith; at_most = omega arith };
      z = record { at_least = omega arith; at_most = omega arith };
    }

-- corners of one leaf are one corner
record AreOne (c e : Corner) : Type 0 where
  x : c.x ≡ e.x
  y : c.y ≡ e.y
  z : c.z ≡ e.z

one-leaf : (b : Bounds) (at : Place) (c e : Corner) → HasCube b at.i at.j at.k → IsCorner c → IsCorner e → leaf_of b (place_of at c) ≡ leaf_of b (place_of at e) → AreOne c e
one-leaf b at c e has isc ise same =
    let p = parts-of_index b (at.i + c.x) (at.j + c.y) (at.k + c.z) (leaf_of b (place_of at e)) (has-corner b at c has isc) same in
    let q = parts-of_index b (at.i + e.x) (at.j + e.y) (at.k + e.z) (leaf_of b (place_of at e)) (has-corner b at e has ise) refl in
    record {
      x = omega (arith, sym p.0 ∙ q.0, has.x.at_least);
      y = omega (arith, sym p.1 ∙ q.1, has.y.at_least);
      z = omega (arith, sym p.2 ∙ q.2, has.z.at_least);
    }

-- the ends of a step are two corners
not-one : (c e : Corner) → IsStepUp c e → AreOne c e → ⊥
not-one c e up one =
    let v = up.0 in
    let moves = up.1.moves in
    let x : e.x ≡ c.x + v.x = ap (λ k. k.x) up.2 in
    let y : e.y ≡ c.y + v.y = ap (λ k. k.y) up.2 in
    let z : e.z ≡ c.z + v.z = ap (λ k. k.z) up.2 in
    omega (arith, moves, one.x, one.y, one.z, x, y, z)

leaves-differ : (b : Bounds) (at : Place) (c e : Corner) → HasCube b at.i at.j at.k → IsCorner c → IsCorner e → IsEdge c e → leaf_of b (place_of at c) ≢ leaf_of b (place_of at e)
leaves-differ b at c e has isc ise edge same =
    let one = one-leaf b at c e has isc ise same in
    ⊎_elim (λ up. not-one c e up one) (λ down. not-one e c down (record { x = sym one.x; y = sym one.y; z = sym one.z })) edge

four-corners : (p : ℕ) → p < 6 → length (corners_of p) ≡ 4
unfolding rows
four-corners p below = below_six (λ q. length (corners_of q) ≡ 4) refl refl refl refl refl refl p below

-- a tetrahedron is a cell
tet-cell : OnlyCorners → EdgesAreSteps → (b : Bounds) (at : Place) (p : ℕ) → p < 6 → HasCube b at.i at.j at.k → IsCell (count_of b) (leaves_of b at (corners_of p))
tet-cell only edges b at p below has =
    let corners = corners_of p in
    let leaf = λ (c : Corner). leaf_of b (place_of at c) in
    let count : length (map leaf corners) ≡ 4 = length-map corners leaf ∙ four-corners p below in
    record {
      some = omega (arith, count);
      most = omega (arith, count);
      below = All-map (λ l. l < count_of b) leaf corners (λ k d l. let c = get_or corners k d in index_at_below b (at.i + c.x) (at.j + c.y) (at.k + c.z) (has-corner b at c has (only p below k d l)));
      apart = apart-map leaf corners (λ i j d r l. leaves-differ b at (get_or corners i d) (get_or corners j d) has (only p below i d (omega (arith, r, l))) (only p below j d l) (edges p below i j d r l));
    }

six : (p : ℕ) → p < length rows → p < 6
unfolding rows
six p l = l

pub tetrahedra-cells : OnlyCorners → EdgesAreSteps → (b : Bounds) → All (IsCell (count_of b)) (tetrahedra_of b)
tetrahedra-cells only edges b =
    all-cells (IsCell (count_of b)) (six_at b) (all_lowest b) (λ k d less.
    let at = get_or (all_lowest b) k d in
    let cube : k < cubes_of b = subst (λ n. k < n) (length-all_lowest b) less in
    let same : at ≡ lowest_of b k = get_or_default (all_lowest b) k d (place b.x1 b.y1 b.z1) less in
    let P : Place → Type 0 = λ (p : Place). HasCube b p.i p.j p.k in
    let has : HasCube b at.i at.j at.k = subst P (sym same) (numbers_each b k cube).0 in
    All-map (IsCell (count_of b)) (λ (r : Row). leaves_of b at r.corners) rows (λ p e within.
    subst (λ (r : Row). IsCell (count_of b) (leaves_of b at r.corners)) (get_or_default rows p (row [] false []) e within)
    (tet-cell only edges b at p (six p within) has)))
