-- Leaves on the boundary of a grid: some of them are too, and those of a tetrahedron never are.
use Rattle.std.proofs.Common.{◌≡◌, ℕ, ◌+◌, ◌<◌, ◌==◌, Bool, true, false, ◌&&◌, ◌||◌, true≢false, List, [], ◌∷◌, get_or, refl, sym, arith}
use Rattle.std.specs.List.{All, Contains, list_all}
use Rattle.std.proofs.lemmas.Bool.Decides.{nat_tests}
use Rattle.std.proofs.lemmas.List.Elements.{All-nil, All-cons, All-contains, All-head, All-map, All-tail}
use Rattle.std.proofs.lemmas.List.Sums.{AllPass-from_list_all}
use Rattle.viz_extent.specs.Extent.{Bounds}
use Rattle.viz_kuhn.specs.Corners.{Corner, corner}
use Rattle.viz_kuhn.specs.Kuhn.{Row, rows}
use Rattle.viz_kuhn.specs.Places.{Place, place_of}
use Rattle.viz_kuhn.specs.Cubes.{all_lowest, leaf_of, leaves_of, six_at, tetrahedra_of}
use Rattle.viz_kuhn.proofs.RowLemmas.{below_six}
use Rattle.viz_meaning.proofs.ListLemmas.{contains-map}
use Rattle.viz_grid_section.proofs.TetrahedraLemmas.{All-flat_map}
use Rattle.viz_surface_law.specs.Facets.{all_at, is_on_boundary, lies_at_end, x_of, y_of, z_of}
use Rattle.viz_surface_law.proofs.Sharing.GridFacets.{Bits, In, leaf_at, low_corner, lowest_in, place_again}

-- ---- truth values

pub both : (p q : Bool) → p ≡ true → q ≡ true → (p && q) ≡ true
both true true a b = refl
both true false a b = absurd (true≢false (sym b))
both false q a b = absurd (true≢false (sym a))

either : (p q r s : Bool) → (p ≡ true → r ≡ true) → (q ≡ true → s ≡ true) → (p || q) ≡ true → (r || s) ≡ true
either true q true s first second e = refl
either true q false s first second e = absurd (true≢false (sym (first refl)))
either false true true s first second e = refl
either false true false s first second e = second refl
either false false r s first second e = absurd (true≢false (sym e))

neither : {A : Type 0} (p q : Bool) → (p ≡ true → A) → (q ≡ true → A) → (p || q) ≡ true → A
neither true q first second e = first refl
neither false true first second e = second refl
neither false false first second e = absurd (true≢false (sym e))

-- ---- some of the leaves

each-passes : (P : ℕ → Bool) (xs ys : List ℕ) → All (Contains xs) ys → list_all P xs ≡ true → list_all P ys ≡ true
each-passes P xs [] among e = refl
each-passes P xs (y ∷ ys) among e =
    both (P y) (list_all P ys) (All-contains (λ x. P x ≡ true) xs y (AllPass-from_list_all P xs e) (All-head (Contains xs) y ys among))
    (each-passes P xs ys (All-tail (Contains xs) y ys among) e)

end-passes : (coordinate : ℕ → ℕ) (lo hi : ℕ) (xs ys : List ℕ) → All (Contains xs) ys → lies_at_end coordinate lo hi xs ≡ true → lies_at_end coordinate lo hi ys ≡ true
end-passes coordinate lo hi xs ys among =
    either (all_at coordinate lo xs) (all_at coordinate hi xs) (all_at coordinate lo ys) (all_at coordinate hi ys)
    (each-passes (λ leaf. coordinate leaf == lo) xs ys among) (each-passes (λ leaf. coordinate leaf == hi) xs ys among)

-- leaves among others that lie on the boundary lie on it
pub boundary-passes : (b : Bounds) (xs ys : List ℕ) → All (Contains xs) ys → is_on_boundary b xs ≡ true → is_on_boundary b ys ≡ true
boundary-passes b xs ys among =
    either (lies_at_end (x_of b) b.x0 b.x1 xs) (lies_at_end (y_of b) b.y0 b.y1 xs || lies_at_end (z_of b) b.z0 b.z1 xs)
    (lies_at_end (x_of b) b.x0 b.x1 ys) (lies_at_end (y_of b) b.y0 b.y1 ys || lies_at_end (z_of b) b.z0 b.z1 ys)
    (end-passes (x_of b) b.x0 b.x1 xs ys among)
    (either (lies_at_end (y_of b) b.y0 b.y1 xs) (lies_at_end (z_of b) b.z0 b.z1 xs) (lies_at_end (y_of b) b.y0 b.y1 ys) (lies_at_end (z_of b) b.z0 b.z1 ys)
    (end-passes (y_of b) b.y0 b.y1 xs ys among) (end-passes (z_of b) b.z0 b.z1 xs ys among))

-- ---- tetrahedra

ends-differ : (lo hi p q : ℕ) → q ≡ p + 1 → (((p == lo) && ((q == lo) && true)) || ((p == hi) && ((q == hi) && true))) ≡ true → ⊥
ends-differ lo hi p q next e = grind (arith, nat_tests, e)

apart : (coordinate : ℕ → ℕ) (lo hi a c p : ℕ) → coordinate a ≡ p + 0 → coordinate c ≡ p + 1 → lies_at_end coordinate lo hi (a ∷ c ∷ []) ≡ true → ⊥
apart coordinate lo hi a c p ea ec e = ends-differ lo hi (coordinate a) (coordinate c) (omega (arith, ea, ec)) e

abbrev high_corner : Corner
high_corner = corner 1 1 1

low-bits : Bits low_corner
low-bits = record { x = omega arith; y = omega arith; z = omega arith }

high-bits : Bits high_corner
high-bits = record { x = omega arith; y = omega arith; z = omega arith }

-- the lowest corner of a cube and the highest don't lie at one end
diagonal-apart : (b : Bounds) (x : Place) → In b x → is_on_boundary b (leaf_at b x low_corner ∷ leaf_at b x high_corner ∷ []) ≡ true → ⊥
diagonal-apart b x inn =
    let low = leaf_at b x low_corner in
    let high = leaf_at b x high_corner in
    let l = place_again b x low_corner inn low-bits in
    let h = place_again b x high_corner inn high-bits in
    neither (lies_at_end (x_of b) b.x0 b.x1 (low ∷ high ∷ [])) (lies_at_end (y_of b) b.y0 b.y1 (low ∷ high ∷ []) || lies_at_end (z_of b) b.z0 b.z1 (low ∷ high ∷ []))
    (apart (x_of b) b.x0 b.x1 low high x.i l.0 h.0)
    (neither (lies_at_end (y_of b) b.y0 b.y1 (low ∷ high ∷ [])) (lies_at_end (z_of b) b.z0 b.z1 (low ∷ high ∷ []))
    (apart (y_of b) b.y0 b.y1 low high x.j l.1 h.1)
    (apart (z_of b) b.z0 b.z1 low high x.k l.2 h.2))

-- each row has the lowest corner and the highest
abbrev HasDiagonal : Row → Type 0
HasDiagonal r = Contains r.corners low_corner × Contains r.corners high_corner

diagonals : All HasDiagonal rows
unfolding rows
diagonals k d within =
    let low : 0 < 4 = omega arith in
    let high : 3 < 4 = omega arith in
    below_six (λ p. HasDiagonal (get_or rows p d))
    ((0, low, refl), (3, high, refl))
    ((0, low, refl), (3, high, refl))
    ((0, low, refl), (3, high, refl))
    ((0, low, refl), (3, high, refl))
    ((0, low, refl), (3, high, refl))
    ((0, low, refl), (3, high, refl))
    k within

-- the leaves of a tetrahedron don't all lie on the boundary
pub tetrahedra-inner : (b : Bounds) → All (λ tet. is_on_boundary b tet ≡ true → ⊥) (tetrahedra_of b)
tetrahedra-inner b =
    let P : List ℕ → Type 0 = λ tet. is_on_boundary b tet ≡ true → ⊥ in
    All-flat_map P (six_at b) (all_lowest b) (λ k d less.
    let x = get_or (all_lowest b) k d in
    All-map P (λ (r : Row). leaves_of b x r.corners) rows (λ m e within.
    let corners = (get_or rows m e).corners in
    let has = diagonals m e within in
    let leaf : Corner → ℕ = λ c. leaf_of b (place_of x c) in
    let leaves = leaves_of b x corners in
    let two : All (Contains leaves) (leaf low_corner ∷ leaf high_corner ∷ []) =
    All-cons (Contains leaves) (leaf low_corner) (leaf high_corner ∷ []) (contains-map leaf corners low_corner has.0)
    (All-cons (Contains leaves) (leaf high_corner) [] (contains-map leaf corners high_corner has.1) (All-nil (Contains leaves))) in
    λ on. diagonal-apart b x (lowest_in b k d less) (boundary-passes b leaves (leaf low_corner ∷ leaf high_corner ∷ []) two on)))
