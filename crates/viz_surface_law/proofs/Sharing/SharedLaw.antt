-- In how many tetrahedra a facet lies.
use Rattle.std.proofs.Common.{◌≡◌, ℕ, ◌+◌, ◌<◌, ◌==◌, Bool, true, false, not, cond, ◌&&◌, ◌||◌, true≢false, inl, inr, List, [], ◌∷◌, length, get_or, refl, sym, ap, ◌∙◌, eqb-true, arith}
use Rattle.std.specs.Prelude.{◌⊎◌, ◌↔◌, IsTrue, sum_by}
use Rattle.std.proofs.lemmas.Bool.{and_parts}
use Rattle.std.proofs.lemmas.Bool.Decides.{nat_tests}
use Rattle.std.proofs.lemmas.List.Sums.{AllPass-from_list_all}
use Rattle.viz_extent.specs.Extent.{Bounds}
use Rattle.viz_kuhn.specs.Corners.{Corner, corner}
use Rattle.viz_kuhn.specs.Kuhn.{Row, rows}
use Rattle.viz_kuhn.specs.Places.{Place, place, place_of}
use Rattle.viz_kuhn.specs.Cubes.{all_lowest, leaves_of, six_at}
use Rattle.viz_surface_law.specs.Facets.{x_of, y_of, z_of, has_facet, sharing, lies_at_end, is_on_boundary}
use Rattle.viz_surface_law.proofs.Sharing.ListCounts.{sum_by-flat_map, sum_by-map, sum_by-same, sum_by-plus, by_test, positive}
use Rattle.viz_surface_law.proofs.Sharing.CubeSums.{same_place, has_at, cubes_at}
use Rattle.viz_surface_law.proofs.Sharing.FacetTable.{Facet, facet, flipped, facets_of, all_facets, is_chain, same_flag, same_shape, other, facets_once, at_end, is_axis, axis_law, is_apart, all_apart, Each, Each_at}
use Rattle.viz_surface_law.proofs.Sharing.LeafFacets.{Leaves, leaves, same_leaves}
use Rattle.viz_surface_law.proofs.Sharing.GridFacets.{Chain, chains, chain_tells, In, leaf_at, facet_at, ascends, same_facets, lowest_in, StandsAt, low_corner, place_again, itself, chain_flipped, three}

-- whether a facet has these leaves, whichever way it is run through
abbrev has_leaves : ℕ → ℕ → ℕ → Leaves → Bool
has_leaves p q r f = (f.a == p) && ((f.b == q) && (f.c == r))

-- three leaves of a tetrahedron are those of one of its facets
in_even : (A B C D a b c : ℕ) → A < B → B < C → C < D → a < b → b < c
    → cond {A = ℕ} (has_facet (a ∷ b ∷ c ∷ []) (A ∷ B ∷ C ∷ D ∷ [])) 1 0
    ≡ cond ((A == a) && ((B == b) && (C == c))) 1 0
    + cond ((A == a) && ((B == b) && (D == c))) 1 0
    + cond ((A == a) && ((C == b) && (D == c))) 1 0
    + cond ((B == a) && ((C == b) && (D == c))) 1 0
in_even A B C D a b c AB BC CD ab bc = grind (arith, nat_tests)

in_odd : (A B C D a b c : ℕ) → A < B → B < C → C < D → a < b → b < c
    → cond {A = ℕ} (has_facet (a ∷ b ∷ c ∷ []) (A ∷ C ∷ B ∷ D ∷ [])) 1 0
    ≡ cond ((A == a) && ((B == b) && (C == c))) 1 0
    + cond ((A == a) && ((B == b) && (D == c))) 1 0
    + cond ((A == a) && ((C == b) && (D == c))) 1 0
    + cond ((B == a) && ((C == b) && (D == c))) 1 0
in_odd A B C D a b c AB BC CD ab bc = grind (arith, nat_tests)

-- a tetrahedron's corners, whatever their order in the list
abbrev FourLaw : (Corner → Corner → Corner → Corner → List Corner) → Type 0
FourLaw listed = (b : Bounds) (x : Place) (k l m n : Corner) → In b x
    → is_chain (facet true k l m) ≡ true → is_chain (facet true l m n) ≡ true
    → (p q r : ℕ) → p < q → q < r
    → cond {A = ℕ} (has_facet (p ∷ q ∷ r ∷ []) (leaves_of b x (listed k l m n))) 1 0
    ≡ cond (has_leaves p q r (facet_at b x (facet true k l m))) 1 0
    + cond (has_leaves p q r (facet_at b x (facet true k l n))) 1 0
    + cond (has_leaves p q r (facet_at b x (facet true k m n))) 1 0
    + cond (has_leaves p q r (facet_at b x (facet true l m n))) 1 0

four_even : FourLaw (λ k l m n. k ∷ l ∷ m ∷ n ∷ [])
four_even b x k l m n inn klm lmn p q r pq qr =
    let first = ascends b x (facet true k l m) inn (chain_tells _ klm) in
    let last = ascends b x (facet true l m n) inn (chain_tells _ lmn) in
    in_even (leaf_at b x k) (leaf_at b x l) (leaf_at b x m) (leaf_at b x n) p q r first.ab first.bc last.bc pq qr

four_odd : FourLaw (λ k l m n. k ∷ m ∷ l ∷ n ∷ [])
four_odd b x k l m n inn klm lmn p q r pq qr =
    let first = ascends b x (facet true k l m) inn (chain_tells _ klm) in
    let last = ascends b x (facet true l m n) inn (chain_tells _ lmn) in
    in_odd (leaf_at b x k) (leaf_at b x l) (leaf_at b x m) (leaf_at b x n) p q r first.ab first.bc last.bc pq qr

abbrev RowShares : Row → Type 0
RowShares t = (b : Bounds) (x : Place) → In b x → (p q r : ℕ) → p < q → q < r
    → cond {A = ℕ} (has_facet (p ∷ q ∷ r ∷ []) (leaves_of b x t.corners)) 1 0
    ≡ sum_by (λ f. cond (has_leaves p q r (facet_at b x f)) 1 0) (facets_of t)

rows_share : Each RowShares rows
unfolding rows
rows_share = (
  λ b x inn p q r pq qr. omega (arith, four_even b x (corner 0 0 0) (corner 1 0 0) (corner 1 1 0) (corner 1 1 1) inn refl refl p q r pq qr),
  (
    λ b x inn p q r pq qr. omega (arith, four_odd b x (corner 0 0 0) (corner 1 0 0) (corner 1 0 1) (corner 1 1 1) inn refl refl p q r pq qr),
    (
      λ b x inn p q r pq qr. omega (arith, four_odd b x (corner 0 0 0) (corner 0 1 0) (corner 1 1 0) (corner 1 1 1) inn refl refl p q r pq qr),
      (
        λ b x inn p q r pq qr. omega (arith, four_even b x (corner 0 0 0) (corner 0 1 0) (corner 0 1 1) (corner 1 1 1) inn refl refl p q r pq qr),
        (
          λ b x inn p q r pq qr. omega (arith, four_even b x (corner 0 0 0) (corner 0 0 1) (corner 1 0 1) (corner 1 1 1) inn refl refl p q r pq qr),
          (
            λ b x inn p q r pq qr. omega (arith, four_odd b x (corner 0 0 0) (corner 0 0 1) (corner 0 1 1) (corner 1 1 1) inn refl refl p q r pq qr),
            tt,
          ),
        ),
      ),
    ),
  ),
)

-- ---- all tetrahedra

sharing-facets : (b : Bounds) (p q r : ℕ) → p < q → q < r
    → sharing b (p ∷ q ∷ r ∷ []) ≡ sum_by (λ x. sum_by (λ f. cond (has_leaves p q r (facet_at b x f)) 1 0) all_facets) (all_lowest b)
sharing-facets b p q r pq qr =
    let has : List ℕ → ℕ = λ t. cond (has_facet (p ∷ q ∷ r ∷ []) t) 1 0 in
    sum_by-flat_map has (six_at b) (all_lowest b)
    ∙ sum_by-same (λ x. sum_by has (six_at b x)) (λ x. sum_by (λ f. cond (has_leaves p q r (facet_at b x f)) 1 0) all_facets) (all_lowest b)
    (λ n e less.
    let x = get_or (all_lowest b) n e in
    let ix = lowest_in b n e less in
    sum_by-map has (λ (t : Row). leaves_of b x t.corners) rows
    ∙ sum_by-same (λ (t : Row). has (leaves_of b x t.corners)) (λ (t : Row). sum_by (λ f. cond (has_leaves p q r (facet_at b x f)) 1 0) (facets_of t)) rows
    (λ k d in_k. Each_at RowShares rows rows_share k d in_k b x ix p q r pq qr)
    ∙ sym (sum_by-flat_map (λ f. cond (has_leaves p q r (facet_at b x f)) 1 0) facets_of rows))

-- either direction
two_ways : (p q r : ℕ) (f g : Leaves) → has_leaves p q r g ≡ true
    → cond {A = ℕ} (has_leaves p q r f) 1 0 ≡ cond (same_leaves f g) 1 0 + cond (same_leaves f (leaves (not g.up) g.a g.b g.c)) 1 0
two_ways p q r f g is =
    let first = and_parts (g.a == p) _ is in
    let rest = and_parts (g.b == q) (g.c == r) first.1 in
    let a : p ≡ g.a = sym (eqb-true g.a p first.0) in
    let b : q ≡ g.b = sym (eqb-true g.b q rest.0) in
    let c : r ≡ g.c = sym (eqb-true g.c r rest.1) in
    (λ t. cond {A = ℕ} (has_leaves (a t) (b t) (c t) f) 1 0) ∙ flags f.up g.up (has_leaves g.a g.b g.c f)
  where
    flags : (u v h : Bool) → cond {A = ℕ} h 1 0 ≡ cond (same_flag u v && h) 1 0 + cond (same_flag u (not v) && h) 1 0
    flags true true true = refl
    flags true true false = refl
    flags true false true = refl
    flags true false false = refl
    flags false true true = refl
    flags false true false = refl
    flags false false true = refl
    flags false false false = refl

-- how many facets of the cubes have the leaves of one, in a direction
facets_at : (b : Bounds) (y : Place) (g : Facet) (o : Corner) → In b y → Chain g → StandsAt g o
    → sum_by (λ x. sum_by (λ f. cond (same_leaves (facet_at b x f) (facet_at b y g)) 1 0) all_facets) (all_lowest b) ≡ cond (has_at b o (place_of y g.a)) 1 0
facets_at b y g o iy cg stands =
    sum_by-same (λ x. sum_by (λ f. cond (same_leaves (facet_at b x f) (facet_at b y g)) 1 0) all_facets) (λ x. cond (same_place (place_of x o) (place_of y g.a)) 1 0) (all_lowest b)
    (λ n e less.
    let x = get_or (all_lowest b) n e in
    let ix = lowest_in b n e less in
    sum_by-same (λ f. cond (same_leaves (facet_at b x f) (facet_at b y g)) 1 0) (λ f. cond (same_shape f g && same_place (place_of x f.a) (place_of y g.a)) 1 0) all_facets
    (λ k d in_k. ap (λ t. cond t 1 0) (same_facets b x y (get_or all_facets k d) g ix iy (chains k d in_k) cg))
    ∙ stands (λ c. same_place (place_of x c) (place_of y g.a)))
    ∙ cubes_at b o (place_of y g.a)

-- ---- the boundary

and_end : (t : Bool) → (t && true) ≡ t
and_end true = refl
and_end false = refl

at_end_by : (coordinate : ℕ → ℕ) (lo hi a b c p q r : ℕ) → coordinate a ≡ p → coordinate b ≡ q → coordinate c ≡ r
    → lies_at_end coordinate lo hi (a ∷ b ∷ c ∷ []) ≡ at_end lo hi p q r
at_end_by coordinate lo hi a b c p q r ea eb ec = λ t.
    ((ea t == lo) && ((eb t == lo) && (and_end (ec t == lo) t))) || ((ea t == hi) && ((eb t == hi) && (and_end (ec t == hi) t)))

behind_facet : (b : Bounds) (y : Place) (k : ℕ) (d : Facet) → k < length all_facets → In b y
    → let g = get_or all_facets k d in
    has_at b (other g).a (place_of y g.a) ≡ not (is_on_boundary b (leaf_at b y g.a ∷ leaf_at b y g.b ∷ leaf_at b y g.c ∷ []))
behind_facet b y k d less iy =
    let g = get_or all_facets k d in
    let o = (other g).a in
    let ch = chains k d less in
    let h = iy.has in
    let apart = AllPass-from_list_all is_apart all_facets all_apart k d less in
    let parts = and_parts (is_axis g.a.x g.b.x g.c.x o.x) _ apart in
    let more = and_parts (is_axis g.a.y g.b.y g.c.y o.y) (is_axis g.a.z g.b.z g.c.z o.z) parts.1 in
    let pa = place_again b y g.a iy ch.a in
    let pb = place_again b y g.b iy ch.b in
    let pc = place_again b y g.c iy ch.c in
    let X = axis_law g.a.x g.b.x g.c.x o.x parts.0 b.x0 b.x1 y.i h.x.at_least h.x.below ∙ ap not (sym (at_end_by (x_of b) b.x0 b.x1 _ _ _ _ _ _ pa.0 pb.0 pc.0)) in
    let Y = axis_law g.a.y g.b.y g.c.y o.y more.0 b.y0 b.y1 y.j h.y.at_least h.y.below ∙ ap not (sym (at_end_by (y_of b) b.y0 b.y1 _ _ _ _ _ _ pa.1 pb.1 pc.1)) in
    let Z = axis_law g.a.z g.b.z g.c.z o.z more.1 b.z0 b.z1 y.k h.z.at_least h.z.below ∙ ap not (sym (at_end_by (z_of b) b.z0 b.z1 _ _ _ _ _ _ pa.2 pb.2 pc.2)) in
    let facet_leaves = leaf_at b y g.a ∷ leaf_at b y g.b ∷ leaf_at b y g.c ∷ [] in
    (λ t. Z t && (Y t && X t))
    ∙ three (lies_at_end (x_of b) b.x0 b.x1 facet_leaves) (lies_at_end (y_of b) b.y0 b.y1 facet_leaves) (lies_at_end (z_of b) b.z0 b.z1 facet_leaves)

-- ---- the law

shared : (b : Bounds) (p q r : ℕ) → p < q → q < r → 0 < sharing b (p ∷ q ∷ r ∷ []) → sharing b (p ∷ q ∷ r ∷ []) ≡ 1 + cond (is_on_boundary b (p ∷ q ∷ r ∷ [])) 0 1
shared b p q r pq qr some =
    let per_cube : Place → ℕ = λ x. sum_by (λ f. cond (has_leaves p q r (facet_at b x f)) 1 0) all_facets in
    let none : Facet = facet true low_corner low_corner low_corner in
    let at = positive per_cube (all_lowest b) (place 0 0 0) (omega (arith, some, sharing-facets b p q r pq qr)) in
    let y = get_or (all_lowest b) at.0 (place 0 0 0) in
    let iy = lowest_in b at.0 (place 0 0 0) at.1 in
    let which = positive (λ f. cond (has_leaves p q r (facet_at b y f)) 1 0) all_facets none at.2 in
    let g = get_or all_facets which.0 none in
    let ch = chains which.0 none which.1 in
    let once = facets_once which.0 none which.1 in
    let G = facet_at b y g in
    let is : has_leaves p q r G ≡ true = by_test (has_leaves p q r G) (λ h. h) (λ miss. absurd (omega (arith, which.2, ap (λ t. cond {A = ℕ} t 1 0) miss))) in
    let back : Facet = flipped g in
    let forth_f : Place → ℕ = λ x. sum_by (λ f. cond (same_leaves (facet_at b x f) G) 1 0) all_facets in
    let back_f : Place → ℕ = λ x. sum_by (λ f. cond (same_leaves (facet_at b x f) (facet_at b y back)) 1 0) all_facets in
    let split = sum_by-same per_cube (λ x. forth_f x + back_f x) (all_lowest b) (λ n e less.
    let x = get_or (all_lowest b) n e in
    sum_by-same (λ f. cond (has_leaves p q r (facet_at b x f)) 1 0) (λ f. cond (same_leaves (facet_at b x f) G) 1 0 + cond (same_leaves (facet_at b x f) (facet_at b y back)) 1 0) all_facets
    (λ k d in_k. two_ways p q r (facet_at b x (get_or all_facets k d)) G is)
    ∙ sum_by-plus (λ f. cond (same_leaves (facet_at b x f) G) 1 0) (λ f. cond (same_leaves (facet_at b x f) (facet_at b y back)) 1 0) all_facets)
    ∙ sum_by-plus forth_f back_f (all_lowest b) in
    let forth = facets_at b y g g.a iy ch (λ h. (once h).0) ∙ ap (λ t. cond t 1 0) (itself b y g.a iy) in
    let backward = facets_at b y back (other g).a iy (chain_flipped g ch) (λ h. (once h).1) ∙ ap (λ t. cond t 1 0) (behind_facet b y which.0 none which.1 iy) in
    let first = and_parts (G.a == p) _ is in
    let rest = and_parts (G.b == q) (G.c == r) first.1 in
    let a = eqb-true G.a p first.0 in
    let c = eqb-true G.b q rest.0 in
    let e = eqb-true G.c r rest.1 in
    let same : is_on_boundary b (G.a ∷ G.b ∷ G.c ∷ []) ≡ is_on_boundary b (p ∷ q ∷ r ∷ []) = λ t. is_on_boundary b (a t ∷ c t ∷ e t ∷ []) in
    omega (arith, sharing-facets b p q r pq qr, split, forth, backward, turn (is_on_boundary b (G.a ∷ G.b ∷ G.c ∷ [])), ap (λ t. cond {A = ℕ} t 0 1) same)
  where
    turn : (t : Bool) → cond {A = ℕ} (not t) 1 0 ≡ cond t 0 1
    turn true = refl
    turn false = refl

pub facets_are_shared : (b : Bounds) (p q r : ℕ) → p < q → q < r → 0 < sharing b (p ∷ q ∷ r ∷ [])
    → ((sharing b (p ∷ q ∷ r ∷ []) ≡ 2) ⊎ (sharing b (p ∷ q ∷ r ∷ []) ≡ 1)) × ((sharing b (p ∷ q ∷ r ∷ []) ≡ 1) ↔ IsTrue (is_on_boundary b (p ∷ q ∷ r ∷ [])))
facets_are_shared b p q r pq qr some = cases (is_on_boundary b (p ∷ q ∷ r ∷ [])) refl
  where
    cases : (t : Bool) → is_on_boundary b (p ∷ q ∷ r ∷ []) ≡ t
        → ((sharing b (p ∷ q ∷ r ∷ []) ≡ 2) ⊎ (sharing b (p ∷ q ∷ r ∷ []) ≡ 1)) × ((sharing b (p ∷ q ∷ r ∷ []) ≡ 1) ↔ IsTrue (is_on_boundary b (p ∷ q ∷ r ∷ [])))
    cases true is =
        let one : sharing b (p ∷ q ∷ r ∷ []) ≡ 1 = shared b p q r pq qr some ∙ ap (λ t. 1 + cond {A = ℕ} t 0 1) is in
        (inr one, (λ h. is, λ h. one))
    cases false is =
        let two : sharing b (p ∷ q ∷ r ∷ []) ≡ 2 = shared b p q r pq qr some ∙ ap (λ t. 1 + cond {A = ℕ} t 0 1) is in
        (inl two, (λ h. absurd (omega (arith, h, two)), λ h. absurd (true≢false (sym h ∙ is))))
