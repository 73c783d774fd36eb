-- Facets of the cubes of a grid, by leaves and by places.
use Rattle.std.proofs.Common.{◌≡◌, ℕ, ◌+◌, ◌-◌, ◌*◌, ◌<◌, ◌≤◌, ◌==◌, Bool, true, false, not, leb, ltb, ◌&&◌, true≢false, refl, sym, subst, ◌∙◌, leb-true, ltb-true, arith, cond, get_or, ◌≢◌, ◌||◌}
use Rattle.std.specs.Bool.{Decides}
use Rattle.std.specs.List.{All}
use Rattle.std.proofs.lemmas.Bool.{and_parts}
use Rattle.std.proofs.lemmas.Bool.Decides.{Decides-like, Decides-and, Decides-eqb, same_from_decides, nat_tests}
use Rattle.std.proofs.lemmas.List.Sums.{AllPass-from_list_all}
use Rattle.viz_extent.specs.Extent.{Bounds, Has, size_x, plane_size}
use Rattle.viz_extent.specs.Numbering.{index_at}
use Rattle.viz_extent.proofs.NumberingLemmas.{parts-of_index}
use Rattle.viz_kuhn.specs.Corners.{Corner, corner}
use Rattle.viz_kuhn.specs.Places.{Place, place_of, place}
use Rattle.viz_kuhn.specs.Cubes.{HasCube, leaf_of, all_lowest, lowest_of, cubes_of}
use Rattle.viz_surface_law.proofs.Sharing.CubeSums.{same_place, has_at, is_in}
use Rattle.viz_surface_law.proofs.Sharing.FacetTable.{Facet, all_facets, is_chain, is_up, is_bits, all_chains, same_corner, same_shape, same_flag, gap, facet, flipped}
use Rattle.viz_surface_law.proofs.Sharing.LeafFacets.{Leaves, leaves, Ascends, same_leaves, flag-decides}
use Rattle.std.specs.Prelude.{count_by}
use Rattle.std.proofs.lemmas.List.{get_or_default}
use Rattle.viz_kuhn.proofs.CubeLemmas.{length-all_lowest, numbers_each}
use Rattle.viz_surface_law.specs.Facets.{x_of, y_of, z_of}

-- ---- corners

pub record Bits (c : Corner) : Type 0 where
  pub x : c.x < 2
  pub y : c.y < 2
  pub z : c.z < 2

pub record Up (a b : Corner) : Type 0 where
  pub x : a.x ≤ b.x
  pub y : a.y ≤ b.y
  pub z : a.z ≤ b.z

pub record Chain (f : Facet) : Type 0 where
  pub ab : Up f.a f.b
  pub bc : Up f.b f.c
  pub a : Bits f.a
  pub b : Bits f.b
  pub c : Bits f.c
  pub a_b : same_corner f.a f.b ≡ false
  pub b_c : same_corner f.b f.c ≡ false

bits_tells : (c : Corner) → is_bits c ≡ true → Bits c
bits_tells c h =
    let p = and_parts (ltb c.x 2) (ltb c.y 2 && ltb c.z 2) h in
    let q = and_parts (ltb c.y 2) (ltb c.z 2) p.1 in
    record { x = ltb-true c.x 2 p.0; y = ltb-true c.y 2 q.0; z = ltb-true c.z 2 q.1 }

up_tells : (a b : Corner) → is_up a b ≡ true → Up a b
up_tells a b h =
    let p = and_parts (leb a.x b.x) (leb a.y b.y && leb a.z b.z) h in
    let q = and_parts (leb a.y b.y) (leb a.z b.z) p.1 in
    record { x = leb-true a.x b.x p.0; y = leb-true a.y b.y q.0; z = leb-true a.z b.z q.1 }

not_true : (b : Bool) → not b ≡ true → b ≡ false
not_true true h = sym h
not_true false h = refl

pub chain_tells : (f : Facet) → is_chain f ≡ true → Chain f
chain_tells f h =
    let p1 = and_parts (is_up f.a f.b) _ h in
    let p2 = and_parts (is_up f.b f.c) _ p1.1 in
    let p3 = and_parts (not (same_corner f.a f.b)) _ p2.1 in
    let p4 = and_parts (not (same_corner f.b f.c)) _ p3.1 in
    let p5 = and_parts (is_bits f.a) _ p4.1 in
    let p6 = and_parts (is_bits f.b) (is_bits f.c) p5.1 in
    record {
      ab = up_tells f.a f.b p1.0;
      bc = up_tells f.b f.c p2.0;
      a = bits_tells f.a p5.0;
      b = bits_tells f.b p6.0;
      c = bits_tells f.c p6.1;
      a_b = not_true _ p3.0;
      b_c = not_true _ p4.0;
    }

pub chains : All Chain all_facets
chains k d less = chain_tells _ (AllPass-from_list_all is_chain all_facets all_chains k d less)

-- ---- leaves

pub record In (b : Bounds) (x : Place) : Type 0 where
  pub has : HasCube b x.i x.j x.k

pub corner_has : (b : Bounds) (x : Place) (c : Corner) → In b x → Bits c → Has b (x.i + c.x) (x.j + c.y) (x.k + c.z)
corner_has b x c inn bits =
    let h = inn.has in
    record {
      x = record { at_least = omega (arith, h.x.at_least); at_most = omega (arith, h.x.below, bits.x) };
      y = record { at_least = omega (arith, h.y.at_least); at_most = omega (arith, h.y.below, bits.y) };
      z = record { at_least = omega (arith, h.z.at_least); at_most = omega (arith, h.z.below, bits.z) };
    }

abbrev pub SamePlace : Place → Place → Type 0
SamePlace p q = (p.k ≡ q.k) × ((p.j ≡ q.j) × (p.i ≡ q.i))

-- points with one leaf are one
pub leaf_tells : (b : Bounds) (p q : Place) → Has b p.i p.j p.k → Has b q.i q.j q.k → leaf_of b p ≡ leaf_of b q → SamePlace p q
leaf_tells b p q hp hq e =
    let P = parts-of_index b p.i p.j p.k (leaf_of b p) hp refl in
    let Q = parts-of_index b q.i q.j q.k (leaf_of b p) hq (sym e) in
    let i = sym P.0 ∙ Q.0 in
    let j = sym P.1 ∙ Q.1 in
    let k = sym P.2 ∙ Q.2 in
    (omega (arith, k, hp.z.at_least, hq.z.at_least), (omega (arith, j, hp.y.at_least, hq.y.at_least), omega (arith, i, hp.x.at_least, hq.x.at_least)))

pub leaf_from : (b : Bounds) (p q : Place) → SamePlace p q → leaf_of b p ≡ leaf_of b q
leaf_from b p q same = λ t. index_at b (same.1.1 t) (same.1.0 t) (same.0 t)

-- the leaf at a corner of a cube
abbrev pub leaf_at : Bounds → Place → Corner → ℕ
leaf_at b x c = leaf_of b (place_of x c)

mul_up : (m d s : ℕ) → m * s ≤ (m + d) * s
mul_up m d s = omega arith

pub mul_le : (m n s : ℕ) → m ≤ n → m * s ≤ n * s
mul_le m n s le =
    let e : m + (n - m) ≡ n = omega arith in
    subst (λ k. m * s ≤ k * s) e (mul_up m (n - m) s)

pub leaf_le : (b : Bounds) (x : Place) (c d : Corner) → Up c d → leaf_at b x c ≤ leaf_at b x d
leaf_le b x c d up =
    let y = mul_le ((x.j + c.y) - b.y0) ((x.j + d.y) - b.y0) (size_x b) (omega (arith, up.y)) in
    let z = mul_le ((x.k + c.z) - b.z0) ((x.k + d.z) - b.z0) (plane_size b) (omega (arith, up.z)) in
    omega (arith, up.x, y, z)

pub corner-decides : (a b : Corner) → Decides (same_corner a b) ((a.x ≡ b.x) × ((a.y ≡ b.y) × (a.z ≡ b.z)))
corner-decides a b =
    Decides-and (a.x == b.x) _ (Decides-eqb a.x b.x) (Decides-and (a.y == b.y) (a.z == b.z) (Decides-eqb a.y b.y) (Decides-eqb a.z b.z))

pub place-decides : (p q : Place) → Decides (same_place p q) (SamePlace p q)
place-decides p q =
    Decides-and (p.k == q.k) _ (Decides-eqb p.k q.k) (Decides-and (p.j == q.j) (p.i == q.i) (Decides-eqb p.j q.j) (Decides-eqb p.i q.i))

pub false_then : (b : Bool) → b ≡ false → b ≡ true → ⊥
false_then true f t = true≢false f
false_then false f t = true≢false (sym t)

pub leaf_lt : (b : Bounds) (x : Place) (c d : Corner) → In b x → Bits c → Bits d → Up c d → same_corner c d ≡ false → leaf_at b x c < leaf_at b x d
leaf_lt b x c d inn bc bd up apart =
    let le = leaf_le b x c d up in
    let not_same : leaf_at b x c ≡ leaf_at b x d → ⊥ = λ e.
    let s = leaf_tells b (place_of x c) (place_of x d) (corner_has b x c inn bc) (corner_has b x d inn bd) e in
    false_then (same_corner c d) apart ((corner-decides c d).1 (omega (arith, s.1.1), (omega (arith, s.1.0), omega (arith, s.0)))) in
    grind (arith, le, not_same)

-- a facet of a cube by its leaves
abbrev pub facet_at : Bounds → Place → Facet → Leaves
facet_at b x f = leaves f.up (leaf_at b x f.a) (leaf_at b x f.b) (leaf_at b x f.c)

pub ascends : (b : Bounds) (x : Place) (f : Facet) → In b x → Chain f → Ascends (facet_at b x f)
ascends b x f inn ch =
    record {
      ab = leaf_lt b x f.a f.b inn ch.a ch.b ch.ab ch.a_b;
      bc = leaf_lt b x f.b f.c inn ch.b ch.c ch.bc ch.b_c;
    }

-- ---- two facets with the same leaves

-- they are one facet, wherever their cubes lie
abbrev OneFacet : Place → Facet → Place → Facet → Type 0
OneFacet x f y g =
    (f.up ≡ g.up)
    × (SamePlace (place_of x f.a) (place_of y g.a) × (SamePlace (place_of x f.b) (place_of y g.b) × SamePlace (place_of x f.c) (place_of y g.c)))

by_leaves : (b : Bounds) (x y : Place) (f g : Facet) → In b x → In b y → Chain f → Chain g
    → Decides (same_leaves (facet_at b x f) (facet_at b y g)) (OneFacet x f y g)
by_leaves b x y f g ix iy cf cg =
    let tells : (c d : Corner) → Bits c → Bits d → leaf_at b x c ≡ leaf_at b y d → SamePlace (place_of x c) (place_of y d) =
    λ c d bc bd e. leaf_tells b (place_of x c) (place_of y d) (corner_has b x c ix bc) (corner_has b y d iy bd) e in
    let back : (c d : Corner) → SamePlace (place_of x c) (place_of y d) → leaf_at b x c ≡ leaf_at b y d =
    λ c d s. leaf_from b (place_of x c) (place_of y d) s in
    Decides-like (same_leaves (facet_at b x f) (facet_at b y g))
    (λ parts. (parts.0, (tells f.a g.a cf.a cg.a parts.1.0, (tells f.b g.b cf.b cg.b parts.1.1.0, tells f.c g.c cf.c cg.c parts.1.1.1))))
    (λ one. (one.0, (back f.a g.a one.1.0, (back f.b g.b one.1.1.0, back f.c g.c one.1.1.1))))
    (Decides-and (same_flag f.up g.up) _ (flag-decides f.up g.up)
    (Decides-and (leaf_at b x f.a == leaf_at b y g.a) _ (Decides-eqb _ _)
    (Decides-and (leaf_at b x f.b == leaf_at b y g.b) (leaf_at b x f.c == leaf_at b y g.c) (Decides-eqb _ _) (Decides-eqb _ _))))

abbrev Gaps : Facet → Facet → Type 0
Gaps f g =
    let p = gap f.a f.b in
    let q = gap g.a g.b in
    let r = gap f.a f.c in
    let s = gap g.a g.c in
    ((p.x ≡ q.x) × ((p.y ≡ q.y) × (p.z ≡ q.z))) × ((r.x ≡ s.x) × ((r.y ≡ s.y) × (r.z ≡ s.z)))

by_shape : (x y : Place) (f g : Facet) → Chain f → Chain g
    → Decides (same_shape f g && same_place (place_of x f.a) (place_of y g.a)) (OneFacet x f y g)
by_shape x y f g cf cg =
    Decides-like (same_shape f g && same_place (place_of x f.a) (place_of y g.a)) to from
    (Decides-and (same_shape f g) (same_place (place_of x f.a) (place_of y g.a))
    (Decides-and (same_flag f.up g.up) _ (flag-decides f.up g.up)
    (Decides-and (same_corner (gap f.a f.b) (gap g.a g.b)) (same_corner (gap f.a f.c) (gap g.a g.c)) (corner-decides _ _) (corner-decides _ _)))
    (place-decides (place_of x f.a) (place_of y g.a)))
  where
    to : ((f.up ≡ g.up) × Gaps f g) × SamePlace (place_of x f.a) (place_of y g.a) → OneFacet x f y g
    to h =
        let k = h.1.0 in
        let j = h.1.1.0 in
        let i = h.1.1.1 in
        let u = h.0.1.0 in
        let v = h.0.1.1 in (
          h.0.0,
          (
            h.1,
            (
              (omega (arith, k, u.1.1, cf.ab.z, cg.ab.z), (omega (arith, j, u.1.0, cf.ab.y, cg.ab.y), omega (arith, i, u.0, cf.ab.x, cg.ab.x))),
              (omega (arith, k, v.1.1, cf.ab.z, cg.ab.z, cf.bc.z, cg.bc.z), (omega (arith, j, v.1.0, cf.ab.y, cg.ab.y, cf.bc.y, cg.bc.y), omega (arith, i, v.0, cf.ab.x, cg.ab.x, cf.bc.x, cg.bc.x))),
            ),
          ),
        )

    from : OneFacet x f y g → ((f.up ≡ g.up) × Gaps f g) × SamePlace (place_of x f.a) (place_of y g.a)
    from one =
        let a = one.1.0 in
        let b = one.1.1.0 in
        let c = one.1.1.1 in (
          (
            one.0,
            (
              (omega (arith, a.1.1, b.1.1), (omega (arith, a.1.0, b.1.0), omega (arith, a.0, b.0))),
              (omega (arith, a.1.1, c.1.1), (omega (arith, a.1.0, c.1.0), omega (arith, a.0, c.0))),
            ),
          ),
          a,
        )

pub same_facets : (b : Bounds) (x y : Place) (f g : Facet) → In b x → In b y → Chain f → Chain g
    → same_leaves (facet_at b x f) (facet_at b y g) ≡ (same_shape f g && same_place (place_of x f.a) (place_of y g.a))
same_facets b x y f g ix iy cf cg =
    same_from_decides _ _ (by_leaves b x y f g ix iy cf cg) (by_shape x y f g cf cg)

-- ---- the cubes of the list

pub lowest_in : (b : Bounds) → All (In b) (all_lowest b)
lowest_in b k d less =
    let at = get_or (all_lowest b) k d in
    let cube : k < cubes_of b = subst (λ n. k < n) (length-all_lowest b) less in
    let same : at ≡ lowest_of b k = get_or_default (all_lowest b) k d (place b.x1 b.y1 b.z1) less in
    subst (In b) (sym same) (record { has = (numbers_each b k cube).0 })

-- one facet of a cube alone has a shape, and it stands so
abbrev pub StandsAt : Facet → Corner → Type 0
StandsAt g o = (h : Corner → Bool) → count_by (λ f. same_shape f g && h f.a) all_facets ≡ cond (h o) 1 0

-- the lowest corner of a cube
abbrev pub low_corner : Corner
low_corner = corner 0 0 0

-- a corner of a cube by its leaf
pub place_again : (b : Bounds) (x : Place) (c : Corner) → In b x → Bits c
    → (x_of b (leaf_at b x c) ≡ x.i + c.x) × (y_of b (leaf_at b x c) ≡ x.j + c.y) × (z_of b (leaf_at b x c) ≡ x.k + c.z)
place_again b x c inn bits =
    let h = corner_has b x c inn bits in
    let p = parts-of_index b (x.i + c.x) (x.j + c.y) (x.k + c.z) (leaf_at b x c) h refl in
    (omega (arith, p.0, h.x.at_least), omega (arith, p.1, h.y.at_least), omega (arith, p.2, h.z.at_least))

pub three : (p q r : Bool) → (not r && (not q && not p)) ≡ not (p || (q || r))
three true true true = refl
three true true false = refl
three true false true = refl
three true false false = refl
three false true true = refl
three false true false = refl
three false false true = refl
three false false false = refl

in_itself : (lo hi x a : ℕ) → lo ≤ x → x < hi → is_in lo (hi - lo) a (x + a) ≡ true
in_itself lo hi x a low high = grind (arith, nat_tests)

-- a cube has its own corner
pub itself : (b : Bounds) (y : Place) (c : Corner) → In b y → has_at b c (place_of y c) ≡ true
itself b y c iy =
    let h = iy.has in
    λ t. in_itself b.z0 b.z1 y.k c.z h.z.at_least h.z.below t
    && (in_itself b.y0 b.y1 y.j c.y h.y.at_least h.y.below t && in_itself b.x0 b.x1 y.i c.x h.x.at_least h.x.below t)

pub chain_flipped : (g : Facet) → Chain g → Chain (flipped g)
chain_flipped g c = record { ab = c.ab; bc = c.bc; a = c.a; b = c.b; c = c.c; a_b = c.a_b; b_c = c.b_c }
