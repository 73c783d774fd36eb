-- The diagonal of a tetrahedron tells which tetrahedron it is.
use Rattle.viz_surface_law.proofs.Sharing.GridFacets.{low_corner}
use Rattle.std.proofs.Common.{◌≡◌, ℕ, ◌+◌, ◌-◌, ◌*◌, ◌<◌, ◌≤◌, Bool, true, false, cond, ◌&&◌, ◌||◌, inl, inr, List, [], ◌∷◌, length, get_or, refl, sym, ap, subst, ◌∙◌, arith}
use Rattle.std.specs.Prelude.{◌⊎◌, count_by, sum_by, slice_index_or}
use Rattle.std.specs.List.{list_all}
use Rattle.std.proofs.lemmas.Bool.{and_parts}
use Rattle.std.proofs.lemmas.List.Sums.{AllPass-from_list_all}
use Rattle.viz_extent.specs.Extent.{Bounds, size_x, size_y, plane_size}
use Rattle.viz_kuhn.specs.Corners.{Corner, corner}
use Rattle.viz_kuhn.specs.Kuhn.{Row, rows}
use Rattle.viz_kuhn.specs.Places.{Place, place_of}
use Rattle.viz_kuhn.specs.Cubes.{all_lowest, leaves_of}
use Rattle.viz_surface_law.specs.Sides.{Side, same_side}
use Rattle.viz_surface_law.proofs.Sharing.ListCounts.{sum_by-same, by_test}
use Rattle.viz_surface_law.proofs.Sharing.CubeSums.{same_place, has_at, cubes_at}
use Rattle.viz_surface_law.proofs.Sharing.FacetTable.{facet, is_chain, same_corner, Each, Each_at}
use Rattle.viz_surface_law.proofs.Sharing.GridFacets.{Chain, chain_tells, Bits, In, SamePlace, leaf_at, leaf_lt, leaf_tells, leaf_from, corner_has, corner-decides, place-decides, mul_le, false_then, lowest_in}
use Rattle.viz_surface_law.proofs.Total.{diag_of, diags_in}
use Rattle.viz_surface_law.proofs.Diagonals.{IsDiag, Four, Diags, IsIn, of_diag, diags, diag_once, diag_none}

-- ---- the six tetrahedra of a cube

abbrev pub high_corner : Corner
high_corner = corner 1 1 1

-- the corners of a row between its lowest and its highest one
abbrev pub second : Row → Corner
second r = slice_index_or r.corners 1 low_corner

abbrev pub third : Row → Corner
third r = slice_index_or r.corners 2 low_corner

-- a row's corners lie between the cube's lowest and highest, one of the middle ones below the other
abbrev is_between : Row → Bool
is_between r =
    is_chain (facet true low_corner (second r) high_corner)
    && (is_chain (facet true low_corner (third r) high_corner)
    && (is_chain (facet true low_corner (second r) (third r)) || is_chain (facet true low_corner (third r) (second r))))

all_between : list_all is_between rows ≡ true
unfolding rows
all_between = refl

abbrev IsRow : Row → Type 0
IsRow r = r.corners ≡ low_corner ∷ second r ∷ third r ∷ high_corner ∷ []

rows_are : Each IsRow rows
unfolding rows
rows_are = (refl, (refl, (refl, (refl, (refl, (refl, tt))))))

four_leaves : (b : Bounds) (x : Place) (m n : Corner) → In b x
    → Chain (facet true low_corner m high_corner) → Chain (facet true low_corner n high_corner)
    → Chain (facet true low_corner m n) ⊎ Chain (facet true low_corner n m)
    → Four (leaf_at b x low_corner) (leaf_at b x m) (leaf_at b x n) (leaf_at b x high_corner)
four_leaves b x m n inn cm cn or =
    record {
      ab = leaf_lt b x low_corner m inn cm.a cm.b cm.ab cm.a_b;
      ac = leaf_lt b x low_corner n inn cn.a cn.b cn.ab cn.a_b;
      bd = leaf_lt b x m high_corner inn cm.b cm.c cm.bc cm.b_c;
      cd = leaf_lt b x n high_corner inn cn.b cn.c cn.bc cn.b_c;
      bc = either or;
    }
  where
    either : Chain (facet true low_corner m n) ⊎ Chain (facet true low_corner n m) → (leaf_at b x m < leaf_at b x n) ⊎ (leaf_at b x n < leaf_at b x m)
    either (inl c) = inl (leaf_lt b x m n inn c.b c.c c.bc c.b_c)
    either (inr c) = inr (leaf_lt b x n m inn c.b c.c c.bc c.b_c)

or_tells : (p q : Bool) → (p || q) ≡ true → (p ≡ true) ⊎ (q ≡ true)
or_tells true q h = inl refl
or_tells false q h = inr h

row_four : (b : Bounds) (x : Place) (r : Row) → In b x → is_between r ≡ true
    → Four (leaf_at b x low_corner) (leaf_at b x (second r)) (leaf_at b x (third r)) (leaf_at b x high_corner)
row_four b x r inn h =
    let p = and_parts (is_chain (facet true low_corner (second r) high_corner)) _ h in
    let q = and_parts (is_chain (facet true low_corner (third r) high_corner)) _ p.1 in
    four_leaves b x (second r) (third r) inn (chain_tells _ p.0) (chain_tells _ q.0) (either (or_tells _ _ q.1))
  where
    either : (is_chain (facet true low_corner (second r) (third r)) ≡ true) ⊎ (is_chain (facet true low_corner (third r) (second r)) ≡ true)
        → Chain (facet true low_corner (second r) (third r)) ⊎ Chain (facet true low_corner (third r) (second r))
    either (inl h) = inl (chain_tells _ h)
    either (inr h) = inr (chain_tells _ h)

-- the leaves of a row's tetrahedron
abbrev pub four_at : Bounds → Place → Row → List ℕ
four_at b x r = leaf_at b x low_corner ∷ leaf_at b x (second r) ∷ leaf_at b x (third r) ∷ leaf_at b x high_corner ∷ []

leaves_are : (b : Bounds) (x : Place) (r : Row) → IsRow r → leaves_of b x r.corners ≡ four_at b x r
leaves_are b x r is = ap (leaves_of b x) is

-- ---- how far the leaves lie from the lowest one

abbrev weight : ℕ → ℕ → Corner → ℕ
weight s p c = c.x + c.y * s + c.z * p

apart_by : (i j k a b c s p : ℕ) → (i + a) + (j + b) * s + (k + c) * p ≡ (i + j * s + k * p) + (a + b * s + c * p)
apart_by i j k a b c s p = omega arith

weigh : (b : Bounds) (x : Place) (c : Corner) → In b x → leaf_at b x c ≡ leaf_at b x low_corner + weight (size_x b) (plane_size b) c
weigh b x c inn =
    let h = inn.has in
    let i : (x.i + c.x) - b.x0 ≡ ((x.i + 0) - b.x0) + c.x = omega (arith, h.x.at_least) in
    let j : (x.j + c.y) - b.y0 ≡ ((x.j + 0) - b.y0) + c.y = omega (arith, h.y.at_least) in
    let k : (x.k + c.z) - b.z0 ≡ ((x.k + 0) - b.z0) + c.z = omega (arith, h.z.at_least) in
    (λ t. i t + j t * size_x b + k t * plane_size b)
    ∙ apart_by ((x.i + 0) - b.x0) ((x.j + 0) - b.y0) ((x.k + 0) - b.z0) c.x c.y c.z (size_x b) (plane_size b)

abbrev pub same_middle : Row → Row → Bool
same_middle r q = same_corner (second r) (second q) && same_corner (third r) (third q)

abbrev middle_weight : ℕ → ℕ → Row → ℕ
middle_weight s p r = weight s p (second r) + weight s p (third r)

abbrev Differs : ℕ → ℕ → Row → Row → Type 0
Differs s p q r = middle_weight s p r ≡ middle_weight s p q → same_middle r q ≡ true

rows_differ : (s p : ℕ) → 2 ≤ s → 2 * s ≤ p → Each (λ q. Each (Differs s p q) rows) rows
unfolding rows
rows_differ s p wide deep = (
  (λ h. refl, (λ h. absurd (omega arith), (λ h. absurd (omega arith), (λ h. absurd (omega arith), (λ h. absurd (omega arith), (λ h. absurd (omega arith), tt)))))),
  (
    (λ h. absurd (omega arith), (λ h. refl, (λ h. absurd (omega arith), (λ h. absurd (omega arith), (λ h. absurd (omega arith), (λ h. absurd (omega arith), tt)))))),
    (
      (λ h. absurd (omega arith), (λ h. absurd (omega arith), (λ h. refl, (λ h. absurd (omega arith), (λ h. absurd (omega arith), (λ h. absurd (omega arith), tt)))))),
      (
        (λ h. absurd (omega arith), (λ h. absurd (omega arith), (λ h. absurd (omega arith), (λ h. refl, (λ h. absurd (omega arith), (λ h. absurd (omega arith), tt)))))),
        (
          (λ h. absurd (omega arith), (λ h. absurd (omega arith), (λ h. absurd (omega arith), (λ h. absurd (omega arith), (λ h. refl, (λ h. absurd (omega arith), tt)))))),
          (
            (λ h. absurd (omega arith), (λ h. absurd (omega arith), (λ h. absurd (omega arith), (λ h. absurd (omega arith), (λ h. absurd (omega arith), (λ h. refl, tt)))))),
            tt,
          ),
        ),
      ),
    ),
  ),
)

-- each row alone has its middle corners
abbrev MiddleOnce : Row → Type 0
MiddleOnce q = (h : Bool) → count_by (λ r. same_middle r q && h) rows ≡ cond h 1 0

middles_once : Each MiddleOnce rows
unfolding rows
middles_once = (λ h. omega arith, (λ h. omega arith, (λ h. omega arith, (λ h. omega arith, (λ h. omega arith, (λ h. omega arith, tt))))))

-- ---- a diagonal's side

-- a row of the table
pub record OfTable (r : Row) : Type 0 where
  pub is : IsRow r
  pub between : is_between r ≡ true
  pub once : MiddleOnce r

pub of_table : (k : ℕ) (d : Row) → k < length rows → OfTable (get_or rows k d)
of_table k d less =
    record {
      is = Each_at IsRow rows rows_are k d less;
      between = AllPass-from_list_all is_between rows all_between k d less;
      once = Each_at MiddleOnce rows middles_once k d less;
    }

abbrev low_bits : Bits low_corner
low_bits = record { x = omega arith; y = omega arith; z = omega arith }

pub row_diags : (inside : List Bool) (b : Bounds) (x : Place) (r : Row) → In b x → OfTable r
    → Diags (diag_of inside (leaves_of b x r.corners)) (leaf_at b x low_corner) (leaf_at b x low_corner + leaf_at b x (second r) + leaf_at b x (third r) + leaf_at b x high_corner)
row_diags inside b x r inn t =
    subst (λ l. Diags (diag_of inside l) (leaf_at b x low_corner) (leaf_at b x low_corner + leaf_at b x (second r) + leaf_at b x (third r) + leaf_at b x high_corner))
    (sym (leaves_are b x r t.is)) (diags inside _ _ _ _ (row_four b x r inn t.between))

-- rows with the same middle corners have the same leaves at the same place
same_four : (b : Bounds) (x y : Place) (r q : Row) → same_middle r q ≡ true → SamePlace (place_of x low_corner) (place_of y low_corner) → four_at b x r ≡ four_at b y q
same_four b x y r q middle same =
    let parts = and_parts (same_corner (second r) (second q)) (same_corner (third r) (third q)) middle in
    let m = (corner-decides (second r) (second q)).0 parts.0 in
    let n = (corner-decides (third r) (third q)).0 parts.1 in
    let k = same.0 in
    let j = same.1.0 in
    let i = same.1.1 in
    let low = leaf_from b (place_of x low_corner) (place_of y low_corner) same in
    let e2 = leaf_from b (place_of x (second r)) (place_of y (second q)) (omega (arith, k, m.1.1), (omega (arith, j, m.1.0), omega (arith, i, m.0))) in
    let e3 = leaf_from b (place_of x (third r)) (place_of y (third q)) (omega (arith, k, n.1.1), (omega (arith, j, n.1.0), omega (arith, i, n.0))) in
    let high = leaf_from b (place_of x high_corner) (place_of y high_corner) (omega (arith, k), (omega (arith, j), omega (arith, i))) in
    λ t. low t ∷ e2 t ∷ e3 t ∷ high t ∷ []

-- and rows with the same sum of leaves there have the same middle corners
same_sum : (b : Bounds) (x y : Place) (k m : ℕ) (d e : Row) → k < length rows → m < length rows → In b x → In b y
    → leaf_at b x low_corner ≡ leaf_at b y low_corner
    → let r = get_or rows k d in
    let q = get_or rows m e in
    leaf_at b x low_corner + leaf_at b x (second r) + leaf_at b x (third r) + leaf_at b x high_corner
    ≡ leaf_at b y low_corner + leaf_at b y (second q) + leaf_at b y (third q) + leaf_at b y high_corner
    → same_middle r q ≡ true
same_sum b x y k m d e in_k in_m ix iy low sum =
    let r = get_or rows k d in
    let q = get_or rows m e in
    let s = size_x b in
    let p = plane_size b in
    let wide : 2 ≤ size_x b = omega (arith, ix.has.x.at_least, ix.has.x.below) in
    let tall : 2 ≤ size_y b = omega (arith, ix.has.y.at_least, ix.has.y.below) in
    let deep : 2 * size_x b ≤ plane_size b = omega (arith, mul_le 2 (size_y b) (size_x b) tall) in
    let table = Each_at (Differs s p q) rows (Each_at (λ q. Each (Differs s p q) rows) rows (rows_differ s p wide deep) m e in_m) k d in_k in
    table (omega (arith, low, sum, weigh b x (second r) ix, weigh b x (third r) ix, weigh b x high_corner ix, weigh b y (second q) iy, weigh b y (third q) iy, weigh b y high_corner iy))

diag_count : (inside : List Bool) (b : Bounds) (x y : Place) (k m : ℕ) (d e : Row) (s : Side) → k < length rows → m < length rows → In b x → In b y
    → IsIn s (diag_of inside (leaves_of b y (get_or rows m e).corners))
    → count_by (same_side s) (diag_of inside (leaves_of b x (get_or rows k d).corners))
    ≡ cond (same_middle (get_or rows k d) (get_or rows m e) && same_place (place_of x low_corner) (place_of y low_corner)) 1 0
diag_count inside b x y k m d e s in_k in_m ix iy has = by_test both same differ
  where
    r : Row
    r = get_or rows k d

    q : Row
    q = get_or rows m e

    both : Bool
    both = same_middle (get_or rows k d) (get_or rows m e) && same_place (place_of x low_corner) (place_of y low_corner)

    tr : OfTable (get_or rows k d)
    tr = of_table k d in_k

    tq : OfTable (get_or rows m e)
    tq = of_table m e in_m

    of : IsDiag s (leaf_at b y low_corner) (leaf_at b y low_corner + leaf_at b y (second (get_or rows m e)) + leaf_at b y (third (get_or rows m e)) + leaf_at b y high_corner)
    of = of_diag s _ _ _ (row_diags inside b y (get_or rows m e) iy tq) has

    same : both ≡ true → count_by (same_side s) (diag_of inside (leaves_of b x (get_or rows k d).corners)) ≡ cond both 1 0
    same h =
        let parts = and_parts (same_middle (get_or rows k d) (get_or rows m e)) (same_place (place_of x low_corner) (place_of y low_corner)) h in
        let four = same_four b x y (get_or rows k d) (get_or rows m e) parts.0 ((place-decides (place_of x low_corner) (place_of y low_corner)).0 parts.1) in
        let leaves : leaves_of b x (get_or rows k d).corners ≡ leaves_of b y (get_or rows m e).corners =
        leaves_are b x (get_or rows k d) tr.is ∙ four ∙ sym (leaves_are b y (get_or rows m e) tq.is) in
        ap (λ l. count_by (same_side s) (diag_of inside l)) leaves ∙ diag_once s _ of.different has ∙ ap (λ t. cond t 1 0) (sym h)

    differ : both ≡ false → count_by (same_side s) (diag_of inside (leaves_of b x (get_or rows k d).corners)) ≡ cond both 1 0
    differ h =
        diag_none s _ _ _ (row_diags inside b x (get_or rows k d) ix tr) (λ also.
        let low : leaf_at b x low_corner ≡ leaf_at b y low_corner = sym also.least ∙ of.least in
        let place = leaf_tells b (place_of x low_corner) (place_of y low_corner) (corner_has b x low_corner ix low_bits) (corner_has b y low_corner iy low_bits) low in
        let middle = same_sum b x y k m d e in_k in_m ix iy low (sym also.total ∙ of.total) in
        false_then both h (and_true _ _ middle ((place-decides (place_of x low_corner) (place_of y low_corner)).1 place)))
        ∙ ap (λ t. cond t 1 0) (sym h)
      where
        and_true : (p q : Bool) → p ≡ true → q ≡ true → (p && q) ≡ true
        and_true true q a b = b
        and_true false q a b = a

pub diags_of_side : (inside : List Bool) (b : Bounds) (y : Place) (m : ℕ) (e : Row) (s : Side) → m < length rows → In b y
    → IsIn s (diag_of inside (leaves_of b y (get_or rows m e).corners))
    → sum_by (λ x. diags_in (same_side s) inside b x) (all_lowest b) ≡ cond (has_at b low_corner (place_of y low_corner)) 1 0
diags_of_side inside b y m e s in_m iy has =
    let q = get_or rows m e in
    sum_by-same (λ x. diags_in (same_side s) inside b x) (λ x. cond (same_place (place_of x low_corner) (place_of y low_corner)) 1 0) (all_lowest b)
    (λ n f less.
    let x = get_or (all_lowest b) n f in
    let ix = lowest_in b n f less in
    sum_by-same (λ (r : Row). count_by (same_side s) (diag_of inside (leaves_of b x r.corners))) (λ (r : Row). cond (same_middle r q && same_place (place_of x low_corner) (place_of y low_corner)) 1 0) rows
    (λ k d in_k. diag_count inside b x y k m d e s in_k in_m ix iy has)
    ∙ (of_table m e in_m).once (same_place (place_of x low_corner) (place_of y low_corner)))
    ∙ cubes_at b low_corner (place_of y low_corner)
