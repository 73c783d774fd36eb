-- The vertices of one tetrahedron whose leaves ascend, by where they lie in it, and its kept
-- tetrahedra.
use Rattle.std.proofs.Common.{◌≡◌, ℕ, zero, suc, ◌+◌, ◌<◌, ◌≤◌, Bool, true, false, not, List, [], ◌∷◌, length, get_or, map, cond, min, max, Ordering, Less, Equal, is_lt, refl, sym, ap, ap₂, ◌∙◌, arith}
use Rattle.std.specs.Cmp.{IsTotalOrder}
use Rattle.std.specs.Cmp.Lexicographic.{slice_cmp, on_texts}
use Rattle.std.specs.List.Sorted.{IsStrictlySortedBy}
use Rattle.std.specs.Ordering.{nat_cmp, ordering_then}
use Rattle.std.proofs.Math.Nat.{min-eq_left, min-eq_right, max-eq_left, max-eq_right}
use Rattle.std.proofs.lemmas.Cmp.{tied_itself, nat_cmp_total}
use Rattle.std.proofs.lemmas.Map.Keys.{sorted_from_all_adjacent, Less-from_sorted}
use Rattle.viz_sheet.specs.Kept.{kept}
use Rattle.viz_sheet.proofs.PairOrder.{compare_as_ranks}
use Rattle.viz_clip_meaning.specs.declared.vertex.Vertex.{Vertex}
use Rattle.viz_clip_meaning.specs.declared.vertex.Vertex.TheVariants.{Corner, Cut}
use Rattle.viz_clip_meaning.specs.Vertices.{cut, place_of, vertex_cmp}
use Rattle.viz_clip_meaning.specs.Solids.{in_order, kept_solid, kept_tets, split}
use Rattle.viz_clip_meaning.specs.Rows.{rows}
use Rattle.viz_clip_meaning.proofs.OrderLemmas.{in_order-map, split-map}

pub vertex_total : IsTotalOrder vertex_cmp
vertex_total = on_texts place_of

-- ---- spots

-- the corners of a tetrahedron and the cuts of its edges, the lesser corner first
pub data Spot : Type 0 where
  c0 : Spot
  c1 : Spot
  c2 : Spot
  c3 : Spot
  e01 : Spot
  e02 : Spot
  e03 : Spot
  e12 : Spot
  e13 : Spot
  e23 : Spot

-- their places in the order of vertices
abbrev pub spot_id : Spot → ℕ
spot_id c0 = 0
spot_id c1 = 1
spot_id c2 = 2
spot_id c3 = 3
spot_id e01 = 4
spot_id e02 = 5
spot_id e03 = 6
spot_id e12 = 7
spot_id e13 = 8
spot_id e23 = 9

abbrev pub spot_cmp : Spot → Spot → Ordering
spot_cmp s t = nat_cmp (spot_id s) (spot_id t)

-- the leaves of a tetrahedron
pub record Four : Type 0 where
  pub a : ℕ
  pub b : ℕ
  pub c : ℕ
  pub d : ℕ

pub record Rises (x : Four) : Type 0 where
  pub ab : x.a < x.b
  pub bc : x.b < x.c
  pub cd : x.c < x.d

abbrev pub four : Four → List ℕ
four x = x.a ∷ x.b ∷ x.c ∷ x.d ∷ []

-- the vertex at a spot
abbrev pub vertex_at : Four → Spot → Vertex
vertex_at x c0 = Corner x.a
vertex_at x c1 = Corner x.b
vertex_at x c2 = Corner x.c
vertex_at x c3 = Corner x.d
vertex_at x e01 = Cut x.a x.b
vertex_at x e02 = Cut x.a x.c
vertex_at x e03 = Cut x.a x.d
vertex_at x e12 = Cut x.b x.c
vertex_at x e13 = Cut x.b x.d
vertex_at x e23 = Cut x.c x.d

abbrev pub all_at : Four → List Vertex
all_at x =
    Corner x.a ∷ Corner x.b ∷ Corner x.c ∷ Corner x.d ∷ Cut x.a x.b ∷ Cut x.a x.c ∷ Cut x.a x.d ∷ Cut x.b x.c ∷ Cut x.b x.d ∷ Cut x.c x.d ∷ []

-- ---- their order

pub less : (j k : ℕ) → j < k → nat_cmp j k ≡ Less
less j k h = grind (arith)

pub corners-less : (a b : ℕ) → a < b → vertex_cmp (Corner a) (Corner b) ≡ Less
corners-less a b h = ap (λ o. ordering_then o Equal) (less a b h)

pub cuts-less : (a b c d : ℕ) → a < c → vertex_cmp (Cut a b) (Cut c d) ≡ Less
cuts-less a b c d h = ap (λ o. ordering_then o (ordering_then (nat_cmp b d) Equal)) (less a c h)

pub cuts-less_at : (a b c : ℕ) → b < c → vertex_cmp (Cut a b) (Cut a c) ≡ Less
cuts-less_at a b c h = ap₂ (λ o p. ordering_then o (ordering_then p Equal)) (tied_itself nat_cmp_total a) (less b c h)

adjacent : (x : Four) → Rises x → (k : ℕ) → k + 1 < 10 → vertex_cmp (get_or (all_at x) k (Corner 0)) (get_or (all_at x) (k + 1) (Corner 0)) ≡ Less
adjacent x r zero l = corners-less x.a x.b r.ab
adjacent x r (suc zero) l = corners-less x.b x.c r.bc
adjacent x r (suc (suc zero)) l = corners-less x.c x.d r.cd
adjacent x r (suc (suc (suc zero))) l = refl
adjacent x r (suc (suc (suc (suc zero)))) l = cuts-less_at x.a x.b x.c r.bc
adjacent x r (suc (suc (suc (suc (suc zero))))) l = cuts-less_at x.a x.c x.d r.cd
adjacent x r (suc (suc (suc (suc (suc (suc zero)))))) l = cuts-less x.a x.d x.b x.c r.ab
adjacent x r (suc (suc (suc (suc (suc (suc (suc zero))))))) l = cuts-less_at x.b x.c x.d r.cd
adjacent x r (suc (suc (suc (suc (suc (suc (suc (suc zero)))))))) l = cuts-less x.b x.d x.c x.d r.bc
adjacent x r (suc (suc (suc (suc (suc (suc (suc (suc (suc k))))))))) l = absurd (omega arith)

pub all-sorted : (x : Four) → Rises x → IsStrictlySortedBy vertex_cmp (all_at x)
all-sorted x r = sorted_from_all_adjacent vertex_total (all_at x) (Corner 0) (adjacent x r)

at-spot : (x : Four) (s : Spot) → vertex_at x s ≡ get_or (all_at x) (spot_id s) (Corner 0)
at-spot x c0 = refl
at-spot x c1 = refl
at-spot x c2 = refl
at-spot x c3 = refl
at-spot x e01 = refl
at-spot x e02 = refl
at-spot x e03 = refl
at-spot x e12 = refl
at-spot x e13 = refl
at-spot x e23 = refl

spot-below : (s : Spot) → spot_id s < 10
spot-below c0 = omega arith
spot-below c1 = omega arith
spot-below c2 = omega arith
spot-below c3 = omega arith
spot-below e01 = omega arith
spot-below e02 = omega arith
spot-below e03 = omega arith
spot-below e12 = omega arith
spot-below e13 = omega arith
spot-below e23 = omega arith

pub spots-keep : (x : Four) → Rises x → (s t : Spot) → vertex_cmp (vertex_at x s) (vertex_at x t) ≡ spot_cmp s t
spots-keep x r s t =
    ap₂ vertex_cmp (at-spot x s) (at-spot x t)
    ∙ compare_as_ranks vertex_total (all_at x) (spot_id s) (spot_id t) (Corner 0) (all-sorted x r) (spot-below s) (spot-below t)

-- ---- kept solids

-- the kept solid by spots
abbrev pub solid : Bool → Bool → Bool → Bool → List Spot
solid false false false false = []
solid true false false false = c0 ∷ e01 ∷ e02 ∷ e03 ∷ []
solid false true false false = c1 ∷ e01 ∷ e12 ∷ e13 ∷ []
solid false false true false = c2 ∷ e02 ∷ e12 ∷ e23 ∷ []
solid false false false true = c3 ∷ e03 ∷ e13 ∷ e23 ∷ []
solid true true false false = c0 ∷ e02 ∷ e03 ∷ c1 ∷ e12 ∷ e13 ∷ []
solid true false true false = c0 ∷ e01 ∷ e03 ∷ c2 ∷ e12 ∷ e23 ∷ []
solid true false false true = c0 ∷ e01 ∷ e02 ∷ c3 ∷ e13 ∷ e23 ∷ []
solid false true true false = c1 ∷ e01 ∷ e13 ∷ c2 ∷ e02 ∷ e23 ∷ []
solid false true false true = c1 ∷ e01 ∷ e12 ∷ c3 ∷ e03 ∷ e23 ∷ []
solid false false true true = c2 ∷ e02 ∷ e12 ∷ c3 ∷ e03 ∷ e13 ∷ []
solid true true true false = c0 ∷ c1 ∷ c2 ∷ e03 ∷ e13 ∷ e23 ∷ []
solid true true false true = c0 ∷ c1 ∷ c3 ∷ e02 ∷ e12 ∷ e23 ∷ []
solid true false true true = c0 ∷ c2 ∷ c3 ∷ e01 ∷ e12 ∷ e13 ∷ []
solid false true true true = c1 ∷ c2 ∷ c3 ∷ e01 ∷ e02 ∷ e03 ∷ []
solid true true true true = c0 ∷ c1 ∷ c2 ∷ c3 ∷ []

-- the kept tetrahedra by spots
abbrev pub spot_tets : Bool → Bool → Bool → Bool → List (List Spot)
spot_tets p q r s = in_order spot_cmp (split spot_cmp (solid p q r s))

pub cut-up : (a b : ℕ) → a < b → cut a b ≡ Cut a b
cut-up a b h =
    let le : a ≤ b = omega arith in ap₂ Cut (min-eq_left le) (max-eq_right le)

pub cut-down : (a b : ℕ) → a < b → cut b a ≡ Cut a b
cut-down a b h =
    let le : a ≤ b = omega arith in ap₂ Cut (min-eq_right le) (max-eq_left le)

-- the cuts of all edges, either end first
record Cuts (x : Four) : Type 0 where
  u01 : cut x.a x.b ≡ Cut x.a x.b
  u02 : cut x.a x.c ≡ Cut x.a x.c
  u03 : cut x.a x.d ≡ Cut x.a x.d
  u12 : cut x.b x.c ≡ Cut x.b x.c
  u13 : cut x.b x.d ≡ Cut x.b x.d
  u23 : cut x.c x.d ≡ Cut x.c x.d
  d01 : cut x.b x.a ≡ Cut x.a x.b
  d02 : cut x.c x.a ≡ Cut x.a x.c
  d03 : cut x.d x.a ≡ Cut x.a x.d
  d12 : cut x.c x.b ≡ Cut x.b x.c
  d13 : cut x.d x.b ≡ Cut x.b x.d
  d23 : cut x.d x.c ≡ Cut x.c x.d

cuts : (x : Four) → Rises x → Cuts x
cuts x r =
    let ac : x.a < x.c = omega (arith, r.ab, r.bc) in
    let bd : x.b < x.d = omega (arith, r.bc, r.cd) in
    let ad : x.a < x.d = omega (arith, r.ab, r.bc, r.cd) in
    record {
      u01 = cut-up x.a x.b r.ab;
      u02 = cut-up x.a x.c ac;
      u03 = cut-up x.a x.d ad;
      u12 = cut-up x.b x.c r.bc;
      u13 = cut-up x.b x.d bd;
      u23 = cut-up x.c x.d r.cd;
      d01 = cut-down x.a x.b r.ab;
      d02 = cut-down x.a x.c ac;
      d03 = cut-down x.a x.d ad;
      d12 = cut-down x.b x.c r.bc;
      d13 = cut-down x.b x.d bd;
      d23 = cut-down x.c x.d r.cd;
    }

-- the kept solid of leaves that ascend
abbrev solid_of : Bool → Bool → Bool → Bool → Four → List Vertex
solid_of p q r s x = kept_solid (kept (p ∷ q ∷ r ∷ s ∷ []) (four x)) (kept (map not (p ∷ q ∷ r ∷ s ∷ [])) (four x))

solid-at : (p q r s : Bool) (x : Four) → Cuts x → solid_of p q r s x ≡ map (vertex_at x) (solid p q r s)
solid-at false false false false x k = refl
solid-at true false false false x k = λ i. Corner x.a ∷ k.u01 i ∷ k.u02 i ∷ k.u03 i ∷ []
solid-at false true false false x k = λ i. Corner x.b ∷ k.d01 i ∷ k.u12 i ∷ k.u13 i ∷ []
solid-at false false true false x k = λ i. Corner x.c ∷ k.d02 i ∷ k.d12 i ∷ k.u23 i ∷ []
solid-at false false false true x k = λ i. Corner x.d ∷ k.d03 i ∷ k.d13 i ∷ k.d23 i ∷ []
solid-at true true false false x k = λ i. Corner x.a ∷ k.u02 i ∷ k.u03 i ∷ Corner x.b ∷ k.u12 i ∷ k.u13 i ∷ []
solid-at true false true false x k = λ i. Corner x.a ∷ k.u01 i ∷ k.u03 i ∷ Corner x.c ∷ k.d12 i ∷ k.u23 i ∷ []
solid-at true false false true x k = λ i. Corner x.a ∷ k.u01 i ∷ k.u02 i ∷ Corner x.d ∷ k.d13 i ∷ k.d23 i ∷ []
solid-at false true true false x k = λ i. Corner x.b ∷ k.d01 i ∷ k.u13 i ∷ Corner x.c ∷ k.d02 i ∷ k.u23 i ∷ []
solid-at false true false true x k = λ i. Corner x.b ∷ k.d01 i ∷ k.u12 i ∷ Corner x.d ∷ k.d03 i ∷ k.d23 i ∷ []
solid-at false false true true x k = λ i. Corner x.c ∷ k.d02 i ∷ k.d12 i ∷ Corner x.d ∷ k.d03 i ∷ k.d13 i ∷ []
solid-at true true true false x k = λ i. Corner x.a ∷ Corner x.b ∷ Corner x.c ∷ k.u03 i ∷ k.u13 i ∷ k.u23 i ∷ []
solid-at true true false true x k = λ i. Corner x.a ∷ Corner x.b ∷ Corner x.d ∷ k.u02 i ∷ k.u12 i ∷ k.d23 i ∷ []
solid-at true false true true x k = λ i. Corner x.a ∷ Corner x.c ∷ Corner x.d ∷ k.u01 i ∷ k.d12 i ∷ k.d13 i ∷ []
solid-at false true true true x k = λ i. Corner x.b ∷ Corner x.c ∷ Corner x.d ∷ k.d01 i ∷ k.d02 i ∷ k.d03 i ∷ []
solid-at true true true true x k = refl

-- the kept tetrahedra are those at the spots
pub tets-at : (p q r s : Bool) (x : Four) → Rises x → kept_tets (p ∷ q ∷ r ∷ s ∷ []) (four x) ≡ map (map (vertex_at x)) (spot_tets p q r s)
tets-at p q r s x h =
    ap (λ l. in_order vertex_cmp (split vertex_cmp l)) (solid-at p q r s x (cuts x h))
    ∙ ap (in_order vertex_cmp) (split-map spot_cmp vertex_cmp (vertex_at x) (spots-keep x h) (solid p q r s))
    ∙ in_order-map spot_cmp vertex_cmp (vertex_at x) (spots-keep x h) (split spot_cmp (solid p q r s))

-- ---- rows

abbrev rows_of : Bool → Bool → Bool → Bool → Four → List (List Vertex)
rows_of p q r s x = rows Corner cut (kept (p ∷ q ∷ r ∷ s ∷ []) (four x)) (kept (map not (p ∷ q ∷ r ∷ s ∷ [])) (four x))

is_less : (a b : ℕ) → a < b → is_lt (nat_cmp a b) ≡ true
is_less a b h = grind (arith)

not_less : (a b : ℕ) → a < b → is_lt (nat_cmp b a) ≡ false
not_less a b h = grind (arith)

-- the row of two inside corners, whose order of the last two tetrahedra is known
two-up : (a b c d : ℕ) → a < c → rows Corner cut (a ∷ b ∷ []) (c ∷ d ∷ [])
    ≡ (Corner a ∷ Corner b ∷ cut b c ∷ cut b d ∷ []) ∷ (Corner a ∷ cut a c ∷ cut a d ∷ cut b d ∷ []) ∷ (Corner a ∷ cut a c ∷ cut b c ∷ cut b d ∷ []) ∷ []
two-up a b c d h =
    ap (λ t. (Corner a ∷ Corner b ∷ cut b c ∷ cut b d ∷ []) ∷ cond t ((Corner a ∷ cut a c ∷ cut a d ∷ cut b d ∷ []) ∷ (Corner a ∷ cut a c ∷ cut b c ∷ cut b d ∷ []) ∷ []) ((Corner a ∷ cut a c ∷ cut b c ∷ cut b d ∷ []) ∷ (Corner a ∷ cut a c ∷ cut a d ∷ cut b d ∷ []) ∷ [])) (is_less a c h)

two-down : (a b c d : ℕ) → c < a → rows Corner cut (a ∷ b ∷ []) (c ∷ d ∷ [])
    ≡ (Corner a ∷ Corner b ∷ cut b c ∷ cut b d ∷ []) ∷ (Corner a ∷ cut a c ∷ cut b c ∷ cut b d ∷ []) ∷ (Corner a ∷ cut a c ∷ cut a d ∷ cut b d ∷ []) ∷ []
two-down a b c d h =
    ap (λ t. (Corner a ∷ Corner b ∷ cut b c ∷ cut b d ∷ []) ∷ cond t ((Corner a ∷ cut a c ∷ cut a d ∷ cut b d ∷ []) ∷ (Corner a ∷ cut a c ∷ cut b c ∷ cut b d ∷ []) ∷ []) ((Corner a ∷ cut a c ∷ cut b c ∷ cut b d ∷ []) ∷ (Corner a ∷ cut a c ∷ cut a d ∷ cut b d ∷ []) ∷ [])) (not_less c a h)

rows-at : (p q r s : Bool) (x : Four) → Rises x → Cuts x → rows_of p q r s x ≡ map (map (vertex_at x)) (spot_tets p q r s)
rows-at false false false false x h k = refl
rows-at true false false false x h k = λ i. (Corner x.a ∷ k.u01 i ∷ k.u02 i ∷ k.u03 i ∷ []) ∷ []
rows-at false true false false x h k = λ i. (Corner x.b ∷ k.d01 i ∷ k.u12 i ∷ k.u13 i ∷ []) ∷ []
rows-at false false true false x h k = λ i. (Corner x.c ∷ k.d02 i ∷ k.d12 i ∷ k.u23 i ∷ []) ∷ []
rows-at false false false true x h k = λ i. (Corner x.d ∷ k.d03 i ∷ k.d13 i ∷ k.d23 i ∷ []) ∷ []
rows-at true true false false x h k =
    two-up x.a x.b x.c x.d (omega (arith, h.ab, h.bc))
    ∙ (λ i. (Corner x.a ∷ Corner x.b ∷ k.u12 i ∷ k.u13 i ∷ []) ∷ (Corner x.a ∷ k.u02 i ∷ k.u03 i ∷ k.u13 i ∷ []) ∷ (Corner x.a ∷ k.u02 i ∷ k.u12 i ∷ k.u13 i ∷ []) ∷ [])
rows-at true false true false x h k =
    two-up x.a x.c x.b x.d h.ab
    ∙ (λ i. (Corner x.a ∷ Corner x.c ∷ k.d12 i ∷ k.u23 i ∷ []) ∷ (Corner x.a ∷ k.u01 i ∷ k.u03 i ∷ k.u23 i ∷ []) ∷ (Corner x.a ∷ k.u01 i ∷ k.d12 i ∷ k.u23 i ∷ []) ∷ [])
rows-at true false false true x h k =
    two-up x.a x.d x.b x.c h.ab
    ∙ (λ i. (Corner x.a ∷ Corner x.d ∷ k.d13 i ∷ k.d23 i ∷ []) ∷ (Corner x.a ∷ k.u01 i ∷ k.u02 i ∷ k.d23 i ∷ []) ∷ (Corner x.a ∷ k.u01 i ∷ k.d13 i ∷ k.d23 i ∷ []) ∷ [])
rows-at false true true false x h k =
    two-down x.b x.c x.a x.d h.ab
    ∙ (λ i. (Corner x.b ∷ Corner x.c ∷ k.d02 i ∷ k.u23 i ∷ []) ∷ (Corner x.b ∷ k.d01 i ∷ k.d02 i ∷ k.u23 i ∷ []) ∷ (Corner x.b ∷ k.d01 i ∷ k.u13 i ∷ k.u23 i ∷ []) ∷ [])
rows-at false true false true x h k =
    two-down x.b x.d x.a x.c h.ab
    ∙ (λ i. (Corner x.b ∷ Corner x.d ∷ k.d03 i ∷ k.d23 i ∷ []) ∷ (Corner x.b ∷ k.d01 i ∷ k.d03 i ∷ k.d23 i ∷ []) ∷ (Corner x.b ∷ k.d01 i ∷ k.u12 i ∷ k.d23 i ∷ []) ∷ [])
rows-at false false true true x h k =
    two-down x.c x.d x.a x.b (omega (arith, h.ab, h.bc))
    ∙ (λ i. (Corner x.c ∷ Corner x.d ∷ k.d03 i ∷ k.d13 i ∷ []) ∷ (Corner x.c ∷ k.d02 i ∷ k.d03 i ∷ k.d13 i ∷ []) ∷ (Corner x.c ∷ k.d02 i ∷ k.d12 i ∷ k.d13 i ∷ []) ∷ [])
rows-at true true true false x h k =
    λ i. (Corner x.a ∷ Corner x.b ∷ Corner x.c ∷ k.u23 i ∷ []) ∷ (Corner x.a ∷ Corner x.b ∷ k.u13 i ∷ k.u23 i ∷ []) ∷ (Corner x.a ∷ k.u03 i ∷ k.u13 i ∷ k.u23 i ∷ []) ∷ []
rows-at true true false true x h k =
    λ i. (Corner x.a ∷ Corner x.b ∷ Corner x.d ∷ k.d23 i ∷ []) ∷ (Corner x.a ∷ Corner x.b ∷ k.u12 i ∷ k.d23 i ∷ []) ∷ (Corner x.a ∷ k.u02 i ∷ k.u12 i ∷ k.d23 i ∷ []) ∷ []
rows-at true false true true x h k =
    λ i. (Corner x.a ∷ Corner x.c ∷ Corner x.d ∷ k.d13 i ∷ []) ∷ (Corner x.a ∷ Corner x.c ∷ k.d12 i ∷ k.d13 i ∷ []) ∷ (Corner x.a ∷ k.u01 i ∷ k.d12 i ∷ k.d13 i ∷ []) ∷ []
rows-at false true true true x h k =
    λ i. (Corner x.b ∷ Corner x.c ∷ Corner x.d ∷ k.d03 i ∷ []) ∷ (Corner x.b ∷ Corner x.c ∷ k.d02 i ∷ k.d03 i ∷ []) ∷ (Corner x.b ∷ k.d01 i ∷ k.d02 i ∷ k.d03 i ∷ []) ∷ []
rows-at true true true true x h k = refl

-- the tetrahedra that are kept of leaves that ascend are those of the rows
rows-four : (p q r s : Bool) (x : Four) → Rises x → kept_tets (p ∷ q ∷ r ∷ s ∷ []) (four x) ≡ rows_of p q r s x
rows-four p q r s x h = tets-at p q r s x h ∙ sym (rows-at p q r s x h (cuts x h))

pub rises : (a b c d : ℕ) → IsStrictlySortedBy nat_cmp (a ∷ b ∷ c ∷ d ∷ []) → Rises (record { a = a; b = b; c = c; d = d })
rises a b c d s =
    let at : (k : ℕ) → k + 1 < 4 → nat_cmp (get_or (a ∷ b ∷ c ∷ d ∷ []) k 0) (get_or (a ∷ b ∷ c ∷ d ∷ []) (k + 1) 0) ≡ Less =
    λ k l. Less-from_sorted nat_cmp (a ∷ b ∷ c ∷ d ∷ []) k (k + 1) 0 s (omega arith) l in
    record { ab = below a b (at 0 (omega arith)); bc = below b c (at 1 (omega arith)); cd = below c d (at 2 (omega arith)) }
  where
    below : (j k : ℕ) → nat_cmp j k ≡ Less → j < k
    below j k h = grind (arith)

pub split-by_rows : (inside : List Bool) (leaves : List ℕ) → length inside ≡ 4 → length leaves ≡ 4 → IsStrictlySortedBy nat_cmp leaves
    → kept_tets inside leaves ≡ rows Corner cut (kept inside leaves) (kept (map not inside) leaves)
split-by_rows [] leaves n m s = absurd (omega arith)
split-by_rows (p ∷ []) leaves n m s = absurd (omega arith)
split-by_rows (p ∷ q ∷ []) leaves n m s = absurd (omega arith)
split-by_rows (p ∷ q ∷ r ∷ []) leaves n m s = absurd (omega arith)
split-by_rows (p ∷ q ∷ r ∷ t ∷ []) [] n m s = absurd (omega arith)
split-by_rows (p ∷ q ∷ r ∷ t ∷ []) (a ∷ []) n m s = absurd (omega arith)
split-by_rows (p ∷ q ∷ r ∷ t ∷ []) (a ∷ b ∷ []) n m s = absurd (omega arith)
split-by_rows (p ∷ q ∷ r ∷ t ∷ []) (a ∷ b ∷ c ∷ []) n m s = absurd (omega arith)
split-by_rows (p ∷ q ∷ r ∷ t ∷ []) (a ∷ b ∷ c ∷ d ∷ []) n m s = rows-four p q r t (record { a = a; b = b; c = c; d = d }) (rises a b c d s)
split-by_rows (p ∷ q ∷ r ∷ t ∷ []) (a ∷ b ∷ c ∷ d ∷ e ∷ rest) n m s = absurd (omega arith)
split-by_rows (p ∷ q ∷ r ∷ t ∷ u ∷ rest) leaves n m s = absurd (omega arith)
