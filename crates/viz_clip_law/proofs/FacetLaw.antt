-- Each facet of a clipped volume lies in two of its tetrahedra, or in one.
use Rattle.std.proofs.Common.{◌≡◌, ℕ, zero, suc, ◌+◌, ◌<◌, ◌≤◌, ◌==◌, Bool, true, false, not, ◌&&◌, ◌||◌, ◌⊎◌, inl, inr, ⊎_elim, List, [], ◌∷◌, ◌++◌, length, get_or, cond, Less, is_lt, nat_eq, refl, sym, ap, ap₂, subst, ◌∙◌, true≢false, arith, eqb-true}
use Rattle.std.specs.Prelude.{◌↔◌, IsTrue}
use Rattle.std.specs.List.{All, Contains, count_by, flat_map, list_all, list_any}
use Rattle.std.proofs.lemmas.Bool.{and_parts}
use Rattle.std.proofs.lemmas.Bool.Decides.{nat_tests}
use Rattle.std.proofs.lemmas.List.Elements.{All-nil, All-cons, All-contains, Contains-append_cases, Contains-append_left, Contains-append_right, Contains-get_or}
use Rattle.viz_fraction.specs.declared.forms.Form.{Form}
use Rattle.viz_sheet.specs.PairNames.{AreNames}
use Rattle.viz_sheet.specs.Sheet.{IsNamedCell, IsSheet, SheetData}
use Rattle.viz_sheet.proofs.KeptLemmas.{count_by-cons}
use Rattle.viz_sheet.proofs.MemberLemmas.{here, there, member_cases, no_member}
use Rattle.viz_clip_meaning.specs.declared.vertex.Vertex.{Vertex}
use Rattle.viz_clip_meaning.specs.Vertices.{leaves_at, vertex_cmp}
use Rattle.viz_clip_meaning.specs.Solids.{kept_tets}
use Rattle.viz_clip_meaning.specs.Clip.{AreTetrahedra, clipped_tets, tets_in}
use Rattle.viz_clip_meaning.proofs.SpotLemmas.{Four, Rises, Spot, four, spot_cmp, spots-keep, vertex_at}
use Rattle.viz_clip_law.specs.Facets.{FacetsLieInTwo, IsSimple, LiesInLone, has_facet, has_leaves, is_cut, lying, sharing}
use Rattle.viz_clip_law.proofs.CellFacets.{CellFour, cell-four, flags, is_in}
use Rattle.viz_clip_law.proofs.CountLemmas.{Found, wide, miss0, miss1, miss2, miss3, found, once-each, twice-each}
use Rattle.viz_clip_law.proofs.FaceLemmas.{based, based-rises, face-same, first_of, flat_of, missing_of, of_first, of_missing, of_second, of_third, second_of, third_of, turned-at, turned-back, used-turned}
use Rattle.viz_clip_law.proofs.LeafLemmas.{SameFour, cut-spot, flat-leaves, four-not, four-same, leaf0, leaf1, leaf2, leaf3, three-same}
use Rattle.viz_clip_law.proofs.MembersLemmas.{IsFace, any-in, in-any, leaves-in, sub-face}
use Rattle.viz_clip_law.proofs.SpotFacets.{AtSpots, at-spots, count-at, counted}
use Rattle.viz_clip_law.proofs.SpotTable.{Face, no0, no1, no2, no3, all_cuts, any3, ascends, count-law, cut_spot, face_count, flat, of0, of1, of2, of3, spot_count, turned_to}

abbrev facet_of : Vertex → Vertex → Vertex → List Vertex
facet_of u v w = u ∷ v ∷ w ∷ []

-- in how many tetrahedra of a cell a facet lies, by its leaves
abbrev cell_count : (ℕ → Bool) → Four → List Vertex → ℕ
cell_count T y facet = lying (kept_tets (flags T y) (four y)) facet

-- ---- truth values

or-cases : {A : Type 0} (p q r : Bool) → (p || (q || r)) ≡ true → (p ≡ true → A) → (q ≡ true → A) → (r ≡ true → A) → A
or-cases true q r e x y z = x refl
or-cases false true r e x y z = y refl
or-cases false false true e x y z = z refl
or-cases false false false e x y z = absurd (true≢false (sym e))

or-none : (p q r : Bool) → (p || (q || r)) ≡ false → (p ≡ false) × (q ≡ false) × (r ≡ false)
or-none false false false e = (refl, refl, refl)
or-none true q r e = absurd (true≢false e)
or-none false true r e = absurd (true≢false e)
or-none false false true e = absurd (true≢false e)

both : (p q : Bool) → p ≡ true → q ≡ true → (p && q) ≡ true
both true true a b = refl
both true false a b = absurd (true≢false (sym b))
both false q a b = absurd (true≢false (sym a))

not-true : (b : Bool) → not b ≡ true → b ≡ false
not-true true e = absurd (true≢false (sym e))
not-true false e = refl

above-zero : (n : ℕ) → 0 < n → (n == 0) ≡ false
above-zero n h = grind (arith, nat_tests)

none-is : (n : ℕ) → (0 < n → ⊥) → n ≡ 0
none-is zero h = refl
none-is (suc n) h = absurd (h (omega arith))

-- ---- members of flattened lists

pub contains-flat : {X : Type 0} (xss : List (List X)) (xs : List X) (x : X) → Contains xss xs → Contains xs x → Contains (flat_map (λ c. c) xss) x
contains-flat [] xs x c d = absurd (no_member xs c)
contains-flat (ys ∷ xss) xs x c d =
    ⊎_elim
    (λ e. Contains-append_left ys (flat_map (λ c. c) xss) x (subst (λ z. Contains z x) (sym e) d))
    (λ k. Contains-append_right ys (flat_map (λ c. c) xss) x (contains-flat xss xs x k d))
    (member_cases ys xss xs c)

pub record IsFrom {X Y : Type 0} (g : X → List Y) (xs : List X) (y : Y) : Type 0 where
  pub item : X
  pub among : Contains xs item
  pub gives : Contains (g item) y

pub from-flat : {X Y : Type 0} (g : X → List Y) (xs : List X) (y : Y) → Contains (flat_map g xs) y → IsFrom g xs y
from-flat g [] y c = absurd (no_member y c)
from-flat g (x ∷ xs) y c =
    ⊎_elim
    (λ d. record { item = x; among = here x xs; gives = d })
    (λ d. let rest = from-flat g xs y d in record { item = rest.item; among = there x xs rest.item rest.among; gives = rest.gives })
    (Contains-append_cases (g x) (flat_map g xs) y c)

count-some : {X : Type 0} (P : X → Bool) (xs : List X) (x : X) → Contains xs x → P x ≡ true → 0 < count_by P xs
count-some P [] x c e = absurd (no_member x c)
count-some P (y ∷ ys) x c e =
    ⊎_elim
    (λ s. omega (arith, count_by-cons P y ys, ap (λ b. cond {A = ℕ} b 1 0) (ap P s ∙ e)))
    (λ d. let rest = count-some P ys x d e in omega (arith, count_by-cons P y ys, rest))
    (member_cases y ys x c)

-- ---- facets on three leaves

-- three vertices at spots of three leaves, which they have all
record OnThree (T : ℕ → Bool) (u v w : Vertex) : Type 0 where
  p : ℕ
  q : ℕ
  r : ℕ
  pq : p < q
  qr : q < r
  i : Spot
  j : Spot
  k : Spot
  is_u : vertex_at (based p q r) i ≡ u
  is_v : vertex_at (based p q r) j ≡ v
  is_w : vertex_at (based p q r) k ≡ w
  flat_i : flat i ≡ true
  flat_j : flat j ≡ true
  flat_k : flat k ≡ true
  used0 : any3 of0 i j k ≡ true
  used1 : any3 of1 i j k ≡ true
  used2 : any3 of2 i j k ≡ true
  up : ascends i j k ≡ true
  one : spot_count (T p) (T q) (T r) false i j k ≡ 1
  cuts : all_cuts i j k ≡ false

turned-count : (T : ℕ → Bool) (y : Four) (face : Face) (i j k : Spot)
    → spot_count (T y.a) (T y.b) (T y.c) (T y.d) (turned_to face i) (turned_to face j) (turned_to face k)
    ≡ face_count face (T (first_of face y)) (T (second_of face y)) (T (third_of face y)) (T (missing_of face y)) i j k
turned-count T y no0 i j k = refl
turned-count T y no1 i j k = refl
turned-count T y no2 i j k = refl
turned-count T y no3 i j k = refl

module _ (T : ℕ → Bool) (u v w : Vertex) (o : OnThree T u v w) where
  at-face : (y : Four) (fc : IsFace y o.p o.q o.r) (s : Spot) → flat s ≡ true → vertex_at y (turned_to fc.face s) ≡ vertex_at (based o.p o.q o.r) s
  at-face y fc s e =
      turned-at fc.face y s e
      ∙ ap (λ a. vertex_at (based a (second_of fc.face y) (third_of fc.face y)) s) fc.first
      ∙ ap (λ b. vertex_at (based o.p b (third_of fc.face y)) s) fc.second
      ∙ ap (λ c. vertex_at (based o.p o.q c) s) fc.third

  -- in a cell that has the three leaves it lies once
  three-has : (y : Four) → Rises y → Contains (four y) o.p → Contains (four y) o.q → Contains (four y) o.r → cell_count T y (facet_of u v w) ≡ 1
  three-has y h cp cq cr =
      let fc = sub-face y o.p o.q o.r h o.pq o.qr cp cq cr in
      let g = fc.face in
      let eu = at-face y fc o.i o.flat_i ∙ o.is_u in
      let ev = at-face y fc o.j o.flat_j ∙ o.is_v in
      let ew = at-face y fc o.k o.flat_k ∙ o.is_w in
      let same : facet_of (vertex_at y (turned_to g o.i)) (vertex_at y (turned_to g o.j)) (vertex_at y (turned_to g o.k)) ≡ facet_of u v w = λ z. eu z ∷ ev z ∷ ew z ∷ [] in
      ap (cell_count T y) (sym same)
      ∙ count-at y h (T y.a) (T y.b) (T y.c) (T y.d) (turned_to g o.i) (turned_to g o.j) (turned_to g o.k)
      ∙ turned-count T y g o.i o.j o.k
      ∙ ap (λ a. face_count g (T a) (T (second_of g y)) (T (third_of g y)) (T (missing_of g y)) o.i o.j o.k) fc.first
      ∙ ap (λ b. face_count g (T o.p) (T b) (T (third_of g y)) (T (missing_of g y)) o.i o.j o.k) fc.second
      ∙ ap (λ c. face_count g (T o.p) (T o.q) (T c) (T (missing_of g y)) o.i o.j o.k) fc.third
      ∙ face-same g (T o.p) (T o.q) (T o.r) (T (missing_of g y)) o.i o.j o.k o.up
      (both (flat o.i) (flat o.j && flat o.k) o.flat_i (both (flat o.j) (flat o.k) o.flat_j o.flat_k))
      (both (any3 of0 o.i o.j o.k) (any3 of1 o.i o.j o.k && any3 of2 o.i o.j o.k) o.used0 (both (any3 of1 o.i o.j o.k) (any3 of2 o.i o.j o.k) o.used1 o.used2))
      ∙ o.one

  -- what holds of the leaves of each vertex holds of the three
  module _ (P : ℕ → Type 0) (hu : All P (leaves_at u)) (hv : All P (leaves_at v)) (hw : All P (leaves_at w)) where
    at-u : (a : ℕ) → Contains (leaves_at (vertex_at (based o.p o.q o.r) o.i)) a → P a
    at-u a c = All-contains P (leaves_at u) a hu (subst (λ z. Contains (leaves_at z) a) o.is_u c)

    at-v : (a : ℕ) → Contains (leaves_at (vertex_at (based o.p o.q o.r) o.j)) a → P a
    at-v a c = All-contains P (leaves_at v) a hv (subst (λ z. Contains (leaves_at z) a) o.is_v c)

    at-w : (a : ℕ) → Contains (leaves_at (vertex_at (based o.p o.q o.r) o.k)) a → P a
    at-w a c = All-contains P (leaves_at w) a hw (subst (λ z. Contains (leaves_at z) a) o.is_w c)

    of-p : P o.p
    of-p = or-cases (of0 o.i) (of0 o.j) (of0 o.k) o.used0 (λ e. at-u o.p (leaf0 (based o.p o.q o.r) o.i e)) (λ e. at-v o.p (leaf0 (based o.p o.q o.r) o.j e)) (λ e. at-w o.p (leaf0 (based o.p o.q o.r) o.k e))

    of-q : P o.q
    of-q = or-cases (of1 o.i) (of1 o.j) (of1 o.k) o.used1 (λ e. at-u o.q (leaf1 (based o.p o.q o.r) o.i e)) (λ e. at-v o.q (leaf1 (based o.p o.q o.r) o.j e)) (λ e. at-w o.q (leaf1 (based o.p o.q o.r) o.k e))

    of-r : P o.r
    of-r = or-cases (of2 o.i) (of2 o.j) (of2 o.k) o.used2 (λ e. at-u o.r (leaf2 (based o.p o.q o.r) o.i e)) (λ e. at-v o.r (leaf2 (based o.p o.q o.r) o.j e)) (λ e. at-w o.r (leaf2 (based o.p o.q o.r) o.k e))

  -- a cell in which it lies has the three leaves
  three-in : (P : ℕ → Type 0) → All P (leaves_at u) → All P (leaves_at v) → All P (leaves_at w) → P o.p × P o.q × P o.r
  three-in P hu hv hw = (of-p P hu hv hw, of-q P hu hv hw, of-r P hu hv hw)

-- the leaves of the vertices of a facet that lies in a cell are the cell's
leaves-of : (y : Four) (h : Rises y) (u v w : Vertex) → AtSpots y h u v w → All (Contains (four y)) (leaves_at u) × All (Contains (four y)) (leaves_at v) × All (Contains (four y)) (leaves_at w)
leaves-of y h u v w a = (
  subst (λ z. All (Contains (four y)) (leaves_at z)) a.is_u (leaves-in y a.i),
  subst (λ z. All (Contains (four y)) (leaves_at z)) a.is_v (leaves-in y a.j),
  subst (λ z. All (Contains (four y)) (leaves_at z)) a.is_w (leaves-in y a.k),
)

-- ---- a cell by its leaves

has-three-leaves : (f : Form) (s : SheetData) (cell : List (List ℕ)) (c : CellFour f s cell) (p q r : ℕ) → has_leaves (p ∷ q ∷ r ∷ []) cell ≡ true
    → Contains (four c.x) p × Contains (four c.x) q × Contains (four c.x) r
has-three-leaves f s cell c p q r e =
    let L = flat_map (λ n. n) cell in
    let any = λ (a : ℕ). list_any (nat_eq a) L in
    let one = and_parts (any p) (any q && (any r && true)) e in
    let two = and_parts (any q) (any r && true) one.1 in
    let three = and_parts (any r) true two.1 in
    (c.of p (any-in p L one.0), c.of q (any-in q L two.0), c.of r (any-in r L three.0))

three-leaves : (f : Form) (s : SheetData) (cell : List (List ℕ)) (c : CellFour f s cell) (p q r : ℕ) → Contains (four c.x) p → Contains (four c.x) q → Contains (four c.x) r → has_leaves (p ∷ q ∷ r ∷ []) cell ≡ true
three-leaves f s cell c p q r a b d =
    let L = flat_map (λ n. n) cell in
    let any = λ (z : ℕ). list_any (nat_eq z) L in
    both (any p) (any q && (any r && true)) (in-any p L (c.has p a)) (both (any q) (any r && true) (in-any q L (c.has q b)) (both (any r) true (in-any r L (c.has r d)) refl))

has-four-leaves : (f : Form) (s : SheetData) (cell : List (List ℕ)) (c : CellFour f s cell) (p q r t : ℕ) → has_leaves (p ∷ q ∷ r ∷ t ∷ []) cell ≡ true
    → Contains (four c.x) p × Contains (four c.x) q × Contains (four c.x) r × Contains (four c.x) t
has-four-leaves f s cell c p q r t e =
    let L = flat_map (λ n. n) cell in
    let any = λ (a : ℕ). list_any (nat_eq a) L in
    let one = and_parts (any p) (any q && (any r && (any t && true))) e in
    let two = and_parts (any q) (any r && (any t && true)) one.1 in
    let three = and_parts (any r) (any t && true) two.1 in
    let four_th = and_parts (any t) true three.1 in
    (c.of p (any-in p L one.0), c.of q (any-in q L two.0), c.of r (any-in r L three.0), c.of t (any-in t L four_th.0))

four-leaves : (f : Form) (s : SheetData) (cell : List (List ℕ)) (c : CellFour f s cell) (p q r t : ℕ) → Contains (four c.x) p → Contains (four c.x) q → Contains (four c.x) r → Contains (four c.x) t
    → has_leaves (p ∷ q ∷ r ∷ t ∷ []) cell ≡ true
four-leaves f s cell c p q r t a b d g =
    let L = flat_map (λ n. n) cell in
    let any = λ (z : ℕ). list_any (nat_eq z) L in
    both (any p) (any q && (any r && (any t && true))) (in-any p L (c.has p a))
    (both (any q) (any r && (any t && true)) (in-any q L (c.has q b)) (both (any r) (any t && true) (in-any r L (c.has r d)) (both (any t) true (in-any t L (c.has t g)) refl)))

-- ---- facets on three leaves, over all cells

in-cell : (f : Form) (s : SheetData) (cell : List (List ℕ)) (c : CellFour f s cell) (facet : List Vertex) → lying (tets_in f s cell) facet ≡ cell_count (is_in f s) c.x facet
in-cell f s cell c facet = ap (λ l. lying l facet) c.tets

three-cell : (f : Form) (s : SheetData) (u v w : Vertex) (o : OnThree (is_in f s) u v w) (cell : List (List ℕ)) (c : CellFour f s cell)
    → lying (tets_in f s cell) (facet_of u v w) ≡ cond (has_leaves (o.p ∷ o.q ∷ o.r ∷ []) cell) 1 0
three-cell f s u v w o cell c = at (has_leaves (o.p ∷ o.q ∷ o.r ∷ []) cell) refl
  where
    at : (b : Bool) → has_leaves (o.p ∷ o.q ∷ o.r ∷ []) cell ≡ b → lying (tets_in f s cell) (facet_of u v w) ≡ cond b 1 0
    at true e =
        let m = has-three-leaves f s cell c o.p o.q o.r e in
        in-cell f s cell c (facet_of u v w) ∙ three-has (is_in f s) u v w o c.x c.rises m.0 m.1 m.2
    at false e =
        none-is (lying (tets_in f s cell) (facet_of u v w)) (λ above.
        let T = is_in f s in
        let a = at-spots c.x c.rises (T c.x.a) (T c.x.b) (T c.x.c) (T c.x.d) u v w (subst (λ n. 0 < n) (in-cell f s cell c (facet_of u v w)) above) in
        let l = leaves-of c.x c.rises u v w a in
        let m = three-in T u v w o (Contains (four c.x)) l.0 l.1 l.2 in
        true≢false (sym (three-leaves f s cell c o.p o.q o.r m.0 m.1 m.2) ∙ e))

-- ---- facets of all four leaves

record OnFour (T : ℕ → Bool) (u v w : Vertex) : Type 0 where
  x : Four
  h : Rises x
  i : Spot
  j : Spot
  k : Spot
  is_u : vertex_at x i ≡ u
  is_v : vertex_at x j ≡ v
  is_w : vertex_at x k ≡ w
  used0 : any3 of0 i j k ≡ true
  used1 : any3 of1 i j k ≡ true
  used2 : any3 of2 i j k ≡ true
  used3 : any3 of3 i j k ≡ true
  count : spot_count (T x.a) (T x.b) (T x.c) (T x.d) i j k ≡ cond (all_cuts i j k) 1 2

module _ (T : ℕ → Bool) (u v w : Vertex) (o : OnFour T u v w) where
  facet-is : facet_of (vertex_at o.x o.i) (vertex_at o.x o.j) (vertex_at o.x o.k) ≡ facet_of u v w
  facet-is = λ z. o.is_u z ∷ o.is_v z ∷ o.is_w z ∷ []

  own-count : cell_count T o.x (facet_of u v w) ≡ cond (all_cuts o.i o.j o.k) 1 2
  own-count = ap (cell_count T o.x) (sym facet-is) ∙ count-at o.x o.h (T o.x.a) (T o.x.b) (T o.x.c) (T o.x.d) o.i o.j o.k ∙ o.count

  four-has : (y : Four) → Rises y → Contains (four y) o.x.a → Contains (four y) o.x.b → Contains (four y) o.x.c → Contains (four y) o.x.d → cell_count T y (facet_of u v w) ≡ cond (all_cuts o.i o.j o.k) 1 2
  four-has y k a b c d =
      let e = four-same o.x y o.h k a b c d in
      let is : y ≡ o.x = λ z. record { a = e.a z; b = e.b z; c = e.c z; d = e.d z } in
      ap (λ z. cell_count T z (facet_of u v w)) is ∙ own-count

  module _ (P : ℕ → Type 0) (hu : All P (leaves_at u)) (hv : All P (leaves_at v)) (hw : All P (leaves_at w)) where
    to-u : (a : ℕ) → Contains (leaves_at (vertex_at o.x o.i)) a → P a
    to-u a c = All-contains P (leaves_at u) a hu (subst (λ z. Contains (leaves_at z) a) o.is_u c)

    to-v : (a : ℕ) → Contains (leaves_at (vertex_at o.x o.j)) a → P a
    to-v a c = All-contains P (leaves_at v) a hv (subst (λ z. Contains (leaves_at z) a) o.is_v c)

    to-w : (a : ℕ) → Contains (leaves_at (vertex_at o.x o.k)) a → P a
    to-w a c = All-contains P (leaves_at w) a hw (subst (λ z. Contains (leaves_at z) a) o.is_w c)

    four-in : P o.x.a × P o.x.b × P o.x.c × P o.x.d
    four-in = (
      or-cases (of0 o.i) (of0 o.j) (of0 o.k) o.used0 (λ e. to-u o.x.a (leaf0 o.x o.i e)) (λ e. to-v o.x.a (leaf0 o.x o.j e)) (λ e. to-w o.x.a (leaf0 o.x o.k e)),
      or-cases (of1 o.i) (of1 o.j) (of1 o.k) o.used1 (λ e. to-u o.x.b (leaf1 o.x o.i e)) (λ e. to-v o.x.b (leaf1 o.x o.j e)) (λ e. to-w o.x.b (leaf1 o.x o.k e)),
      or-cases (of2 o.i) (of2 o.j) (of2 o.k) o.used2 (λ e. to-u o.x.c (leaf2 o.x o.i e)) (λ e. to-v o.x.c (leaf2 o.x o.j e)) (λ e. to-w o.x.c (leaf2 o.x o.k e)),
      or-cases (of3 o.i) (of3 o.j) (of3 o.k) o.used3 (λ e. to-u o.x.d (leaf3 o.x o.i e)) (λ e. to-v o.x.d (leaf3 o.x o.j e)) (λ e. to-w o.x.d (leaf3 o.x o.k e)),
    )

four-cell : (f : Form) (s : SheetData) (u v w : Vertex) (o : OnFour (is_in f s) u v w) (cell : List (List ℕ)) (c : CellFour f s cell)
    → lying (tets_in f s cell) (facet_of u v w) ≡ cond (has_leaves (o.x.a ∷ o.x.b ∷ o.x.c ∷ o.x.d ∷ []) cell) (cond (all_cuts o.i o.j o.k) 1 2) 0
four-cell f s u v w o cell c = at (has_leaves (o.x.a ∷ o.x.b ∷ o.x.c ∷ o.x.d ∷ []) cell) refl
  where
    at : (b : Bool) → has_leaves (o.x.a ∷ o.x.b ∷ o.x.c ∷ o.x.d ∷ []) cell ≡ b → lying (tets_in f s cell) (facet_of u v w) ≡ cond b (cond (all_cuts o.i o.j o.k) 1 2) 0
    at true e =
        let m = has-four-leaves f s cell c o.x.a o.x.b o.x.c o.x.d e in
        in-cell f s cell c (facet_of u v w) ∙ four-has (is_in f s) u v w o c.x c.rises m.0 m.1 m.2 m.3
    at false e =
        none-is (lying (tets_in f s cell) (facet_of u v w)) (λ above.
        let T = is_in f s in
        let a = at-spots c.x c.rises (T c.x.a) (T c.x.b) (T c.x.c) (T c.x.d) u v w (subst (λ n. 0 < n) (in-cell f s cell c (facet_of u v w)) above) in
        let l = leaves-of c.x c.rises u v w a in
        let m = four-in T u v w o (Contains (four c.x)) l.0 l.1 l.2 in
        true≢false (sym (four-leaves f s cell c o.x.a o.x.b o.x.c o.x.d m.0 m.1 m.2 m.3) ∙ e))

-- ---- which of both it is

face-rises : (face : Face) (x : Four) → Rises x → (first_of face x < second_of face x) × (second_of face x < third_of face x)
face-rises no0 x h = (h.bc, h.cd)
face-rises no1 x h = (omega (arith, h.ab, h.bc), h.cd)
face-rises no2 x h = (h.ab, omega (arith, h.bc, h.cd))
face-rises no3 x h = (h.ab, h.bc)

less-up : (x : Four) → Rises x → (i j : Spot) (u v : Vertex) → vertex_at x i ≡ u → vertex_at x j ≡ v → vertex_cmp u v ≡ Less → is_lt (spot_cmp i j) ≡ true
less-up x h i j u v eu ev l = ap is_lt (sym (spots-keep x h i j) ∙ ap₂ vertex_cmp eu ev ∙ l)

spots-up : (x : Four) → Rises x → (i j k : Spot) (u v w : Vertex) → vertex_at x i ≡ u → vertex_at x j ≡ v → vertex_at x k ≡ w → vertex_cmp u v ≡ Less → vertex_cmp v w ≡ Less → ascends i j k ≡ true
spots-up x h i j k u v w eu ev ew uv vw =
    both (is_lt (spot_cmp i j)) (is_lt (spot_cmp j k)) (less-up x h i j u v eu ev uv) (less-up x h j k v w ev ew vw)

spot-cut : (x : Four) (i : Spot) (u : Vertex) → vertex_at x i ≡ u → cut_spot i ≡ is_cut u
spot-cut x i u e = sym (cut-spot x i) ∙ ap is_cut e

module _ (T : ℕ → Bool) (x : Four) (h : Rises x) (u v w : Vertex) (uv : vertex_cmp u v ≡ Less) (vw : vertex_cmp v w ≡ Less) (a : AtSpots x h u v w) where
  abbrev own : ℕ
  own = spot_count (T x.a) (T x.b) (T x.c) (T x.d) a.i a.j a.k

  -- its spots are those of a face
  on-face : (face : Face) → of_missing face a.i ≡ false → of_missing face a.j ≡ false → of_missing face a.k ≡ false
      → any3 (of_first face) a.i a.j a.k ≡ true → any3 (of_second face) a.i a.j a.k ≡ true → any3 (of_third face) a.i a.j a.k ≡ true
      → own ≡ 1 → all_cuts a.i a.j a.k ≡ false → OnThree T u v w
  on-face face mi mj mk one two three count cuts =
      let p = first_of face x in
      let q = second_of face x in
      let r = third_of face x in
      let i = flat_of face a.i in
      let j = flat_of face a.j in
      let k = flat_of face a.k in
      let ti = turned-back face a.i mi in
      let tj = turned-back face a.j mj in
      let tk = turned-back face a.k mk in
      let ui = used-turned face a.i mi in
      let uj = used-turned face a.j mj in
      let uk = used-turned face a.k mk in
      let b = based p q r in
      let rise = face-rises face x h in
      let eu : vertex_at b i ≡ u = sym (turned-at face x i ti.1) ∙ ap (vertex_at x) ti.0 ∙ a.is_u in
      let ev : vertex_at b j ≡ v = sym (turned-at face x j tj.1) ∙ ap (vertex_at x) tj.0 ∙ a.is_v in
      let ew : vertex_at b k ≡ w = sym (turned-at face x k tk.1) ∙ ap (vertex_at x) tk.0 ∙ a.is_w in
      let up = spots-up b (based-rises p q r rise.0 rise.1) i j k u v w eu ev ew uv vw in
      let first : any3 of0 i j k ≡ true = ap₂ (λ y z. y || z) ui.0 (ap₂ (λ y z. y || z) uj.0 uk.0) ∙ one in
      let second : any3 of1 i j k ≡ true = ap₂ (λ y z. y || z) ui.1 (ap₂ (λ y z. y || z) uj.1 uk.1) ∙ two in
      let third : any3 of2 i j k ≡ true = ap₂ (λ y z. y || z) ui.2 (ap₂ (λ y z. y || z) uj.2 uk.2) ∙ three in
      record {
        p = p;
        q = q;
        r = r;
        pq = rise.0;
        qr = rise.1;
        i = i;
        j = j;
        k = k;
        is_u = eu;
        is_v = ev;
        is_w = ew;
        flat_i = ti.1;
        flat_j = tj.1;
        flat_k = tk.1;
        used0 = first;
        used1 = second;
        used2 = third;
        up = up;
        one =
            sym (face-same face (T p) (T q) (T r) (T (missing_of face x)) i j k up
            (both (flat i) (flat j && flat k) ti.1 (both (flat j) (flat k) tj.1 tk.1))
            (both (any3 of0 i j k) (any3 of1 i j k && any3 of2 i j k) first (both (any3 of1 i j k) (any3 of2 i j k) second third)))
            ∙ sym (turned-count T x face i j k)
            ∙ ap (λ z. spot_count (T x.a) (T x.b) (T x.c) (T x.d) z (turned_to face j) (turned_to face k)) ti.0
            ∙ ap (λ z. spot_count (T x.a) (T x.b) (T x.c) (T x.d) a.i z (turned_to face k)) tj.0
            ∙ ap (λ z. spot_count (T x.a) (T x.b) (T x.c) (T x.d) a.i a.j z) tk.0
            ∙ count;
        cuts =
            ap₂ (λ y z. y && z) (spot-cut b i u eu ∙ sym (spot-cut x a.i u a.is_u))
            (ap₂ (λ y z. y && z) (spot-cut b j v ev ∙ sym (spot-cut x a.j v a.is_v)) (spot-cut b k w ew ∙ sym (spot-cut x a.k w a.is_w)))
            ∙ cuts;
      }

  -- a facet that lies in the cell has all its leaves, or those of a face
  which : 0 < own → OnFour T u v w ⊎ OnThree T u v w
  which above =
      let i = a.i in
      let j = a.j in
      let k = a.k in
      let up = spots-up x h i j k u v w a.is_u a.is_v a.is_w uv vw in
      by (found (ascends i j k) (own == 0) (any3 of0 i j k) (any3 of1 i j k) (any3 of2 i j k) (any3 of3 i j k) (own == cond (all_cuts i j k) 1 2) ((own == 1) && not (all_cuts i j k))
      up (above-zero own above) (count-law (T x.a) (T x.b) (T x.c) (T x.d) i j k))
    where
      lone : ((own == 1) && not (all_cuts a.i a.j a.k)) ≡ true → (own ≡ 1) × (all_cuts a.i a.j a.k ≡ false)
      lone m = let parts = and_parts (own == 1) (not (all_cuts a.i a.j a.k)) m in (eqb-true own 1 parts.0, not-true (all_cuts a.i a.j a.k) parts.1)

      by : Found (any3 of0 a.i a.j a.k) (any3 of1 a.i a.j a.k) (any3 of2 a.i a.j a.k) (any3 of3 a.i a.j a.k) (own == cond (all_cuts a.i a.j a.k) 1 2) ((own == 1) && not (all_cuts a.i a.j a.k))
          → OnFour T u v w ⊎ OnThree T u v w
      by (wide e0 e1 e2 e3 n) = inl (record {
        x = x;
        h = h;
        i = a.i;
        j = a.j;
        k = a.k;
        is_u = a.is_u;
        is_v = a.is_v;
        is_w = a.is_w;
        used0 = e0;
        used1 = e1;
        used2 = e2;
        used3 = e3;
        count = eqb-true own (cond (all_cuts a.i a.j a.k) 1 2) n;
      })
      by (miss0 e0 e1 e2 e3 m) = let z = or-none (of0 a.i) (of0 a.j) (of0 a.k) e0 in let l = lone m in inr (on-face no0 z.0 z.1 z.2 e1 e2 e3 l.0 l.1)
      by (miss1 e0 e1 e2 e3 m) = let z = or-none (of1 a.i) (of1 a.j) (of1 a.k) e1 in let l = lone m in inr (on-face no1 z.0 z.1 z.2 e0 e2 e3 l.0 l.1)
      by (miss2 e0 e1 e2 e3 m) = let z = or-none (of2 a.i) (of2 a.j) (of2 a.k) e2 in let l = lone m in inr (on-face no2 z.0 z.1 z.2 e0 e1 e3 l.0 l.1)
      by (miss3 e0 e1 e2 e3 m) = let z = or-none (of3 a.i) (of3 a.j) (of3 a.k) e3 in let l = lone m in inr (on-face no3 z.0 z.1 z.2 e0 e1 e2 l.0 l.1)

-- ---- the law

one_or_two : (n : ℕ) → 0 < n → n ≤ 2 → (n ≡ 2) ⊎ (n ≡ 1)
one_or_two zero above most = absurd (omega (arith, above))
one_or_two (suc zero) above most = inr refl
one_or_two (suc (suc zero)) above most = inl refl
one_or_two (suc (suc (suc n))) above most = absurd (omega (arith, most))

cuts-are : (b1 b2 b3 : Bool) → (b1 && (b2 && (b3 && true))) ≡ (b1 && (b2 && b3))
cuts-are true true true = refl
cuts-are true true false = refl
cuts-are true false b3 = refl
cuts-are false b2 b3 = refl

module _ (f : Form) (s : SheetData) (u v w : Vertex) (sheet : IsSheet s) (names : AreNames 1 s.names) (tetrahedra : AreTetrahedra s) (simple : IsSimple s)
    (uv : vertex_cmp u v ≡ Less) (vw : vertex_cmp v w ≡ Less) where
  abbrev facet : List Vertex
  facet = facet_of u v w

  abbrev total : ℕ
  total = lying (clipped_tets f s) facet

  abbrev Law : Type 0
  Law = ((total ≡ 2) ⊎ (total ≡ 1)) × ((total ≡ 1) ↔ (IsTrue (list_all is_cut facet) ⊎ LiesInLone s facet))

  cell-of : (cell : List (List ℕ)) → Contains s.cells cell → CellFour f s cell
  cell-of cell c =
      cell-four f s cell (All-contains IsNamedCell s.cells cell sheet.each c) (All-contains (λ t. length t ≡ 4) s.cells cell tetrahedra.each c)
      (λ i d l. All-contains (λ m. length m ≡ 1) s.names (get_or cell i d) names.sized ((sheet.used (get_or cell i d)).1 (contains-flat s.cells cell (get_or cell i d) c (Contains-get_or cell i d l))))

  all-cut : (x : Four) (i j k : Spot) → vertex_at x i ≡ u → vertex_at x j ≡ v → vertex_at x k ≡ w → all_cuts i j k ≡ list_all is_cut facet
  all-cut x i j k eu ev ew =
      ap₂ (λ y z. y && z) (spot-cut x i u eu) (ap₂ (λ y z. y && z) (spot-cut x j v ev) (spot-cut x k w ew)) ∙ sym (cuts-are (is_cut u) (is_cut v) (is_cut w))

  on-three : 0 < total → OnThree (is_in f s) u v w → Law
  on-three above o =
      let shares = sharing s (o.p ∷ o.q ∷ o.r ∷ []) in
      let same : total ≡ shares =
      once-each (has_leaves (o.p ∷ o.q ∷ o.r ∷ [])) (has_facet facet) (tets_in f s) s.cells (λ cell c. three-cell f s u v w o cell (cell-of cell c)) in
      let most = simple.twice o.p o.q o.r o.pq o.qr in
      let none : list_all is_cut facet ≡ false = sym (all-cut (based o.p o.q o.r) o.i o.j o.k o.is_u o.is_v o.is_w) ∙ o.cuts in
      let of_three : (b : Spot) (z : Vertex) → vertex_at (based o.p o.q o.r) b ≡ z → flat b ≡ true → All (Contains (o.p ∷ o.q ∷ o.r ∷ [])) (leaves_at z) =
      λ b z e g. subst (λ y. All (Contains (o.p ∷ o.q ∷ o.r ∷ [])) (leaves_at y)) e (flat-leaves o.p o.q o.r b g) in (
        one_or_two total above (omega (arith, same, most)),
        (
          λ e. inr (record {
            p = o.p;
            q = o.q;
            r = o.r;
            pq = o.pq;
            qr = o.qr;
            lone = sym same ∙ e;
            leaves =
                All-cons (λ z. All (Contains (o.p ∷ o.q ∷ o.r ∷ [])) (leaves_at z)) u (v ∷ w ∷ []) (of_three o.i u o.is_u o.flat_i)
                (All-cons (λ z. All (Contains (o.p ∷ o.q ∷ o.r ∷ [])) (leaves_at z)) v (w ∷ []) (of_three o.j v o.is_v o.flat_j)
                (All-cons (λ z. All (Contains (o.p ∷ o.q ∷ o.r ∷ [])) (leaves_at z)) w [] (of_three o.k w o.is_w o.flat_k) (All-nil (λ z. All (Contains (o.p ∷ o.q ∷ o.r ∷ [])) (leaves_at z)))));
          }),
          λ e. ⊎_elim
              (λ cuts. absurd (true≢false (sym cuts ∙ none)))
              (λ l.
              let m = three-in (is_in f s) u v w o (Contains (l.p ∷ l.q ∷ l.r ∷ [])) (l.leaves 0 u (omega arith)) (l.leaves 1 u (omega arith)) (l.leaves 2 u (omega arith)) in
              let t = three-same l.p l.q l.r o.p o.q o.r l.pq l.qr o.pq o.qr m.0 m.1 m.2 in
              same ∙ sym (ap (sharing s) (λ z. t.first z ∷ t.second z ∷ t.third z ∷ [])) ∙ l.lone) e,
        ),
      )

  on-four : 0 < total → OnFour (is_in f s) u v w → Law
  on-four above o = at (all_cuts o.i o.j o.k) refl
    where
      no-lone : LiesInLone s facet → ⊥
      no-lone l =
          let m = four-in (is_in f s) u v w o (Contains (l.p ∷ l.q ∷ l.r ∷ [])) (l.leaves 0 u (omega arith)) (l.leaves 1 u (omega arith)) (l.leaves 2 u (omega arith)) in
          four-not l.p l.q l.r o.x.a o.x.b o.x.c o.x.d l.pq l.qr o.h.ab o.h.bc o.h.cd m.0 m.1 m.2 m.3

      once : sharing s (four o.x) ≤ 1
      once = simple.once o.x.a o.x.b o.x.c o.x.d o.h.ab o.h.bc o.h.cd

      at : (b : Bool) → all_cuts o.i o.j o.k ≡ b → Law
      at true e =
          let same : total ≡ sharing s (four o.x) =
          once-each (has_leaves (four o.x)) (has_facet facet) (tets_in f s) s.cells
          (λ cell c. four-cell f s u v w o cell (cell-of cell c) ∙ ap (λ b. cond (has_leaves (four o.x) cell) (cond b 1 2) 0) e) in
          let is : total ≡ 1 = omega (arith, same, once, above) in
          (inr is, (λ _. inl (sym (all-cut o.x o.i o.j o.k o.is_u o.is_v o.is_w) ∙ e), λ _. is))
      at false e =
          let same : total ≡ sharing s (four o.x) + sharing s (four o.x) =
          twice-each (has_leaves (four o.x)) (has_facet facet) (tets_in f s) s.cells
          (λ cell c. four-cell f s u v w o cell (cell-of cell c) ∙ ap (λ b. cond (has_leaves (four o.x) cell) (cond b 1 2) 0) e) in
          let is : total ≡ 2 = omega (arith, same, once, above) in (
            inl is,
            (
              λ one. absurd (omega (arith, is, one)),
              λ r. ⊎_elim (λ cuts. absurd (true≢false (sym cuts ∙ sym (all-cut o.x o.i o.j o.k o.is_u o.is_v o.is_w) ∙ e))) (λ l. absurd (no-lone l)) r,
            ),
          )

  law : 0 < total → Law
  law above =
      let some = counted (has_facet facet) (clipped_tets f s) above in
      let from = from-flat (tets_in f s) s.cells some.0 some.1 in
      let c = cell-of from.item from.among in
      let T = is_in f s in
      let own : 0 < lying (tets_in f s from.item) facet = count-some (has_facet facet) (tets_in f s from.item) some.0 from.gives some.2 in
      let here_too : 0 < cell_count T c.x facet = subst (λ n. 0 < n) (in-cell f s from.item c facet) own in
      let a = at-spots c.x c.rises (T c.x.a) (T c.x.b) (T c.x.c) (T c.x.d) u v w here_too in
      let same : facet_of (vertex_at c.x a.i) (vertex_at c.x a.j) (vertex_at c.x a.k) ≡ facet = λ z. a.is_u z ∷ a.is_v z ∷ a.is_w z ∷ [] in
      let spots : 0 < spot_count (T c.x.a) (T c.x.b) (T c.x.c) (T c.x.d) a.i a.j a.k =
      subst (λ n. 0 < n) (ap (cell_count T c.x) (sym same) ∙ count-at c.x c.rises (T c.x.a) (T c.x.b) (T c.x.c) (T c.x.d) a.i a.j a.k) here_too in
      ⊎_elim (on-four above) (on-three above) (which T c.x c.rises u v w uv vw a spots)

pub facets-lie : FacetsLieInTwo
facets-lie f s u v w sheet names tetrahedra simple uv vw above = law f s u v w sheet names tetrahedra simple uv vw above
