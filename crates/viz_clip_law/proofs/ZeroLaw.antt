-- The form is 0 at each cut of a clipped volume.
use Rattle.std.proofs.Common.{◌≡◌, ℕ, zero, suc, ◌<◌, ℤ, pos, negsuc, Bool, true, false, not, ◌&&◌, ◌||◌, ⊎_elim, List, [], ◌∷◌, length, get_or, map, cond, Equal, is_eq, refl, sym, ap, ap₂, subst, ◌∙◌, true≢false, arith}
use Rattle.std.specs.Prelude.{IsTrue, ◌≤ℤ◌, ◌<ℤ◌, int_le}
use Rattle.std.specs.List.{All, Contains, flat_map, list_any}
use Rattle.std.proofs.lemmas.Cmp.{nat_cmp_total, tied_itself}
use Rattle.std.proofs.lemmas.Int.{ints}
use Rattle.std.proofs.lemmas.List.Elements.{All-contains, All-head, All-tail, Contains-get_or}
use borrow.Author.Differences.{true_is_le, false_is_le}
use Rattle.viz_fraction.specs.declared.forms.Form.{Form}
use Rattle.viz_fraction.specs.Points.{Point}
use Rattle.viz_fraction.specs.Forms.{value_of}
use Rattle.viz_fraction.specs.Crossings.{crossing_of, edge_crossing}
use Rattle.viz_fraction.proofs.ZerosLemmas.{crossing_zero}
use Rattle.viz_sheet.specs.PairNames.{AreNames}
use Rattle.viz_sheet.specs.Sheet.{IsNamedCell, IsSheet, SheetData}
use Rattle.viz_sheet.proofs.MemberLemmas.{member_cases}
use Rattle.viz_meaning.specs.Section.{is_inside_at, point_of, zero_point}
use Rattle.viz_meaning.proofs.ListLemmas.{contains-unmap}
use Rattle.viz_clip_meaning.specs.declared.vertex.Vertex.{Vertex}
use Rattle.viz_clip_meaning.specs.declared.vertex.Vertex.TheVariants.{Corner, Cut}
use Rattle.viz_clip_meaning.specs.Vertices.{vertex_cmp}
use Rattle.viz_clip_meaning.specs.Clip.{AreTetrahedra, clipped_tets, tets_in, vertex_point}
use Rattle.viz_clip_meaning.proofs.SetLemmas.{of-ascending}
use Rattle.viz_clip_meaning.proofs.SpotLemmas.{Four, Rises, Spot, c0, c1, c2, c3, e01, e02, e03, e12, e13, e23, four, spot_cmp, spot_id, spot_tets, tets-at, vertex_at, vertex_total}
use Rattle.viz_clip_law.specs.Facets.{is_cut}
use Rattle.viz_clip_law.specs.Zeros.{CutsAreZeros}
use Rattle.viz_clip_law.proofs.CellFacets.{CellFour, cell-four, flags, is_in}
use Rattle.viz_clip_law.proofs.FacetLaw.{IsFrom, contains-flat, from-flat}
use Rattle.viz_clip_law.proofs.SpotTable.{each_flag, each_spot, flag-each, spot-each}

-- ---- which spots are in kept tetrahedra

-- whether a cut's corners are inside and outside
abbrev is_between : Bool → Bool → Bool → Bool → Spot → Bool
is_between p q r s e01 = cond p (not q) q
is_between p q r s e02 = cond p (not r) r
is_between p q r s e03 = cond p (not s) s
is_between p q r s e12 = cond q (not r) r
is_between p q r s e13 = cond q (not s) s
is_between p q r s e23 = cond r (not s) s
is_between p q r s _ = true

abbrev is_in_tet : Spot → List Spot → Bool
is_in_tet b t = list_any (λ z. is_eq (spot_cmp b z)) t

abbrev spot_law : Bool → Bool → Bool → Bool → Spot → Bool
spot_law p q r s b = not (list_any (is_in_tet b) (spot_tets p q r s)) || is_between p q r s b

all-spots : each_flag (λ p. each_flag (λ q. each_flag (λ r. each_flag (λ s. each_spot (λ b. spot_law p q r s b))))) ≡ true
all-spots = refl

spot-law : (p q r s : Bool) (b : Spot) → spot_law p q r s b ≡ true
spot-law p q r s b =
    let x = flag-each (λ p. each_flag (λ q. each_flag (λ r. each_flag (λ s. each_spot (λ b. spot_law p q r s b))))) all-spots p in
    let y = flag-each (λ q. each_flag (λ r. each_flag (λ s. each_spot (λ b. spot_law p q r s b)))) x q in
    let z = flag-each (λ r. each_flag (λ s. each_spot (λ b. spot_law p q r s b))) y r in
    spot-each (λ b. spot_law p q r s b) (flag-each (λ s. each_spot (λ b. spot_law p q r s b)) z s) b

any-true : {X : Type 0} (P : X → Bool) (xs : List X) (x : X) → Contains xs x → P x ≡ true → list_any P xs ≡ true
any-true P [] x c e = absurd (omega (arith, c.1))
any-true P (y ∷ ys) x c e = ⊎_elim (λ s. front (P y) (list_any P ys) (ap P s ∙ e)) (λ d. back (P y) (list_any P ys) (any-true P ys x d e)) (member_cases y ys x c)
  where
    front : (p q : Bool) → p ≡ true → (p || q) ≡ true
    front true q h = refl
    front false q h = absurd (true≢false (sym h))

    back : (p q : Bool) → q ≡ true → (p || q) ≡ true
    back true q h = refl
    back false q h = h

then-true : (p q : Bool) → p ≡ true → (not p || q) ≡ true → q ≡ true
then-true true q e h = h
then-true false q e h = absurd (true≢false (sym e))

in-between : (p q r s : Bool) (b : Spot) (t : List Spot) → Contains (spot_tets p q r s) t → Contains t b → is_between p q r s b ≡ true
in-between p q r s b t ct cb =
    then-true (list_any (is_in_tet b) (spot_tets p q r s)) (is_between p q r s b)
    (any-true (is_in_tet b) (spot_tets p q r s) t ct (any-true (λ z. is_eq (spot_cmp b z)) t b cb (ap is_eq (tied_itself nat_cmp_total (spot_id b)))))
    (spot-law p q r s b)

-- ---- zeros

inside-of : (z : ℤ) → int_le (pos 0) z ≡ true → pos 0 ≤ℤ z
inside-of (pos n) e = omega (arith, ints)
inside-of (negsuc n) e = absurd (true≢false (sym e ∙ sym (false_is_le (pos 0) (negsuc n) (omega (arith, ints)))))

outside-of : (z : ℤ) → int_le (pos 0) z ≡ false → z <ℤ pos 0
outside-of (pos n) e = absurd (true≢false (true_is_le (pos 0) (pos n) (omega (arith, ints)) ∙ e))
outside-of (negsuc n) e = omega (arith, ints)

weight : (ps : List Point) → All (λ (p : Point). pos 0 <ℤ p.w) ps → (k : ℕ) → pos 0 <ℤ (get_or ps k zero_point).w
weight [] h k = omega (arith, ints)
weight (p ∷ ps) h zero = All-head (λ (q : Point). pos 0 <ℤ q.w) p ps h
weight (p ∷ ps) h (suc k) = weight ps (All-tail (λ (q : Point). pos 0 <ℤ q.w) p ps h) k

-- the crossing of an edge with one inside end is a zero
zero-at : (f : Form) (p q : Point) → pos 0 <ℤ p.w → pos 0 <ℤ q.w → cond (int_le (pos 0) (value_of f p)) (not (int_le (pos 0) (value_of f q))) (int_le (pos 0) (value_of f q)) ≡ true
    → value_of f (edge_crossing f p q) ≡ pos 0
zero-at f p q wp wq h = at (int_le (pos 0) (value_of f p)) (int_le (pos 0) (value_of f q)) refl refl h
  where
    at : (a b : Bool) → int_le (pos 0) (value_of f p) ≡ a → int_le (pos 0) (value_of f q) ≡ b → cond a (not b) b ≡ true → value_of f (edge_crossing f p q) ≡ pos 0
    at true true ea eb e = absurd (true≢false (sym e))
    at false false ea eb e = absurd (true≢false (sym e))
    at true false ea eb e =
        ap (λ t. value_of f (cond t (crossing_of (value_of f p) p (value_of f q) q) (crossing_of (value_of f q) q (value_of f p) p))) ea
        ∙ crossing_zero f p q wp wq (inside-of (value_of f p) ea) (outside-of (value_of f q) eb)
    at false true ea eb e =
        ap (λ t. value_of f (cond t (crossing_of (value_of f p) p (value_of f q) q) (crossing_of (value_of f q) q (value_of f p) p))) ea
        ∙ crossing_zero f q p wq wp (inside-of (value_of f q) eb) (outside-of (value_of f p) ea)

spot-zero : (f : Form) (s : SheetData) (x : Four) (b : Spot) → All (λ (p : Point). pos 0 <ℤ p.w) s.points → is_between (is_in f s x.a) (is_in f s x.b) (is_in f s x.c) (is_in f s x.d) b ≡ true
    → is_cut (vertex_at x b) ≡ true → value_of f (vertex_point f s (vertex_at x b)) ≡ pos 0
spot-zero f s x c0 w h e = absurd (true≢false (sym e))
spot-zero f s x c1 w h e = absurd (true≢false (sym e))
spot-zero f s x c2 w h e = absurd (true≢false (sym e))
spot-zero f s x c3 w h e = absurd (true≢false (sym e))
spot-zero f s x e01 w h e = zero-at f (point_of s (x.a ∷ [])) (point_of s (x.b ∷ [])) (weight s.points w _) (weight s.points w _) h
spot-zero f s x e02 w h e = zero-at f (point_of s (x.a ∷ [])) (point_of s (x.c ∷ [])) (weight s.points w _) (weight s.points w _) h
spot-zero f s x e03 w h e = zero-at f (point_of s (x.a ∷ [])) (point_of s (x.d ∷ [])) (weight s.points w _) (weight s.points w _) h
spot-zero f s x e12 w h e = zero-at f (point_of s (x.b ∷ [])) (point_of s (x.c ∷ [])) (weight s.points w _) (weight s.points w _) h
spot-zero f s x e13 w h e = zero-at f (point_of s (x.b ∷ [])) (point_of s (x.d ∷ [])) (weight s.points w _) (weight s.points w _) h
spot-zero f s x e23 w h e = zero-at f (point_of s (x.c ∷ [])) (point_of s (x.d ∷ [])) (weight s.points w _) (weight s.points w _) h

-- ---- the law

pub cuts-zero : CutsAreZeros
cuts-zero f s v sheet names tetrahedra weights among cut =
    let flat = from-flat (λ t. t) (clipped_tets f s) v (of-ascending vertex_total (flat_map (λ t. t) (clipped_tets f s)) v among) in
    let from = from-flat (tets_in f s) s.cells flat.item flat.among in
    let cell = from.item in
    let c : CellFour f s cell =
    cell-four f s cell (All-contains IsNamedCell s.cells cell sheet.each from.among) (All-contains (λ t. length t ≡ 4) s.cells cell tetrahedra.each from.among)
    (λ i d l. All-contains (λ m. length m ≡ 1) s.names (get_or cell i d) names.sized ((sheet.used (get_or cell i d)).1 (contains-flat s.cells cell (get_or cell i d) from.among (Contains-get_or cell i d l)))) in
    let T = is_in f s in
    let x = c.x in
    let named = c.tets ∙ tets-at (T x.a) (T x.b) (T x.c) (T x.d) x c.rises in
    let t = contains-unmap (map (vertex_at x)) (spot_tets (T x.a) (T x.b) (T x.c) (T x.d)) flat.item (subst (λ l. Contains l flat.item) named from.gives) in
    let b = contains-unmap (vertex_at x) t.0 v (subst (λ l. Contains l v) (sym t.2) flat.gives) in
    let is = in-between (T x.a) (T x.b) (T x.c) (T x.d) b.0 t.0 t.1 b.1 in
    ap (λ z. value_of f (vertex_point f s z)) (sym b.2) ∙ spot-zero f s x b.0 weights is (ap is_cut b.2 ∙ cut)
