-- The facets of the clip of an image: two tetrahedra have one, or it lies on the plane or on the
-- boundary.
use Rattle.std.proofs.Common.{◌≡◌, ℕ, zero, suc, ◌<◌, ◌≤◌, ◌==◌, Bool, true, false, ◌&&◌, ◌||◌, ◌⊎◌, inl, inr, ⊎_elim, List, [], ◌∷◌, length, get_or, cond, Less, is_lt, nat_eq, refl, sym, ap, ap₂, subst, ◌∙◌, true≢false, arith}
use Rattle.std.specs.List.{All, Contains, count_by, flat_map, list_all, list_any}
use Rattle.std.proofs.lemmas.Bool.Decides.{nat_tests}
use Rattle.std.proofs.lemmas.List.Elements.{All-nil, All-cons, All-contains, All-map, Contains-append_left, Contains-append_right, Contains-get_or}
use Rattle.std.proofs.lemmas.List.FromFn.{length-map-range_with_len}
use Rattle.viz_extent.specs.Extent.{Bounds, count_of}
use Rattle.viz_fraction.specs.declared.forms.Form.{Form}
use Rattle.viz_kuhn.specs.Cubes.{tetrahedra_of}
use Rattle.viz_kuhn.specs.Kuhn.{EdgesAreSteps, OnlyCorners}
use Rattle.viz_dataset.specs.Images.{ImageData}
use Rattle.viz_sheet.specs.PairNames.{AreNames}
use Rattle.viz_sheet.specs.Ranked.{leaf_names, names_at}
use Rattle.viz_sheet.specs.Sheet.{IsNamedCell, IsSheet, SheetData}
use Rattle.viz_sheet.proofs.KeptLemmas.{count_by-cons}
use Rattle.viz_sheet.proofs.MemberLemmas.{member_cases, no_member}
use Rattle.viz_meaning.specs.Tetrahedra.{leaf_points, point_of_leaf, tetrahedra_sheet}
use Rattle.viz_meaning.proofs.LeafCells.{leaf-names, leaves-sheet}
use Rattle.viz_meaning.proofs.ListLemmas.{contains-unmap}
use Rattle.viz_meaning.proofs.TetrahedraLemmas.{tetrahedra-cells}
use Rattle.viz_clip_meaning.specs.declared.vertex.Vertex.{Vertex}
use Rattle.viz_clip_meaning.specs.Vertices.{leaves_at, vertex_cmp}
use Rattle.viz_clip_meaning.specs.Clip.{AreTetrahedra, clipped_tets, tets_in}
use Rattle.viz_clip_meaning.specs.Solids.{kept_tets}
use Rattle.viz_clip_meaning.proofs.SpotLemmas.{Four, Rises, Spot, four, spot_cmp, spots-keep, vertex_at}
use Rattle.viz_grid_section.proofs.MembersLemmas.{length-map_of}
use Rattle.viz_grid_section.proofs.TetrahedraLemmas.{All-flat_map, are_tetrahedra}
use Rattle.viz_clip_law.specs.Facets.{FacetsLieInTwo, LiesInLone, has_facet, has_leaves, is_cut, lying, sharing}
use Rattle.viz_clip_law.proofs.CellFacets.{CellFour, cell-four, flags, is_in}
use Rattle.viz_clip_law.proofs.CountLemmas.{Found, wide, miss0, miss1, miss2, miss3, found}
use Rattle.viz_clip_law.proofs.FaceLemmas.{based, first_of, flat_of, of_first, of_missing, of_second, of_third, second_of, third_of, turned-at, turned-back, used-turned}
use Rattle.viz_clip_law.proofs.FacetLaw.{contains-flat, from-flat}
use Rattle.viz_clip_law.proofs.LeafLemmas.{flat-leaves, leaf0, leaf1, leaf2, leaf3}
use Rattle.viz_clip_law.proofs.MembersLemmas.{in-any}
use Rattle.viz_clip_law.proofs.SpotFacets.{AtSpots, at-spots, count-at, counted}
use Rattle.viz_clip_law.proofs.SpotTable.{Face, no0, no1, no2, no3, any3, ascends, count-law, flat, of0, of1, of2, of3, spot_count}
use Rattle.viz_surface_law.specs.Facets.{FacetsAreShared, is_on_boundary}
use Rattle.viz_surface_law.specs.Facets as grids
use Rattle.viz_clip_image.specs.Images.{ClipsOfImagesFit, ImagesAreSimple, TetrahedraDiffer}
use Rattle.viz_clip_image.proofs.BoundaryLemmas.{both, boundary-passes, tetrahedra-inner}
use Rattle.viz_clip_image.proofs.LeafLemmas.{cell-leaves, sharing-grid}

-- the tetrahedra of the clip of an image
abbrev image_clip : Form → ImageData → List (List Vertex)
image_clip f image = clipped_tets f (tetrahedra_sheet image)

-- whether all leaves of a facet lie on the boundary of the grid
abbrev is_outer : Bounds → List Vertex → Bool
is_outer b facet = is_on_boundary b (flat_map leaves_at facet)

-- ---- truth values and counts

or-cases : {A : Type 0} (p q r : Bool) → (p || (q || r)) ≡ true → (p ≡ true → A) → (q ≡ true → A) → (r ≡ true → A) → A
or-cases true q r e x y z = x refl
or-cases false true r e x y z = y refl
or-cases false false true e x y z = z refl
or-cases false false false e x y z = absurd (true≢false (sym e))

or-none : (p q r : Bool) → (p || (q || r)) ≡ false → (p ≡ false) × (q ≡ false) × (r ≡ false)
or-none false false false e = (refl, refl, refl)
or-none true q r e = absurd (true≢false e)
or-none false true r e = absurd (true≢false e)
or-none false false true e = absurd (true≢false e)

or-one : (p q : Bool) → (p || q) ≡ true → (p ≡ true) ⊎ (q ≡ true)
or-one true q e = inl refl
or-one false true e = inr refl
or-one false false e = absurd (true≢false (sym e))

or-first : (p q : Bool) → p ≡ true → (p || q) ≡ true
or-first true q e = refl
or-first false q e = absurd (true≢false (sym e))

or-second : (p q : Bool) → q ≡ true → (p || q) ≡ true
or-second true q e = refl
or-second false q e = e

above-zero : (n : ℕ) → 0 < n → (n == 0) ≡ false
above-zero n h = grind (arith, nat_tests)

count-some : {X : Type 0} (P : X → Bool) (xs : List X) (x : X) → Contains xs x → P x ≡ true → 0 < count_by P xs
count-some P [] x c e = absurd (no_member x c)
count-some P (y ∷ ys) x c e =
    ⊎_elim
    (λ s. omega (arith, count_by-cons P y ys, ap (λ b. cond {A = ℕ} b 1 0) (ap P s ∙ e)))
    (λ d. let rest = count-some P ys x d e in omega (arith, count_by-cons P y ys, rest))
    (member_cases y ys x c)

-- ---- an image's sheet

-- no two of its cells have the same leaves, and no facet lies in more than two
pub images-simple : TetrahedraDiffer → FacetsAreShared → ImagesAreSimple
images-simple differ shared image =
    record {
      once = λ p q r t pq qr rt. omega (arith, sharing-grid image (p ∷ q ∷ r ∷ t ∷ []), differ image.extent p q r t pq qr rt);
      twice = λ p q r pq qr. omega (arith, sharing-grid image (p ∷ q ∷ r ∷ []), most image.extent p q r pq qr);
    }
  where
    most : (b : Bounds) (p q r : ℕ) → p < q → q < r → grids.sharing b (p ∷ q ∷ r ∷ []) ≤ 2
    most b p q r pq qr = at (grids.sharing b (p ∷ q ∷ r ∷ [])) refl
      where
        at : (n : ℕ) → grids.sharing b (p ∷ q ∷ r ∷ []) ≡ n → grids.sharing b (p ∷ q ∷ r ∷ []) ≤ 2
        at zero e = omega (arith, e)
        at (suc n) e = ⊎_elim (λ two. omega (arith, two)) (λ one. omega (arith, one)) (shared b p q r pq qr (omega (arith, e))).0

-- each cell has four names
are-tetrahedra : (image : ImageData) → AreTetrahedra (tetrahedra_sheet image)
are-tetrahedra image =
    let b = image.extent in
    let names = leaf_names (count_of b) in
    record {
      each =
          All-map (λ (cell : List (List ℕ)). length cell ≡ 4) (names_at names) (tetrahedra_of b)
          (λ k d less. length-map_of (λ r. get_or names r []) (get_or (tetrahedra_of b) k d) ∙ (are_tetrahedra b k d less).four);
    }

-- ---- vertices at spots of four leaves

module _ (u v w : Vertex) where
  abbrev leaves : List ℕ
  leaves = flat_map leaves_at (u ∷ v ∷ w ∷ [])

  of-u : (a : ℕ) → Contains (leaves_at u) a → Contains leaves a
  of-u a c = Contains-append_left (leaves_at u) (flat_map leaves_at (v ∷ w ∷ [])) a c

  of-v : (a : ℕ) → Contains (leaves_at v) a → Contains leaves a
  of-v a c = Contains-append_right (leaves_at u) (flat_map leaves_at (v ∷ w ∷ [])) a (Contains-append_left (leaves_at v) (flat_map leaves_at (w ∷ [])) a c)

  of-w : (a : ℕ) → Contains (leaves_at w) a → Contains leaves a
  of-w a c =
      Contains-append_right (leaves_at u) (flat_map leaves_at (v ∷ w ∷ [])) a
      (Contains-append_right (leaves_at v) (flat_map leaves_at (w ∷ [])) a (Contains-append_left (leaves_at w) [] a c))

  module _ (x : Four) (i j k : Spot) (eu : vertex_at x i ≡ u) (ev : vertex_at x j ≡ v) (ew : vertex_at x k ≡ w) where
    -- a corner that a spot has is a leaf of the facet
    used : (of : Spot → Bool) (a : ℕ) → ((s : Spot) → of s ≡ true → Contains (leaves_at (vertex_at x s)) a) → any3 of i j k ≡ true → Contains leaves a
    used of a has e =
        or-cases (of i) (of j) (of k) e
        (λ h. of-u a (subst (λ z. Contains (leaves_at z) a) eu (has i h)))
        (λ h. of-v a (subst (λ z. Contains (leaves_at z) a) ev (has j h)))
        (λ h. of-w a (subst (λ z. Contains (leaves_at z) a) ew (has k h)))

    used0 : any3 of0 i j k ≡ true → Contains leaves x.a
    used0 = used of0 x.a (leaf0 x)

    used1 : any3 of1 i j k ≡ true → Contains leaves x.b
    used1 = used of1 x.b (leaf1 x)

    used2 : any3 of2 i j k ≡ true → Contains leaves x.c
    used2 = used of2 x.c (leaf2 x)

    used3 : any3 of3 i j k ≡ true → Contains leaves x.d
    used3 = used of3 x.d (leaf3 x)

face-rises : (face : Face) (x : Four) → Rises x → (first_of face x < second_of face x) × (second_of face x < third_of face x)
face-rises no0 x h = (h.bc, h.cd)
face-rises no1 x h = (omega (arith, h.ab, h.bc), h.cd)
face-rises no2 x h = (h.ab, omega (arith, h.bc, h.cd))
face-rises no3 x h = (h.ab, h.bc)

face-in : (face : Face) (x : Four) → Contains (four x) (first_of face x) × Contains (four x) (second_of face x) × Contains (four x) (third_of face x)
face-in no0 x = ((1, omega arith, refl), (2, omega arith, refl), (3, omega arith, refl))
face-in no1 x = ((0, omega arith, refl), (2, omega arith, refl), (3, omega arith, refl))
face-in no2 x = ((0, omega arith, refl), (1, omega arith, refl), (3, omega arith, refl))
face-in no3 x = ((0, omega arith, refl), (1, omega arith, refl), (2, omega arith, refl))

spots-up : (x : Four) → Rises x → (i j : Spot) (u v : Vertex) → vertex_at x i ≡ u → vertex_at x j ≡ v → vertex_cmp u v ≡ Less → is_lt (spot_cmp i j) ≡ true
spots-up x h i j u v eu ev less = ap is_lt (sym (spots-keep x h i j) ∙ ap₂ vertex_cmp eu ev ∙ less)

three-all : (P : ℕ → Type 0) (p q r : ℕ) → P p → P q → P r → All P (p ∷ q ∷ r ∷ [])
three-all P p q r a b c = All-cons P p (q ∷ r ∷ []) a (All-cons P q (r ∷ []) b (All-cons P r [] c (All-nil P)))

-- ---- the law

module _ (only : OnlyCorners) (steps : EdgesAreSteps) (shared : FacetsAreShared) (f : Form) (image : ImageData) (u v w : Vertex)
    (uv : vertex_cmp u v ≡ Less) (vw : vertex_cmp v w ≡ Less) where
  abbrev b : Bounds
  b = image.extent

  abbrev s : SheetData
  s = tetrahedra_sheet image

  abbrev facet : List Vertex
  facet = u ∷ v ∷ w ∷ []

  pub sheet : IsSheet s
  sheet = leaves-sheet (count_of b) (leaf_points image) (tetrahedra_of b) (length-map-range_with_len (point_of_leaf image) 0 (count_of b)) (tetrahedra-cells only steps b)

  pub names : AreNames 1 s.names
  names = leaf-names (count_of b) (leaf_points image) (tetrahedra_of b)

  -- the facet of the grid in which a lone one lies is on the boundary
  lone-outer : LiesInLone s facet → is_outer b facet ≡ true
  lone-outer l =
      let p = l.p in
      let q = l.q in
      let r = l.r in
      let three = p ∷ q ∷ r ∷ [] in
      let one = sym (sharing-grid image three) ∙ l.lone in
      let on = (shared b p q r l.pq l.qr (omega (arith, one))).1.0 one in
      boundary-passes b three (flat_map leaves_at facet) (All-flat_map (Contains three) leaves_at facet l.leaves) on

  cell-of : (cell : List (List ℕ)) → Contains s.cells cell → CellFour f s cell
  cell-of cell c =
      cell-four f s cell (All-contains IsNamedCell s.cells cell sheet.each c) (All-contains (λ t. length t ≡ 4) s.cells cell (are-tetrahedra image).each c)
      (λ i d l. All-contains (λ m. length m ≡ 1) s.names (get_or cell i d) names.sized ((sheet.used (get_or cell i d)).1 (contains-flat s.cells cell (get_or cell i d) c (Contains-get_or cell i d l))))

  module _ (outer : is_outer b facet ≡ true) (cell : List (List ℕ)) (among : Contains s.cells cell) (c : CellFour f s cell) (a : AtSpots c.x c.rises u v w) where
    abbrev x : Four
    x = c.x

    -- not all leaves of the cell are on the boundary
    not-all : any3 of0 a.i a.j a.k ≡ true → any3 of1 a.i a.j a.k ≡ true → any3 of2 a.i a.j a.k ≡ true → any3 of3 a.i a.j a.k ≡ true → ⊥
    not-all e0 e1 e2 e3 =
        let L = flat_map leaves_at facet in
        let named = names_at (leaf_names (count_of b)) in
        let from = contains-unmap named (tetrahedra_of b) cell among in
        let tet = from.0 in
        let within = All-contains (λ (t : List ℕ). All (λ leaf. leaf < count_of b) t) (tetrahedra_of b) tet (λ k d less. (are_tetrahedra b k d less).within) from.1 in
        let own : flat_map (λ (n : List ℕ). n) cell ≡ tet = ap (flat_map (λ (n : List ℕ). n)) (sym from.2) ∙ cell-leaves b tet within in
        let all_four : All (Contains L) (four x) =
        All-cons (Contains L) x.a (x.b ∷ x.c ∷ x.d ∷ []) (used0 u v w x a.i a.j a.k a.is_u a.is_v a.is_w e0)
        (three-all (Contains L) x.b x.c x.d (used1 u v w x a.i a.j a.k a.is_u a.is_v a.is_w e1) (used2 u v w x a.i a.j a.k a.is_u a.is_v a.is_w e2) (used3 u v w x a.i a.j a.k a.is_u a.is_v a.is_w e3)) in
        let of_tet : All (Contains (four x)) tet = λ k d less. c.of (get_or tet k d) (subst (λ l. Contains l (get_or tet k d)) (sym own) (Contains-get_or tet k d less)) in
        All-contains (λ (t : List ℕ). is_on_boundary b t ≡ true → ⊥) (tetrahedra_of b) tet (tetrahedra-inner b) from.1
        (boundary-passes b (four x) tet of_tet (boundary-passes b L (four x) all_four outer))

    -- a facet on a face of the cell lies in it, and it lies in one cell alone
    on-face : (face : Face) → of_missing face a.i ≡ false → of_missing face a.j ≡ false → of_missing face a.k ≡ false
        → any3 (of_first face) a.i a.j a.k ≡ true → any3 (of_second face) a.i a.j a.k ≡ true → any3 (of_third face) a.i a.j a.k ≡ true → LiesInLone s facet
    on-face face mi mj mk one two three =
        let L = flat_map leaves_at facet in
        let p = first_of face x in
        let q = second_of face x in
        let r = third_of face x in
        let pqr = p ∷ q ∷ r ∷ [] in
        let i = flat_of face a.i in
        let j = flat_of face a.j in
        let k = flat_of face a.k in
        let ti = turned-back face a.i mi in
        let tj = turned-back face a.j mj in
        let tk = turned-back face a.k mk in
        let ui = used-turned face a.i mi in
        let uj = used-turned face a.j mj in
        let uk = used-turned face a.k mk in
        let y = based p q r in
        let rise = face-rises face x c.rises in
        let eu : vertex_at y i ≡ u = sym (turned-at face x i ti.1) ∙ ap (vertex_at x) ti.0 ∙ a.is_u in
        let ev : vertex_at y j ≡ v = sym (turned-at face x j tj.1) ∙ ap (vertex_at x) tj.0 ∙ a.is_v in
        let ew : vertex_at y k ≡ w = sym (turned-at face x k tk.1) ∙ ap (vertex_at x) tk.0 ∙ a.is_w in
        let first : any3 of0 i j k ≡ true = ap₂ (λ m n. m || n) ui.0 (ap₂ (λ m n. m || n) uj.0 uk.0) ∙ one in
        let second : any3 of1 i j k ≡ true = ap₂ (λ m n. m || n) ui.1 (ap₂ (λ m n. m || n) uj.1 uk.1) ∙ two in
        let third : any3 of2 i j k ≡ true = ap₂ (λ m n. m || n) ui.2 (ap₂ (λ m n. m || n) uj.2 uk.2) ∙ three in
        let on : is_on_boundary b pqr ≡ true =
        boundary-passes b L pqr (three-all (Contains L) p q r (used0 u v w y i j k eu ev ew first) (used1 u v w y i j k eu ev ew second) (used2 u v w y i j k eu ev ew third)) outer in
        let own = flat_map (λ (n : List ℕ). n) cell in
        let any : ℕ → Bool = λ z. list_any (nat_eq z) own in
        let in_x = face-in face x in
        let has : has_leaves pqr cell ≡ true =
        both (any p) (any q && (any r && true)) (in-any p own (c.has p in_x.0)) (both (any q) (any r && true) (in-any q own (c.has q in_x.1)) (both (any r) true (in-any r own (c.has r in_x.2)) refl)) in
        let some : 0 < sharing s pqr = count-some (has_leaves pqr) s.cells cell among has in
        let same = sharing-grid image pqr in
        let of_three : (z : Vertex) (t : Spot) → vertex_at y t ≡ z → flat t ≡ true → All (Contains pqr) (leaves_at z) =
        λ z t e g. subst (λ m. All (Contains pqr) (leaves_at m)) e (flat-leaves p q r t g) in
        record {
          p = p;
          q = q;
          r = r;
          pq = rise.0;
          qr = rise.1;
          lone = same ∙ (shared b p q r rise.0 rise.1 (omega (arith, same, some))).1.1 on;
          leaves =
              All-cons (λ z. All (Contains pqr) (leaves_at z)) u (v ∷ w ∷ []) (of_three u i eu ti.1)
              (All-cons (λ z. All (Contains pqr) (leaves_at z)) v (w ∷ []) (of_three v j ev tj.1)
              (All-cons (λ z. All (Contains pqr) (leaves_at z)) w [] (of_three w k ew tk.1) (All-nil (λ z. All (Contains pqr) (leaves_at z)))));
        }

    by : {m n : Bool} → Found (any3 of0 a.i a.j a.k) (any3 of1 a.i a.j a.k) (any3 of2 a.i a.j a.k) (any3 of3 a.i a.j a.k) m n → LiesInLone s facet
    by (wide e0 e1 e2 e3 n) = absurd (not-all e0 e1 e2 e3)
    by (miss0 e0 e1 e2 e3 m) = let z = or-none (of0 a.i) (of0 a.j) (of0 a.k) e0 in on-face no0 z.0 z.1 z.2 e1 e2 e3
    by (miss1 e0 e1 e2 e3 m) = let z = or-none (of1 a.i) (of1 a.j) (of1 a.k) e1 in on-face no1 z.0 z.1 z.2 e0 e2 e3
    by (miss2 e0 e1 e2 e3 m) = let z = or-none (of2 a.i) (of2 a.j) (of2 a.k) e2 in on-face no2 z.0 z.1 z.2 e0 e1 e3
    by (miss3 e0 e1 e2 e3 m) = let z = or-none (of3 a.i) (of3 a.j) (of3 a.k) e3 in on-face no3 z.0 z.1 z.2 e0 e1 e2

  -- a facet of the clip whose leaves are on the boundary lies in a facet of one cell alone
  outer-lone : 0 < lying (image_clip f image) facet → is_outer b facet ≡ true → LiesInLone s facet
  outer-lone above outer =
      let some = counted (has_facet facet) (clipped_tets f s) above in
      let from = from-flat (tets_in f s) s.cells some.0 some.1 in
      let c = cell-of from.item from.among in
      let T = is_in f s in
      let own : 0 < lying (tets_in f s from.item) facet = count-some (has_facet facet) (tets_in f s from.item) some.0 from.gives some.2 in
      let here_too : 0 < lying (kept_tets (flags T c.x) (four c.x)) facet = subst (λ n. 0 < n) (ap (λ l. lying l facet) c.tets) own in
      let a = at-spots c.x c.rises (T c.x.a) (T c.x.b) (T c.x.c) (T c.x.d) u v w here_too in
      let same : vertex_at c.x a.i ∷ vertex_at c.x a.j ∷ vertex_at c.x a.k ∷ [] ≡ facet = λ z. a.is_u z ∷ a.is_v z ∷ a.is_w z ∷ [] in
      let n = spot_count (T c.x.a) (T c.x.b) (T c.x.c) (T c.x.d) a.i a.j a.k in
      let spots : 0 < n =
      subst (λ m. 0 < m) (ap (lying (kept_tets (flags T c.x) (four c.x))) (sym same) ∙ count-at c.x c.rises (T c.x.a) (T c.x.b) (T c.x.c) (T c.x.d) a.i a.j a.k) here_too in
      let up : ascends a.i a.j a.k ≡ true =
      both (is_lt (spot_cmp a.i a.j)) (is_lt (spot_cmp a.j a.k)) (spots-up c.x c.rises a.i a.j u v a.is_u a.is_v uv) (spots-up c.x c.rises a.j a.k v w a.is_v a.is_w vw) in
      by outer from.item from.among c a
      (found (ascends a.i a.j a.k) (n == 0) (any3 of0 a.i a.j a.k) (any3 of1 a.i a.j a.k) (any3 of2 a.i a.j a.k) (any3 of3 a.i a.j a.k) _ _
      up (above-zero n spots) (count-law (T c.x.a) (T c.x.b) (T c.x.c) (T c.x.d) a.i a.j a.k))

pub clips-fit : OnlyCorners → EdgesAreSteps → FacetsAreShared → FacetsLieInTwo → ImagesAreSimple → ClipsOfImagesFit
clips-fit only steps shared lie simple f image u v w uv vw above =
    let s = tetrahedra_sheet image in
    let facet = u ∷ v ∷ w ∷ [] in
    let cuts = list_all is_cut facet in
    let outer = is_outer image.extent facet in
    let general = lie f s u v w (sheet only steps shared f image u v w uv vw) (names only steps shared f image u v w uv vw) (are-tetrahedra image) (simple image) uv vw above in (
      general.0,
      (
        λ one. ⊎_elim (λ e. or-first cuts outer e) (λ l. or-second cuts outer (lone-outer only steps shared f image u v w uv vw l)) (general.1.0 one),
        λ e. general.1.1 (⊎_elim (λ h. inl h) (λ h. inr (outer-lone only steps shared f image u v w uv vw above h)) (or-one cuts outer e)),
      ),
    )
