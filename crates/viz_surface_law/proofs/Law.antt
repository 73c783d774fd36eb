-- The surface law.
use Rattle.viz_surface_law.proofs.Sharing.GridFacets.{place_again, three, itself, chain_flipped}
use Rattle.viz_surface_law.proofs.Sharing.ListCounts.{positive}
use Rattle.std.proofs.Common.{◌≡◌, ◌≢◌, ℕ, zero, suc, ◌+◌, ◌<◌, ◌≤◌, ◌==◌, Bool, true, false, not, cond, ◌&&◌, ◌||◌, true≢false, inl, inr, List, [], ◌∷◌, map, length, get_or, refl, sym, ap, ◌∙◌, arith}
use Rattle.std.specs.Prelude.{◌⊎◌, ◌↔◌, count_by, sum_by, IsTrue}
use Rattle.std.specs.List.{All, flat_map, list_any}
use Rattle.std.proofs.lemmas.Bool.{and_parts}
use Rattle.std.proofs.lemmas.List.Sums.{AllPass-from_list_all, sum_by-cons, get_or-le-sum_by}
use Rattle.viz_extent.specs.Extent.{Bounds}
use Rattle.viz_kuhn.specs.Kuhn.{Row, row, rows}
use Rattle.viz_kuhn.specs.Places.{Place, place, place_of}
use Rattle.viz_kuhn.specs.Cubes.{all_lowest, leaves_of}
use Rattle.viz_grid_section.specs.GridSection.{grid_cells}
use Rattle.viz_surface_law.specs.Sides.{Side, turned, sides_of, same_side, shares}
use Rattle.viz_surface_law.proofs.Cuts.{all_ends}
use Rattle.viz_surface_law.specs.Facets.{x_of, y_of, z_of}
use Rattle.viz_surface_law.specs.Closed.{on_boundary, run_through, LiesInTwo, LiesInOne, IsClosedUpToBoundary}
use Rattle.viz_surface_law.proofs.Cuts.{at_end_of}
use Rattle.viz_surface_law.proofs.Local.{both_ways}
use Rattle.viz_surface_law.proofs.Sharing.ListCounts.{sum_by-same, count_by-flat_map, by_test}
use Rattle.viz_surface_law.proofs.Sharing.CubeSums.{has_at}
use Rattle.viz_surface_law.proofs.Sharing.FacetTable.{Facet, facet, flipped, all_facets, other, facets_once, at_end, is_axis, axis_law, is_apart, all_apart}
use Rattle.viz_surface_law.proofs.Sharing.LeafFacets.{Leaves}
use Rattle.viz_surface_law.proofs.Cuts.{cut_of, cut_of_flip, cuts, Cuts, of_cut, IsOf, same_side-decides}
use Rattle.viz_surface_law.proofs.Sharing.GridFacets.{chains, In, leaf_at, facet_at, ascends, false_then, lowest_in, StandsAt, low_corner}
use Rattle.viz_surface_law.proofs.Total.{total, cuts_in, diags_in, diag_of, cuts_of_facet}
use Rattle.viz_surface_law.proofs.Diagonals.{Diags, IsIn, of_diag, diag_none}
use Rattle.viz_surface_law.proofs.DiagonalRows.{of_table, row_diags, diags_of_side}

-- ---- sums

sum_by-none : {X : Type 0} (f : X → ℕ) (xs : List X) → All (λ x. f x ≡ 0) xs → sum_by f xs ≡ 0
sum_by-none f xs each = sum_by-same f (λ x. 0) xs each ∙ zeros xs
  where
    zeros : {X : Type 0} (xs : List X) → sum_by (λ (x : X). 0) xs ≡ 0
    zeros [] = refl
    zeros {X} (x ∷ xs) = omega (arith, sum_by-cons (λ (y : X). 0) x xs, zeros xs)

-- how often triangles of the section run through a side
abbrev pub occ : Bounds → List Bool → Side → ℕ
occ b inside s = count_by (same_side s) (flat_map sides_of (grid_cells b inside))

-- ---- where a side lies

-- whether the facet of a side lies at an end of an axis
at_end_again : (coordinate : ℕ → ℕ) (lo hi : ℕ) (s : Side) (a b c p q r : ℕ) → IsOf s a b c
    → coordinate a ≡ p → coordinate b ≡ q → coordinate c ≡ r → at_end_of coordinate lo hi s ≡ at_end lo hi p q r
at_end_again coordinate lo hi s a b c p q r of ea eb ec =
    let test : ℕ → ℕ → Bool = λ e leaf. coordinate leaf == e in
    let one : (e : ℕ) → all_ends (test e) s ≡ ((p == e) && ((q == e) && (r == e))) =
    λ e. of.ends (test e) ∙ (λ t. (ea t == e) && ((eb t == e) && (ec t == e))) in
    λ t. one lo t || one hi t

-- there is a cube behind a facet just where its side isn't on the boundary
behind : (b : Bounds) (y : Place) (k : ℕ) (d : Facet) (s : Side) → k < length all_facets → In b y
    → let g = get_or all_facets k d in
    IsOf s (leaf_at b y g.a) (leaf_at b y g.b) (leaf_at b y g.c)
    → has_at b (other g).a (place_of y g.a) ≡ not (on_boundary b s)
behind b y k d s less iy of =
    let g = get_or all_facets k d in
    let o = (other g).a in
    let ch = chains k d less in
    let h = iy.has in
    let apart = AllPass-from_list_all is_apart all_facets all_apart k d less in
    let parts = and_parts (is_axis g.a.x g.b.x g.c.x o.x) _ apart in
    let more = and_parts (is_axis g.a.y g.b.y g.c.y o.y) (is_axis g.a.z g.b.z g.c.z o.z) parts.1 in
    let pa = place_again b y g.a iy ch.a in
    let pb = place_again b y g.b iy ch.b in
    let pc = place_again b y g.c iy ch.c in
    let X = axis_law g.a.x g.b.x g.c.x o.x parts.0 b.x0 b.x1 y.i h.x.at_least h.x.below ∙ ap not (sym (at_end_again (x_of b) b.x0 b.x1 s _ _ _ _ _ _ of pa.0 pb.0 pc.0)) in
    let Y = axis_law g.a.y g.b.y g.c.y o.y more.0 b.y0 b.y1 y.j h.y.at_least h.y.below ∙ ap not (sym (at_end_again (y_of b) b.y0 b.y1 s _ _ _ _ _ _ of pa.1 pb.1 pc.1)) in
    let Z = axis_law g.a.z g.b.z g.c.z o.z more.1 b.z0 b.z1 y.k h.z.at_least h.z.below ∙ ap not (sym (at_end_again (z_of b) b.z0 b.z1 s _ _ _ _ _ _ of pa.2 pb.2 pc.2)) in
    (λ t. Z t && (Y t && X t))
    ∙ three (at_end_of (x_of b) b.x0 b.x1 s) (at_end_of (y_of b) b.y0 b.y1 s) (at_end_of (z_of b) b.z0 b.z1 s)
    ∙ ap (λ sh. not (sh && (at_end_of (x_of b) b.x0 b.x1 s || (at_end_of (y_of b) b.y0 b.y1 s || at_end_of (z_of b) b.z0 b.z1 s)))) (sym of.shared)

-- ---- a side in a facet

-- a side in a facet is no diagonal
no_diags : (b : Bounds) (inside : List Bool) (s : Side) → shares s ≡ true → sum_by (λ x. diags_in (same_side s) inside b x) (all_lowest b) ≡ 0
no_diags b inside s shared =
    sum_by-none (λ x. diags_in (same_side s) inside b x) (all_lowest b) (λ n f less.
    let x = get_or (all_lowest b) n f in
    let ix = lowest_in b n f less in
    sum_by-none (λ (r : Row). count_by (same_side s) (diag_of inside (leaves_of b x r.corners))) rows (λ k d in_k.
    diag_none s _ _ _ (row_diags inside b x (get_or rows k d) ix (of_table k d in_k)) (λ of. false_then (shares s) of.apart shared)))

-- what holds of a side: it is run through once, and back once or, on the boundary, never
abbrev pub Outcome : Bounds → List Bool → Side → Type 0
Outcome b inside s = (occ b inside s ≡ 1) × (occ b inside (turned s) ≡ cond (on_boundary b s) 0 1) × (s.tail ≢ s.head)

cond_not : (t : Bool) → cond {A = ℕ} (not t) 1 0 ≡ cond t 0 1
cond_not true = refl
cond_not false = refl

facet_outcome : (b : Bounds) (inside : List Bool) (y : Place) (k : ℕ) (d : Facet) (s : Side) → k < length all_facets → In b y
    → cut_of inside (facet_at b y (get_or all_facets k d)) ≡ s ∷ [] → Outcome b inside s
facet_outcome b inside y k d s less iy is =
    let g = get_or all_facets k d in
    let ch = chains k d less in
    let of = of_cut inside (facet_at b y g) s (ascends b y g iy ch) is in
    let once = facets_once k d less in
    let there : StandsAt g g.a = λ h. (once h).0 in
    let back : StandsAt (flipped g) (other g).a = λ h. (once h).1 in
    let is_back : cut_of inside (facet_at b y (flipped g)) ≡ turned s ∷ [] = cut_of_flip inside (facet_at b y g) ∙ ap (map turned) is in
    let of_back = of_cut inside (facet_at b y (flipped g)) (turned s) (ascends b y (flipped g) iy (chain_flipped g ch)) is_back in
    let forth_cuts = cuts_of_facet inside b y g g.a s iy ch there is ∙ ap (λ t. cond t 1 0) (itself b y g.a iy) in
    let back_cuts = cuts_of_facet inside b y (flipped g) (other g).a (turned s) iy (chain_flipped g ch) back is_back
    ∙ ap (λ t. cond t 1 0) (behind b y k d s less iy of) ∙ cond_not (on_boundary b s) in (
      omega (arith, total (same_side s) inside b, forth_cuts, no_diags b inside s of.shared),
      omega (arith, total (same_side (turned s)) inside b, back_cuts, no_diags b inside (turned s) of_back.shared),
      of.different,
    )

-- ---- a diagonal

once_at : (s t : Side) → count_by (same_side s) (t ∷ []) ≡ cond (same_side s t) 1 0
once_at s t = omega arith

no_cuts : (b : Bounds) (inside : List Bool) (s : Side) → shares s ≡ false → sum_by (λ x. cuts_in (same_side s) inside b x) (all_lowest b) ≡ 0
no_cuts b inside s apart =
    sum_by-none (λ x. cuts_in (same_side s) inside b x) (all_lowest b) (λ n e less.
    let x = get_or (all_lowest b) n e in
    let ix = lowest_in b n e less in
    sum_by-none (λ f. count_by (same_side s) (cut_of inside (facet_at b x f))) all_facets (λ k d in_k.
    let f = facet_at b x (get_or all_facets k d) in
    none f (cuts inside f (ascends b x (get_or all_facets k d) ix (chains k d in_k)))))
  where
    none : (f : Leaves) → Cuts (cut_of inside f) f.a f.b f.c → count_by (same_side s) (cut_of inside f) ≡ 0
    none f (inl empty) = ap (count_by (same_side s)) empty
    none f (inr (t, is, of)) =
        let miss : same_side s t ≡ false = by_test (same_side s t)
        (λ so. absurd (false_then (shares s) apart (ap shares ((same_side-decides s t).0 so) ∙ of.shared))) (λ h. h) in
        ap (count_by (same_side s)) is ∙ once_at s t ∙ ap (λ u. cond u 1 0) miss

in_turned : (s : Side) (sides : List Side) → IsIn s sides → IsIn (turned s) sides
in_turned s sides (d, is, inl h) = (d, is, inr (ap turned h))
in_turned s sides (d, is, inr h) = (d, is, inl (ap turned h))

diag_outcome : (b : Bounds) (inside : List Bool) (y : Place) (m : ℕ) (e : Row) (s : Side) → m < length rows → In b y
    → IsIn s (diag_of inside (leaves_of b y (get_or rows m e).corners)) → Outcome b inside s
diag_outcome b inside y m e s less iy has =
    let sides = diag_of inside (leaves_of b y (get_or rows m e).corners) in
    let known = row_diags inside b y (get_or rows m e) iy (of_table m e less) in
    let of = of_diag s sides _ _ known has in
    let has_back = in_turned s sides has in
    let of_back = of_diag (turned s) sides _ _ known has_back in
    let once = ap (λ t. cond t 1 0) (itself b y low_corner iy) in
    let forth = diags_of_side inside b y m e s less iy has ∙ once in
    let back = diags_of_side inside b y m e (turned s) less iy has_back ∙ once in
    let off : cond {A = ℕ} (on_boundary b s) 0 1 ≡ 1 =
    ap (λ sh. cond (sh && (at_end_of (x_of b) b.x0 b.x1 s || (at_end_of (y_of b) b.y0 b.y1 s || at_end_of (z_of b) b.z0 b.z1 s))) 0 1) of.apart in (
      omega (arith, total (same_side s) inside b, forth, no_cuts b inside s of.apart),
      omega (arith, total (same_side (turned s)) inside b, back, no_cuts b inside (turned s) of_back.apart) ∙ sym off,
      of.different,
    )

-- ---- any side

hit_cut : (s : Side) (sides : List Side) (a b c : ℕ) → Cuts sides a b c → 0 < count_by (same_side s) sides → sides ≡ s ∷ []
hit_cut s sides a b c (inl empty) above = absurd (omega (arith, above, ap (count_by (same_side s)) empty))
hit_cut s sides a b c (inr (t, is, of)) above =
    is ∙ ap (λ u. u ∷ []) (sym ((same_side-decides s t).0
    (by_test (same_side s t) (λ h. h) (λ miss. absurd (omega (arith, above, ap (count_by (same_side s)) is, once_at s t, ap (λ u. cond {A = ℕ} u 1 0) miss))))))

two_at : (s d : Side) → count_by (same_side s) (both_ways d) ≡ cond (same_side s d) 1 0 + cond (same_side s (turned d)) 1 0
two_at s d = omega arith

hit_diag : (s : Side) (sides : List Side) (low sum : ℕ) → Diags sides low sum → 0 < count_by (same_side s) sides → IsIn s sides
hit_diag s sides low sum (inl empty) above = absurd (omega (arith, above, ap (count_by (same_side s)) empty))
hit_diag s sides low sum (inr (d, is, of)) above = (
  d,
  is,
  by_test (same_side s d) (λ h. inl ((same_side-decides s d).0 h)) (λ miss.
      inr ((same_side-decides s (turned d)).0 (by_test (same_side s (turned d)) (λ h. h) (λ also.
      absurd (omega (arith, above, ap (count_by (same_side s)) is, two_at s d, ap (λ u. cond {A = ℕ} u 1 0) miss, ap (λ u. cond {A = ℕ} u 1 0) also)))))),
)

either_above : (m n : ℕ) → 0 < m + n → (0 < m) ⊎ (0 < n)
either_above zero n above = inr (omega (arith, above))
either_above (suc m) n above = inl (omega arith)

pub outcome : (b : Bounds) (inside : List Bool) (s : Side) → 0 < occ b inside s → Outcome b inside s
outcome b inside s above =
    cases (either_above (sum_by (λ x. cuts_in (same_side s) inside b x) (all_lowest b)) (sum_by (λ x. diags_in (same_side s) inside b x) (all_lowest b))
    (omega (arith, above, total (same_side s) inside b)))
  where
    nowhere : Place
    nowhere = place 0 0 0

    no_facet : Facet
    no_facet = facet true low_corner low_corner low_corner

    no_row : Row
    no_row = row [] false []

    cases : (0 < sum_by (λ x. cuts_in (same_side s) inside b x) (all_lowest b)) ⊎ (0 < sum_by (λ x. diags_in (same_side s) inside b x) (all_lowest b)) → Outcome b inside s
    cases (inl some) =
        let at = positive (λ x. cuts_in (same_side s) inside b x) (all_lowest b) (place 0 0 0) some in
        let y = get_or (all_lowest b) at.0 (place 0 0 0) in
        let iy = lowest_in b at.0 (place 0 0 0) at.1 in
        let none = facet true low_corner low_corner low_corner in
        let which = positive (λ f. count_by (same_side s) (cut_of inside (facet_at b y f))) all_facets none at.2 in
        let g = get_or all_facets which.0 none in
        facet_outcome b inside y which.0 none s which.1 iy
        (hit_cut s _ _ _ _ (cuts inside (facet_at b y g) (ascends b y g iy (chains which.0 none which.1))) which.2)
    cases (inr some) =
        let at = positive (λ x. diags_in (same_side s) inside b x) (all_lowest b) (place 0 0 0) some in
        let y = get_or (all_lowest b) at.0 (place 0 0 0) in
        let iy = lowest_in b at.0 (place 0 0 0) at.1 in
        let none : Row = row [] false [] in
        let which = positive (λ (r : Row). count_by (same_side s) (diag_of inside (leaves_of b y r.corners))) rows none at.2 in
        let r = get_or rows which.0 none in
        diag_outcome b inside y which.0 none s which.1 iy
        (hit_diag s _ _ _ (row_diags inside b y r iy (of_table which.0 none which.1)) which.2)

-- ---- triangles in place of occurrences

pub any_once : {X : Type 0} (p : X → Bool) (xs : List X) → count_by p xs ≤ 1 → cond {A = ℕ} (list_any p xs) 1 0 ≡ count_by p xs
any_once p [] most = refl
any_once {X} p (x ∷ xs) most = cases (p x) refl (any_once p xs)
  where
    cases : (t : Bool) → p x ≡ t → (count_by p xs ≤ 1 → cond {A = ℕ} (list_any p xs) 1 0 ≡ count_by p xs)
        → cond {A = ℕ} (list_any p (x ∷ xs)) 1 0 ≡ count_by p (x ∷ xs)
    cases true is later =
        let step = sum_by-cons (λ (y : X). cond {A = ℕ} (p y) 1 0) x xs in
        let one : cond {A = ℕ} (p x) 1 0 ≡ 1 = ap (λ t. cond t 1 0) is in
        ap (λ t. cond {A = ℕ} (t || list_any p xs) 1 0) is ∙ sym (omega (arith, step, one, most))
    cases false is later =
        let step = sum_by-cons (λ (y : X). cond {A = ℕ} (p y) 1 0) x xs in
        let none : cond {A = ℕ} (p x) 1 0 ≡ 0 = ap (λ t. cond t 1 0) is in
        let rest = later (omega (arith, step, none, most)) in
        ap (λ t. cond {A = ℕ} (t || list_any p xs) 1 0) is ∙ rest ∙ sym (omega (arith, step, none))

pub occ_at_most : (b : Bounds) (inside : List Bool) (s : Side) → occ b inside s ≤ 1
occ_at_most b inside s = cases (occ b inside s) refl
  where
    cases : (n : ℕ) → occ b inside s ≡ n → occ b inside s ≤ 1
    cases zero is = omega (arith, is)
    cases (suc n) is = omega (arith, (outcome b inside s (omega (arith, is))).0)

-- a side occurs as often as triangles run through it
pub run_through-occ : (b : Bounds) (inside : List Bool) (s : Side) → run_through (grid_cells b inside) s ≡ occ b inside s
run_through-occ b inside s =
    let whole = count_by-flat_map (same_side s) sides_of (grid_cells b inside) in
    sum_by-same (λ cell. cond (list_any (same_side s) (sides_of cell)) 1 0) (λ cell. count_by (same_side s) (sides_of cell)) (grid_cells b inside)
    (λ k d less. any_once (same_side s) (sides_of (get_or (grid_cells b inside) k d))
    (omega (arith, whole, occ_at_most b inside s, get_or-le-sum_by (λ cell. count_by (same_side s) (sides_of cell)) (grid_cells b inside) k d less)))
    ∙ sym whole

-- ---- the law

pub closed : (b : Bounds) (inside : List Bool) → IsClosedUpToBoundary b (grid_cells b inside)
closed b inside s some = cases (on_boundary b s) refl
  where
    out : Outcome b inside s
    out = outcome b inside s (omega (arith, some, run_through-occ b inside s))

    forth : run_through (grid_cells b inside) s ≡ 1
    forth = run_through-occ b inside s ∙ out.0

    back : run_through (grid_cells b inside) (turned s) ≡ cond (on_boundary b s) 0 1
    back = run_through-occ b inside (turned s) ∙ out.1

    cases : (t : Bool) → on_boundary b s ≡ t
        → (LiesInTwo (grid_cells b inside) s ⊎ LiesInOne (grid_cells b inside) s) × (LiesInOne (grid_cells b inside) s ↔ IsTrue (on_boundary b s))
    cases true is =
        let none = back ∙ ap (λ u. cond {A = ℕ} u 0 1) is in
        (inr (forth, none), (λ one. is, λ h. (forth, none)))
    cases false is =
        let two = back ∙ ap (λ u. cond {A = ℕ} u 0 1) is in
        (inl (forth, two), (λ one. absurd (omega (arith, one.1, two)), λ h. absurd (true≢false (sym h ∙ is))))
