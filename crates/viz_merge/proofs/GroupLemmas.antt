-- Groups by their first points, from the first point at the place of each.
use Rattle.std.proofs.Common.{◌≡◌, ℕ, zero, suc, ◌<◌, ◌≤◌, Bool, true, false, cond, not, ◌||◌, List, [], ◌∷◌, length, get_or, nat_eq, refl, sym, ap, ap₂, subst, ◌∙◌, true≢false, ⊎_elim, arith, eqb-true, eq-eqb}
use Rattle.std.specs.List.{filter, list_any}
use Rattle.std.proofs.lemmas.Bool.{cases_lt}
use Rattle.std.proofs.lemmas.List.{get_or_default, same_lists}
use Rattle.std.proofs.lemmas.List.FromFn.{get_or-map-range_with_len, length-map-range_with_len}
use Rattle.viz_fraction.specs.Points.{Point}
use Rattle.viz_fraction.specs.Places.{place_of}
use Rattle.viz_sheet.specs.Kept.{kept, kept_rank}
use Rattle.viz_sheet.proofs.KeptLemmas.{kept-at, rank-below, rank-from, rank-rises}
use Rattle.viz_meaning.specs.Section.{zero_point}
use Rattle.viz_mesh_meaning.specs.Merge.{firsts, group_of, is_same_place}
use Rattle.viz_mesh_meaning.proofs.MergeLemmas.{places-same}
use Rattle.viz_merge.specs.Steps.Leads.{AreLeads, first_marks}
use Rattle.viz_merge.proofs.OrderLemmas.{other-places}

-- ---- the first of each group

-- marks of the points that have the place of none seen before
abbrev pub new_marks : List Point → List Point → List Bool
new_marks seen [] = []
new_marks seen (p ∷ ps) = not (list_any (λ q. is_same_place q p) seen) ∷ new_marks (p ∷ seen) ps

-- what passes two tests, one after the other
filter-both : {X : Type 0} (f g h : X → Bool) (xs : List X) → ((x : X) → h x ≡ cond (g x) (f x) false) → filter f (filter g xs) ≡ filter h xs
filter-both f g h [] e = refl
filter-both {X = X} f g h (x ∷ xs) e = one (g x) (f x) (h x) (e x) refl (filter-both f g h xs e)
  where
    one : (b c d : Bool) → d ≡ cond b c false → f x ≡ c → filter f (filter g xs) ≡ filter h xs → filter f (cond b (x ∷ filter g xs) (filter g xs)) ≡ cond d (x ∷ filter h xs) (filter h xs)
    one true c d k fx rest = ap (λ v. cond v (x ∷ filter f (filter g xs)) (filter f (filter g xs))) (fx ∙ sym k) ∙ ap (λ ys. cond d (x ∷ ys) ys) rest
    one false c d k fx rest = rest ∙ ap (λ v. cond v (x ∷ filter h xs) (filter h xs)) (sym k)

-- the points that are new behind those seen are the first ones that none seen has the place of
new-firsts : (seen ps : List Point) → kept (new_marks seen ps) ps ≡ filter (λ p. not (list_any (λ q. is_same_place q p) seen)) (firsts ps)
new-firsts seen [] = refl
new-firsts seen (p ∷ ps) =
    let f = λ (x : Point). not (list_any (λ q. is_same_place q x) seen) in
    let g = λ (x : Point). not (is_same_place p x) in
    let h = λ (x : Point). not (list_any (λ q. is_same_place q x) (p ∷ seen)) in
    ap (λ ys. cond (f p) (p ∷ ys) ys) (new-firsts (p ∷ seen) ps ∙ sym (filter-both f g h (firsts ps) (λ x. two (is_same_place p x) (list_any (λ q. is_same_place q x) seen))))
  where
    two : (a b : Bool) → not (a || b) ≡ cond (not a) (not b) false
    two true b = refl
    two false b = refl

all-pass : {X : Type 0} (xs : List X) → filter (λ x. true) xs ≡ xs
all-pass [] = refl
all-pass (x ∷ xs) = ap (λ ys. x ∷ ys) (all-pass xs)

pub firsts-are : (ps : List Point) → kept (new_marks [] ps) ps ≡ firsts ps
firsts-are ps = new-firsts [] ps ∙ all-pass (firsts ps)

-- ---- new points by the first at each place

length-new : (seen ps : List Point) → length (new_marks seen ps) ≡ length ps
length-new seen [] = refl
length-new seen (p ∷ ps) = ap suc (length-new (p ∷ seen) ps)

-- a point is new where none seen and none in front of it has its place
record IsNew (seen ps : List Point) (j : ℕ) (d : Point) : Type 0 where
  behind : (q : ℕ) → q < length seen → is_same_place (get_or seen q d) (get_or ps j d) ≡ false
  front : (i : ℕ) → i < j → is_same_place (get_or ps i d) (get_or ps j d) ≡ false

none-passes : (p : Point → Bool) (seen : List Point) (d : Point) → ((q : ℕ) → q < length seen → p (get_or seen q d) ≡ false) → list_any p seen ≡ false
none-passes p [] d h = refl
none-passes p (x ∷ xs) d h = ap₂ (λ a b. a || b) (h 0 (omega arith)) (none-passes p xs d (λ q l. h (suc q) (omega arith)))

some-passes : (p : Point → Bool) (seen : List Point) (q : ℕ) (d : Point) → q < length seen → p (get_or seen q d) ≡ true → list_any p seen ≡ true
some-passes p [] q d l h = absurd (omega arith)
some-passes p (x ∷ xs) zero d l h = ap (λ a. a || list_any p xs) h
some-passes p (x ∷ xs) (suc q) d l h = ap (λ b. p x || b) (some-passes p xs q d (omega arith) h) ∙ last (p x)
  where
    last : (a : Bool) → (a || true) ≡ true
    last true = refl
    last false = refl

new-is : (seen ps : List Point) (j : ℕ) (d : Point) → j < length ps → IsNew seen ps j d → get_or (new_marks seen ps) j false ≡ true
new-is seen [] j d l n = absurd (omega arith)
new-is seen (p ∷ ps) zero d l n = ap not (none-passes (λ q. is_same_place q p) seen d n.behind)
new-is seen (p ∷ ps) (suc j) d l n = new-is (p ∷ seen) ps j d (omega arith) (record { behind = back; front = λ i k. n.front (suc i) (omega arith) })
  where
    back : (q : ℕ) → q < length (p ∷ seen) → is_same_place (get_or (p ∷ seen) q d) (get_or ps j d) ≡ false
    back zero k = n.front 0 (omega arith)
    back (suc q) k = n.behind q (omega arith)

-- and not where one in front has it
old-is : (seen ps : List Point) (i j : ℕ) (d : Point) → i < j → j < length ps → is_same_place (get_or ps i d) (get_or ps j d) ≡ true → get_or (new_marks seen ps) j false ≡ false
old-is seen [] i j d h l e = absurd (omega arith)
old-is seen (p ∷ ps) i zero d h l e = absurd (omega arith)
old-is seen (p ∷ ps) zero (suc j) d h l e = seen-is (p ∷ seen) ps j 0 d (omega arith) (omega arith) e
  where
    seen-is : (behind qs : List Point) (k q : ℕ) (c : Point) → k < length qs → q < length behind → is_same_place (get_or behind q c) (get_or qs k c) ≡ true → get_or (new_marks behind qs) k false ≡ false
    seen-is behind [] k q c kl ql s = absurd (omega arith)
    seen-is behind (y ∷ ys) zero q c kl ql s = ap not (some-passes (λ z. is_same_place z y) behind q c ql s)
    seen-is behind (y ∷ ys) (suc k) q c kl ql s = seen-is (y ∷ behind) ys k (suc q) c (omega arith) (omega arith) s
old-is seen (p ∷ ps) (suc i) (suc j) d h l e = old-is (p ∷ seen) ps i j d (omega arith) (omega arith) e

-- ---- marks of the first at each place

mark-at : (leads : List ℕ) (j : ℕ) → j < length leads → get_or (first_marks leads) j false ≡ nat_eq (get_or leads j 0) j
mark-at leads j l = get_or-map-range_with_len (λ i. nat_eq (get_or leads i 0) i) 0 (length leads) j j false l (omega arith)

length-marks : (leads : List ℕ) → length (first_marks leads) ≡ length leads
length-marks leads = length-map-range_with_len (λ i. nat_eq (get_or leads i 0) i) 0 (length leads)

lead-new : (ps : List Point) (leads : List ℕ) (j : ℕ) (d : Point) → AreLeads ps leads → j < length ps → get_or leads j 0 ≡ j → IsNew [] ps j d
lead-new ps leads j d h l e = record {
  behind = λ q k. absurd (omega arith);
  front = λ i k. other-places (place_of (get_or ps i d)) (place_of (get_or ps j d)) ((h.each j l).first i d (omega (arith, e, k)));
}

pub marks-are : (ps : List Point) (leads : List ℕ) → AreLeads ps leads → first_marks leads ≡ new_marks [] ps
marks-are ps leads h =
    same_lists (first_marks leads) (new_marks [] ps) (length-marks leads ∙ h.size ∙ sym (length-new [] ps)) (λ j d l.
    let below : j < length leads = omega (arith, length-marks leads, l) in
    let in_ps : j < length ps = omega (arith, h.size, below) in
    get_or_default (first_marks leads) j d false l ∙ mark-at leads j below ∙ mark j in_ps (nat_eq (get_or leads j 0) j) refl
    ∙ get_or_default (new_marks [] ps) j false d (omega (arith, length-new [] ps, in_ps)))
  where
    mark : (j : ℕ) → j < length ps → (b : Bool) → nat_eq (get_or leads j 0) j ≡ b → b ≡ get_or (new_marks [] ps) j false
    mark j l true e = sym (new-is [] ps j zero_point l (lead-new ps leads j zero_point h l (eqb-true (get_or leads j 0) j e)))
    mark j l false e =
        let lead = h.each j l in
        let most = lead.most in
        ⊎_elim
        (λ (front : get_or leads j 0 < j). sym (old-is [] ps (get_or leads j 0) j zero_point front l (places-same _ _ (lead.same zero_point))))
        (λ (not_front : j ≤ get_or leads j 0). absurd (true≢false (sym (eq-eqb (get_or leads j 0) j (omega arith)) ∙ e)))
        (cases_lt (get_or leads j 0) j)

-- the marked points are the first of each group
pub groups-are : (ps : List Point) (leads : List ℕ) → AreLeads ps leads → kept (first_marks leads) ps ≡ firsts ps
groups-are ps leads h = ap (λ ms. kept ms ps) (marks-are ps leads h) ∙ firsts-are ps

-- ---- the rank of a group

group-at : (gs : List Point) (p : Point) (g : ℕ) (d : Point) → g < length gs → is_same_place (get_or gs g d) p ≡ true → ((i : ℕ) → i < g → is_same_place (get_or gs i d) p ≡ false) → group_of gs p ≡ g
group-at [] p g d l h f = absurd (omega arith)
group-at (x ∷ xs) p zero d l h f = ap (λ b. cond b 0 (suc (group_of xs p))) h
group-at (x ∷ xs) p (suc g) d l h f =
    ap (λ b. cond b 0 (suc (group_of xs p))) (f 0 (omega arith)) ∙ ap suc (group-at xs p g d (omega arith) h (λ i k. f (suc i) (omega arith)))

-- the first at a place is marked
lead-marked : (ps : List Point) (leads : List ℕ) (j : ℕ) → AreLeads ps leads → j < length ps → get_or (first_marks leads) (get_or leads j 0) false ≡ true
lead-marked ps leads j h l =
    let lead = h.each j l in
    let most = lead.most in
    let k = get_or leads j 0 in
    let kl : k < length ps = omega arith in
    let again = h.each k kl in
    let same : get_or leads k 0 ≡ k =
    ⊎_elim
    (λ (front : get_or leads k 0 < k). absurd (lead.first (get_or leads k 0) zero_point front (again.same zero_point ∙ lead.same zero_point)))
    (λ (not_front : k ≤ get_or leads k 0). let m = again.most in omega arith)
    (cases_lt (get_or leads k 0) k) in
    mark-at leads k (omega (arith, h.size, kl)) ∙ eq-eqb (get_or leads k 0) k same

pub rank-is_group : (ps : List Point) (leads : List ℕ) (j : ℕ) (d : Point) → AreLeads ps leads → j < length ps → kept_rank (first_marks leads) (get_or leads j 0) ≡ group_of (firsts ps) (get_or ps j d)
rank-is_group ps leads j d h l =
    let marks = first_marks leads in
    let k = get_or leads j 0 in
    let lead = h.each j l in
    let most = lead.most in
    let size : length marks ≡ length ps = length-marks leads ∙ h.size in
    let marked = lead-marked ps leads j h l in
    let below = rank-below marks ps k size marked in
    let here : get_or (kept marks ps) (kept_rank marks k) d ≡ get_or ps k d = kept-at marks ps k d size marked in
    sym (subst (λ gs. group_of gs (get_or ps j d) ≡ kept_rank marks k) (groups-are ps leads h)
    (group-at (kept marks ps) (get_or ps j d) (kept_rank marks k) d below
    (ap (λ p. is_same_place p (get_or ps j d)) here ∙ places-same (place_of (get_or ps k d)) (place_of (get_or ps j d)) (lead.same d))
    (λ i il.
    let from = rank-from marks ps i size (omega arith) in
    let r = from.0 in
    let at : get_or (kept marks ps) i d ≡ get_or ps r d = ap (λ n. get_or (kept marks ps) n d) (sym from.2) ∙ kept-at marks ps r d size from.1 in
    let before : r < k =
    ⊎_elim (λ (b : r < k). b)
    (λ (f : k ≤ r). ⊎_elim (λ (s : k < r). absurd (omega (arith, rank-rises marks k r s marked, from.2, il))) (λ (e : r ≤ k). absurd (omega (arith, ap (kept_rank marks) {x = r} {y = k} (omega arith), from.2, il))) (cases_lt k r))
    (cases_lt r k) in
    ap (λ p. is_same_place p (get_or ps j d)) at ∙ other-places (place_of (get_or ps r d)) (place_of (get_or ps j d)) (lead.first r d before))))
