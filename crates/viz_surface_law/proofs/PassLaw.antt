-- One pass over sorted keys counts each side once.
use Rattle.std.proofs.Common.{◌≡◌, ℕ, suc, ◌+◌, ◌-◌, ◌*◌, ◌/◌, ◌%◌, ◌<◌, ◌≤◌, ◌==◌, Bool, true, false, cond, ◌||◌, true≢false, List, [], ◌∷◌, map, nat_eq, refl, sym, ap, subst, ◌∙◌, eqb-true, eq-eqb, ne_eqb, arith}
use Rattle.std.specs.Prelude.{sum_by}
use Rattle.std.specs.Set.{unique_keys, is_member}
use Rattle.std.specs.List.Sorted.{IsNonDecreasing}
use Rattle.std.proofs.lemmas.Bool.Decides.{nat_tests}
use Rattle.std.proofs.lemmas.List.Sums.{sum_by-cons}
use Rattle.viz_surface_law.specs.Steps.Keys.{half, forth, back, passing, tallied, Ascend}
use Rattle.viz_surface_law.proofs.Sharing.ListCounts.{sum_by-same, by_test}
use Rattle.viz_surface_law.proofs.Sharing.FacetTable.{Each, Each_at}

-- a sum over sides without one of them
abbrev pub without : ℕ → (ℕ → ℕ) → ℕ → ℕ
without w h v = cond (v == w) 0 (h v)

abbrev pub uniq : List ℕ → List ℕ
uniq xs = unique_keys nat_eq xs

-- a member of a list once, and the others
pub split_at : (h : ℕ → ℕ) (w : ℕ) (xs : List ℕ) → sum_by h (uniq xs) ≡ sum_by (without w h) (uniq xs) + cond (is_member nat_eq xs w) (h w) 0
split_at h w [] = refl
split_at h w (x ∷ xs) = cases (is_member nat_eq xs x) refl (split_at h w xs)
  where
    Goal : Bool → Type 0
    Goal t = sum_by h (cond t (uniq xs) (x ∷ uniq xs)) ≡ sum_by (without w h) (cond t (uniq xs) (x ∷ uniq xs)) + cond (nat_eq w x || is_member nat_eq xs w) (h w) 0

    same_member : w ≡ x → is_member nat_eq xs x ≡ is_member nat_eq xs w
    same_member e = ap (is_member nat_eq xs) (sym e)

    cases : (t : Bool) → is_member nat_eq xs x ≡ t → sum_by h (uniq xs) ≡ sum_by (without w h) (uniq xs) + cond (is_member nat_eq xs w) (h w) 0 → Goal t
    cases true is rest = by_test (nat_eq w x)
        (λ so.
        let e = eqb-true w x so in
        let m : is_member nat_eq xs w ≡ true = sym (same_member e) ∙ is in
        rest ∙ ap (λ t. sum_by (without w h) (uniq xs) + cond t (h w) 0) m ∙ ap (λ t. sum_by (without w h) (uniq xs) + cond (t || is_member nat_eq xs w) (h w) 0) (sym so))
        (λ miss. rest ∙ ap (λ t. sum_by (without w h) (uniq xs) + cond (t || is_member nat_eq xs w) (h w) 0) (sym miss))
    cases false is rest = by_test (nat_eq w x)
        (λ so.
        let e = eqb-true w x so in
        let m : is_member nat_eq xs w ≡ false = sym (same_member e) ∙ is in
        let hit : without w h x ≡ 0 = ap (λ t. cond t 0 (h x)) (eq-eqb x w (sym e)) in
        let none : cond {A = ℕ} (is_member nat_eq xs w) (h w) 0 ≡ 0 = ap (λ t. cond t (h w) 0) m in
        let all : cond {A = ℕ} (nat_eq w x || is_member nat_eq xs w) (h w) 0 ≡ h w = ap (λ t. cond (t || is_member nat_eq xs w) (h w) 0) so in
        omega (arith, sum_by-cons h x (uniq xs), sum_by-cons (without w h) x (uniq xs), rest, hit, none, all, ap h e))
        (λ miss.
        let apart : (x ≡ w → ⊥) = λ e. true≢false (sym (eq-eqb w x (sym e)) ∙ miss) in
        let hit : without w h x ≡ h x = ap (λ t. cond t 0 (h x)) (ne_eqb x w apart) in
        let all : cond {A = ℕ} (nat_eq w x || is_member nat_eq xs w) (h w) 0 ≡ cond (is_member nat_eq xs w) (h w) 0 = ap (λ t. cond (t || is_member nat_eq xs w) (h w) 0) miss in
        omega (arith, sum_by-cons h x (uniq xs), sum_by-cons (without w h) x (uniq xs), rest, hit, all))

-- a list with one more in front
pub cons_at : (h : ℕ → ℕ) (w : ℕ) (xs : List ℕ) → sum_by h (uniq (w ∷ xs)) ≡ h w + sum_by (without w h) (uniq xs)
cons_at h w xs = cases (is_member nat_eq xs w) refl
  where
    cases : (t : Bool) → is_member nat_eq xs w ≡ t → sum_by h (cond t (uniq xs) (w ∷ uniq xs)) ≡ h w + sum_by (without w h) (uniq xs)
    cases true is = omega (arith, split_at h w xs, ap (λ t. cond {A = ℕ} t (h w) 0) is)
    cases false is = omega (arith, sum_by-cons h w (uniq xs), split_at h w xs, ap (λ t. cond {A = ℕ} t (h w) 0) is)

-- keys ascend from a side on
abbrev pub AscendFrom : ℕ → List ℕ → Type 0
AscendFrom u [] = Unit {0}
AscendFrom u (k ∷ ks) = (u ≤ half k) × AscendFrom (half k) ks

forth_cons : (k : ℕ) (ks : List ℕ) (v : ℕ) → forth (k ∷ ks) v ≡ cond (k == 2 * v) 1 0 + forth ks v
forth_cons k ks v = sum_by-cons (λ (key : ℕ). cond {A = ℕ} (key == 2 * v) 1 0) k ks

back_cons : (k : ℕ) (ks : List ℕ) (v : ℕ) → back (k ∷ ks) v ≡ cond (k == 2 * v + 1) 1 0 + back ks v
back_cons k ks v = sum_by-cons (λ (key : ℕ). cond {A = ℕ} (key == 2 * v + 1) 1 0) k ks

-- of its own side a key is one, forth or back
own_forth : (k : ℕ) → cond {A = ℕ} (k == 2 * (k / 2)) 1 0 ≡ 1 - k % 2
own_forth k = grind (arith, nat_tests)

own_back : (k : ℕ) → cond {A = ℕ} (k == 2 * (k / 2) + 1) 1 0 ≡ k % 2
own_back k = grind (arith, nat_tests)

-- of another side none
other_forth : (k v : ℕ) → (k / 2 ≡ v → ⊥) → cond {A = ℕ} (k == 2 * v) 1 0 ≡ 0
other_forth k v apart = grind (arith, nat_tests, apart)

other_back : (k v : ℕ) → (k / 2 ≡ v → ⊥) → cond {A = ℕ} (k == 2 * v + 1) 1 0 ≡ 0
other_back k v apart = grind (arith, nat_tests, apart)

-- keys of later sides aren't of an earlier one
later_none : (u v : ℕ) (ks : List ℕ) → u < v → AscendFrom v ks → (forth ks u ≡ 0) × (back ks u ≡ 0)
later_none u v [] less asc = (refl, refl)
later_none u v (k ∷ ks) less asc =
    let rest = later_none u (half k) ks (omega (arith, less, asc.0)) asc.1 in
    let apart : (k / 2 ≡ u → ⊥) = λ e. omega (arith, less, asc.0, e) in
    (omega (arith, forth_cons k ks u, other_forth k u apart, rest.0), omega (arith, back_cons k ks u, other_back k u apart, rest.1))

pub Each-uniq : (P : ℕ → Type 0) (xs : List ℕ) → Each P xs → Each P (uniq xs)
Each-uniq P [] each = tt
Each-uniq P (x ∷ xs) each = cases (is_member nat_eq xs x) (Each-uniq P xs each.1)
  where
    cases : (t : Bool) → Each P (uniq xs) → Each P (cond t (uniq xs) (x ∷ uniq xs))
    cases true rest = rest
    cases false rest = (each.0, rest)

at_least : (w : ℕ) (ks : List ℕ) → AscendFrom w ks → Each (λ v. w ≤ v) (map half ks)
at_least w [] asc = tt
at_least w (k ∷ ks) asc = (asc.0, weaker (map half ks) (at_least (half k) ks asc.1))
  where
    weaker : (xs : List ℕ) → Each (λ v. half k ≤ v) xs → Each (λ v. w ≤ v) xs
    weaker [] each = tt
    weaker (x ∷ xs) each = (omega (arith, asc.0, each.0), weaker xs each.1)

-- whether a side passes
abbrev pub passes : (ℕ → ℕ → ℕ → Bool) → List ℕ → ℕ → ℕ
passes test ks v = cond (test v (forth ks v) (back ks v)) 1 0

passes_later : (test : ℕ → ℕ → ℕ → Bool) (k : ℕ) (ks : List ℕ) (v : ℕ) → (half k ≡ v → ⊥) → passes test (k ∷ ks) v ≡ passes test ks v
passes_later test k ks v apart =
    let f : forth (k ∷ ks) v ≡ forth ks v = omega (arith, forth_cons k ks v, other_forth k v apart) in
    let b : back (k ∷ ks) v ≡ back ks v = omega (arith, back_cons k ks v, other_back k v apart) in
    λ t. cond (test v (f t) (b t)) 1 0

own : (test : ℕ → ℕ → ℕ → Bool) (f b k : ℕ) (ks : List ℕ)
    → cond {A = ℕ} (test (half k) (f + forth (k ∷ ks) (half k)) (b + back (k ∷ ks) (half k))) 1 0
    ≡ cond (test (half k) (f + (1 - k % 2) + forth ks (half k)) (b + k % 2 + back ks (half k))) 1 0
own test f b k ks =
    let m : f + forth (k ∷ ks) (half k) ≡ f + (1 - k % 2) + forth ks (half k) = omega (arith, forth_cons k ks (half k), own_forth k) in
    let n : b + back (k ∷ ks) (half k) ≡ b + k % 2 + back ks (half k) = omega (arith, back_cons k ks (half k), own_back k) in
    λ t. cond (test (half k) (m t) (n t)) 1 0

pub without_hit : (u w : ℕ) (h : ℕ → ℕ) → w ≡ u → without u h w ≡ 0
without_hit u w h e = ap (λ t. cond t 0 (h w)) (eq-eqb w u e)

pub without_miss : (u w : ℕ) (h : ℕ → ℕ) → (w ≡ u → ⊥) → without u h w ≡ h w
without_miss u w h e = ap (λ t. cond t 0 (h w)) (ne_eqb w u e)

pub eqb_apart : (v w : ℕ) → (v == w) ≡ false → v ≡ w → ⊥
eqb_apart v w miss e = true≢false (sym (eq-eqb v w e) ∙ miss)

abbrev TallyLaw : (ℕ → ℕ → ℕ → Bool) → ℕ → ℕ → ℕ → List ℕ → Type 0
TallyLaw test u f b ks =
    tallied test u f b ks ≡ cond (test u (f + forth ks u) (b + back ks u)) 1 0 + sum_by (without u (passes test ks)) (uniq (map half ks))

same_side_next : (test : ℕ → ℕ → ℕ → Bool) (f b k : ℕ) (ks : List ℕ)
    → TallyLaw test (half k) (f + (1 - k % 2)) (b + k % 2) ks → TallyLaw test (half k) f b (k ∷ ks)
same_side_next test f b k ks law =
    let w = half k in
    let H = without w (passes test (k ∷ ks)) in
    let first : tallied test w f b (k ∷ ks) ≡ tallied test w (f + (1 - k % 2)) (b + k % 2) ks =
    ap (λ t. cond t (tallied test w (f + (1 - k % 2)) (b + k % 2) ks) (cond (test w f b) 1 0 + tallied test w (1 - k % 2) (k % 2) ks)) (eq-eqb w w refl) in
    let rest = sum_by-same (without w H) (without w (passes test ks)) (uniq (map half ks)) (λ n d less. each _) in
    omega (arith, first, law, own test f b k ks, cons_at H w (map half ks), without_hit w w (passes test (k ∷ ks)) refl, rest)
  where
    each : (v : ℕ) → without (half k) (without (half k) (passes test (k ∷ ks))) v ≡ without (half k) (passes test ks) v
    each v = by_test (v == half k)
        (λ so.
        let e = eqb-true v (half k) so in
        without_hit (half k) v (without (half k) (passes test (k ∷ ks))) e ∙ sym (without_hit (half k) v (passes test ks) e))
        (λ miss.
        let a = eqb_apart v (half k) miss in
        without_miss (half k) v (without (half k) (passes test (k ∷ ks))) a ∙ without_miss (half k) v (passes test (k ∷ ks)) a
        ∙ passes_later test k ks v (λ e. a (sym e)) ∙ sym (without_miss (half k) v (passes test ks) a))

next_side : (test : ℕ → ℕ → ℕ → Bool) (u f b k : ℕ) (ks : List ℕ) → u < half k → AscendFrom (half k) ks
    → TallyLaw test (half k) (1 - k % 2) (k % 2) ks → TallyLaw test u f b (k ∷ ks)
next_side test u f b k ks less asc law =
    let w = half k in
    let apart : (w ≡ u → ⊥) = λ e. omega (arith, less, e) in
    let H = without u (passes test (k ∷ ks)) in
    let first : tallied test u f b (k ∷ ks) ≡ cond (test u f b) 1 0 + tallied test w (1 - k % 2) (k % 2) ks =
    ap (λ t. cond t (tallied test u (f + (1 - k % 2)) (b + k % 2) ks) (cond (test u f b) 1 0 + tallied test w (1 - k % 2) (k % 2) ks)) (ne_eqb w u apart) in
    let none = later_none u w ks less asc in
    let m : f ≡ f + forth (k ∷ ks) u = omega (arith, forth_cons k ks u, other_forth k u apart, none.0) in
    let n : b ≡ b + back (k ∷ ks) u = omega (arith, back_cons k ks u, other_back k u apart, none.1) in
    let closed : cond {A = ℕ} (test u f b) 1 0 ≡ cond (test u (f + forth (k ∷ ks) u) (b + back (k ∷ ks) u)) 1 0 = λ t. cond (test u (m t) (n t)) 1 0 in
    let p : 0 + forth (k ∷ ks) w ≡ 0 + (1 - k % 2) + forth ks w = omega (arith, forth_cons k ks w, own_forth k) in
    let here : passes test (k ∷ ks) w ≡ cond (test w (1 - k % 2 + forth ks w) (k % 2 + back ks w)) 1 0 =
    (let q : forth (k ∷ ks) w ≡ 1 - k % 2 + forth ks w = omega (arith, forth_cons k ks w, own_forth k) in
    let r : back (k ∷ ks) w ≡ k % 2 + back ks w = omega (arith, back_cons k ks w, own_back k) in
    λ t. cond (test w (q t) (r t)) 1 0) in
    let rest = sum_by-same (without w H) (without w (passes test ks)) (uniq (map half ks))
    (λ j d in_j. each _ (Each_at (λ v. half k ≤ v) (uniq (map half ks)) (Each-uniq (λ v. half k ≤ v) (map half ks) (at_least (half k) ks asc)) j d in_j)) in
    omega (arith, first, law, closed, here, cons_at H w (map half ks), without_miss u w (passes test (k ∷ ks)) apart, rest)
  where
    each : (v : ℕ) → half k ≤ v → without (half k) (without u (passes test (k ∷ ks))) v ≡ without (half k) (passes test ks) v
    each v least = by_test (v == half k)
        (λ so.
        let e = eqb-true v (half k) so in
        without_hit (half k) v (without u (passes test (k ∷ ks))) e ∙ sym (without_hit (half k) v (passes test ks) e))
        (λ miss.
        let a = eqb_apart v (half k) miss in
        without_miss (half k) v (without u (passes test (k ∷ ks))) a ∙ without_miss u v (passes test (k ∷ ks)) (λ e. omega (arith, less, least, e))
        ∙ passes_later test k ks v (λ e. a (sym e)) ∙ sym (without_miss (half k) v (passes test ks) a))

-- one pass over keys that ascend counts each side once
pub tally_law : (test : ℕ → ℕ → ℕ → Bool) (ks : List ℕ) (u f b : ℕ) → AscendFrom u ks → TallyLaw test u f b ks
tally_law test [] u f b asc = refl_at
  where
    zero_right : (n : ℕ) → n ≡ n + 0
    zero_right n = omega arith

    refl_at : TallyLaw test u f b []
    refl_at =
        let m = zero_right f in
        let n = zero_right b in
        (λ t. cond (test u (m t) (n t)) 1 0) ∙ zero_right _
tally_law test (k ∷ ks) u f b asc =
    by_test (half k == u)
    (λ so.
    let e = eqb-true (half k) u so in
    subst (λ v. TallyLaw test v f b (k ∷ ks)) e (same_side_next test f b k ks (tally_law test ks (half k) (f + (1 - k % 2)) (b + k % 2) asc.1)))
    (λ miss.
    next_side test u f b k ks (strict miss) asc.1 (tally_law test ks (half k) (1 - k % 2) (k % 2) asc.1))
  where
    strict : (half k == u) ≡ false → u < half k
    strict miss =
        let a = eqb_apart (half k) u miss in
        grind (arith, a, asc.0)

-- counted from the first key on
pub passing_by_pass : (test : ℕ → ℕ → ℕ → Bool) (k : ℕ) (ks : List ℕ) → AscendFrom (half k) ks
    → tallied test (half k) (1 - k % 2) (k % 2) ks ≡ passing test (k ∷ ks)
passing_by_pass test k ks asc =
    let w = half k in
    let law = tally_law test ks w (1 - k % 2) (k % 2) asc in
    let q : forth (k ∷ ks) w ≡ 1 - k % 2 + forth ks w = omega (arith, forth_cons k ks w, own_forth k) in
    let r : back (k ∷ ks) w ≡ k % 2 + back ks w = omega (arith, back_cons k ks w, own_back k) in
    let here : passes test (k ∷ ks) w ≡ cond (test w (1 - k % 2 + forth ks w) (k % 2 + back ks w)) 1 0 = λ t. cond (test w (q t) (r t)) 1 0 in
    let rest = sum_by-same (without w (passes test (k ∷ ks))) (without w (passes test ks)) (uniq (map half ks)) (λ n d less. each _) in
    omega (arith, law, here, cons_at (passes test (k ∷ ks)) w (map half ks), rest)
  where
    each : (v : ℕ) → without (half k) (passes test (k ∷ ks)) v ≡ without (half k) (passes test ks) v
    each v = by_test (v == half k)
        (λ so.
        let e = eqb-true v (half k) so in
        without_hit (half k) v (passes test (k ∷ ks)) e ∙ sym (without_hit (half k) v (passes test ks) e))
        (λ miss.
        let a = eqb_apart v (half k) miss in
        without_miss (half k) v (passes test (k ∷ ks)) a ∙ passes_later test k ks v (λ e. a (sym e)) ∙ sym (without_miss (half k) v (passes test ks) a))

-- keys that don't descend don't descend by side
pub ascend_by_side : (k : ℕ) (ks : List ℕ) → Ascend (k ∷ ks) → AscendFrom (half k) ks
ascend_by_side k [] asc = tt
ascend_by_side k (l ∷ ks) asc = (halves, ascend_by_side l ks asc.1)
  where
    halves : half k ≤ half l
    halves = omega (arith, asc.0)

-- keys in order don't descend
pub ascend-from_order : (ks : List ℕ) → IsNonDecreasing ks → Ascend ks
ascend-from_order [] h = tt
ascend-from_order (k ∷ []) h = tt
ascend-from_order (k ∷ l ∷ ks) h =
    (h 0 1 0 (omega arith) (omega arith), ascend-from_order (l ∷ ks) (λ i j d le less. h (suc i) (suc j) d (omega (arith, le)) (omega (arith, less))))
