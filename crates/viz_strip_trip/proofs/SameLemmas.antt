-- Triangles that are the same oriented triangles, each as often: they have the same names, and cells are cells.
use Rattle.std.proofs.Common.{◌≡◌, ◌≢◌, ℕ, ◌+◌, ◌<◌, ◌⊎◌, inl, inr, ⊎_elim, Bool, true, ◌&&◌, cond, List, [], ◌∷◌, refl, sym, ap, subst, ◌∙◌, arith, eqb-true, eq-eqb}
use Rattle.std.specs.Prelude.{◌||◌, ◌==◌, count_by}
use Rattle.std.specs.List.{All, Contains}
use Rattle.std.proofs.lemmas.Bool.{and_parts, cases_Bool, or_cases}
use Rattle.std.proofs.lemmas.List.Sums.{sum_by-cons}
use Rattle.std.proofs.lemmas.List.Elements.{All-nil, All-cons, All-head, All-tail, All-contains, Contains-append_left, Contains-append_right, Contains-append_cases}
use Rattle.viz_sheet.specs.Ranked.{IsCell}
use Rattle.viz_sheet.proofs.MemberLemmas.{here, there, member_cases, no_member}
use Rattle.viz_strip.specs.Strips.{are, is_same}
use Rattle.viz_strip.specs.Kept.{AreSameTriangles}
use Rattle.viz_round_trip.proofs.AgainLemmas.{members}

-- ---- counts

count-cons : (p : List ℕ → Bool) (t : List ℕ) (ts : List (List ℕ)) → count_by p (t ∷ ts) ≡ cond (p t) 1 0 + count_by p ts
count-cons p t ts = sum_by-cons (λ x. cond {A = ℕ} (p x) 1 0) t ts

-- what is counted is there
found : (p : List ℕ → Bool) (ts : List (List ℕ)) → 0 < count_by p ts → (t : List ℕ) × Contains ts t × (p t ≡ true)
found p [] lt = absurd (omega (arith, lt))
found p (t ∷ ts) lt =
    ⊎_elim (λ e. (t, here t ts, e))
    (λ e. let none : cond {A = ℕ} (p t) 1 0 ≡ 0 = ap (λ (b : Bool). cond {A = ℕ} b 1 0) e in
    let rest = found p ts (omega (arith, lt, count-cons p t ts, none)) in (rest.0, there t ts rest.0 rest.1, rest.2))
    (cases_Bool (p t))

-- what is there is counted
counted : (p : List ℕ → Bool) (ts : List (List ℕ)) (t : List ℕ) → Contains ts t → p t ≡ true → 0 < count_by p ts
counted p [] t c e = absurd (no_member t c)
counted p (s ∷ ts) t c e =
    ⊎_elim (λ same. let one : cond {A = ℕ} (p s) 1 0 ≡ 1 = ap (λ (b : Bool). cond {A = ℕ} b 1 0) (ap p same ∙ e) in omega (arith, count-cons p s ts, one))
    (λ later. let rest = counted p ts t later e in omega (arith, count-cons p s ts, rest))
    (member_cases s ts t c)

-- ---- one triangle and another

are-is : (a b c : ℕ) (u : List ℕ) → are a b c u ≡ true → u ≡ a ∷ b ∷ c ∷ []
are-is a b c [] e = absurd cc
are-is a b c (x ∷ []) e = absurd cc
are-is a b c (x ∷ y ∷ []) e = absurd cc
are-is a b c (x ∷ y ∷ z ∷ []) e =
    let p = and_parts (a == x) (b == y && c == z) e in
    let q = and_parts (b == y) (c == z) p.1 in
    let first = sym (eqb-true a x p.0) in
    let second = sym (eqb-true b y q.0) in
    let third = sym (eqb-true c z q.1) in
    λ i. first i ∷ second i ∷ third i ∷ []
are-is a b c (x ∷ y ∷ z ∷ w ∷ u) e = absurd cc

-- the rotations of three names
rotations : (a b c : ℕ) (u : List ℕ) → is_same (a ∷ b ∷ c ∷ []) u ≡ true → (u ≡ a ∷ b ∷ c ∷ []) ⊎ ((u ≡ b ∷ c ∷ a ∷ []) ⊎ (u ≡ c ∷ a ∷ b ∷ []))
rotations a b c u e =
    ⊎_elim (λ h. inl (are-is a b c u h))
    (λ h. inr (⊎_elim (λ k. inl (are-is b c a u k)) (λ k. inr (are-is c a b u k)) (or_cases (are b c a u) (are c a b u) h)))
    (or_cases (are a b c u) (are b c a u || are c a b u) e)

-- a triangle is the same as itself
are-own : (a b c : ℕ) → are a b c (a ∷ b ∷ c ∷ []) ≡ true
are-own a b c = rw (eq-eqb a a refl, eq-eqb b b refl, eq-eqb c c refl) refl

pub same-own : (a b c : ℕ) → is_same (a ∷ b ∷ c ∷ []) (a ∷ b ∷ c ∷ []) ≡ true
same-own a b c = ap (λ (t : Bool). t || (are b c a (a ∷ b ∷ c ∷ []) || are c a b (a ∷ b ∷ c ∷ []))) (are-own a b c)

-- ---- cells

-- rotated back, a cell is one
cell-back : (n a b c : ℕ) → IsCell n (b ∷ c ∷ a ∷ []) → IsCell n (a ∷ b ∷ c ∷ [])
cell-back n a b c is =
    let P : ℕ → Type 0 = λ k. k < n in
    let below = All-tail P b (c ∷ a ∷ []) is.below in
    let in_b = All-head P b (c ∷ a ∷ []) is.below in
    let in_c = All-head P c (a ∷ []) below in
    let in_a = All-head P a [] (All-tail P c (a ∷ []) below) in
    let bc = All-head (λ k. b ≢ k) c (a ∷ []) is.apart.0 in
    let ba = All-head (λ k. b ≢ k) a [] (All-tail (λ k. b ≢ k) c (a ∷ []) is.apart.0) in
    let ca = All-head (λ k. c ≢ k) a [] is.apart.1.0 in
    record {
      some = omega arith;
      most = omega arith;
      below = All-cons P a (b ∷ c ∷ []) in_a (All-cons P b (c ∷ []) in_b (All-cons P c [] in_c (All-nil P)));
      apart = (
        All-cons (λ k. a ≢ k) b (c ∷ []) (λ e. ba (sym e)) (All-cons (λ k. a ≢ k) c [] (λ e. ca (sym e)) (All-nil (λ k. a ≢ k))),
        (All-cons (λ k. b ≢ k) c [] bc (All-nil (λ k. b ≢ k)), (All-nil (λ k. c ≢ k), tt)),
      );
    }

same-cell : (n a b c : ℕ) (u : List ℕ) → is_same (a ∷ b ∷ c ∷ []) u ≡ true → IsCell n u → IsCell n (a ∷ b ∷ c ∷ [])
same-cell n a b c u e is =
    ⊎_elim (λ h. subst (IsCell n) h is)
    (λ k. ⊎_elim (λ h. cell-back n a b c (subst (IsCell n) h is)) (λ h. cell-back n a b c (cell-back n b c a (subst (IsCell n) h is))) k)
    (rotations a b c u e)

-- three names
pub record IsThree (t : List ℕ) : Type 0 where
  pub a : ℕ
  pub b : ℕ
  pub c : ℕ
  pub is : t ≡ a ∷ b ∷ c ∷ []

-- where the old ones are cells the new ones are
pub same-cells : (n : ℕ) (old new : List (List ℕ)) → AreSameTriangles old new → All (IsCell n) old → (t : List ℕ) → IsThree t → Contains new t → IsCell n t
same-cells n old new same are t three c =
    let x = three.a in
    let y = three.b in
    let z = three.c in
    let own : is_same t t ≡ true = subst (λ (s : List ℕ). is_same s s ≡ true) (sym three.is) (same-own x y z) in
    let one = found (is_same t) old (subst (λ (k : ℕ). 0 < k) (same.each t) (counted (is_same t) new t c own)) in
    let cell = same-cell n x y z one.0 (subst (λ (s : List ℕ). is_same s one.0 ≡ true) three.is one.2) (All-contains (IsCell n) old one.0 are one.1) in
    subst (IsCell n) (sym three.is) cell

-- ---- names

-- a member of a list among lists
in-members : (lists : List (List ℕ)) (t : List ℕ) (i : ℕ) → Contains lists t → Contains t i → Contains (members lists) i
in-members [] t i c d = absurd (no_member t c)
in-members (s ∷ lists) t i c d =
    ⊎_elim (λ same. Contains-append_left s (members lists) i (subst (λ (x : List ℕ). Contains x i) (sym same) d))
    (λ later. Contains-append_right s (members lists) i (in-members lists t i later d))
    (member_cases s lists t c)

of-members : (lists : List (List ℕ)) (i : ℕ) → Contains (members lists) i → (t : List ℕ) × Contains lists t × Contains t i
of-members [] i c = absurd (no_member i c)
of-members (s ∷ lists) i c =
    ⊎_elim (λ d. (s, here s lists, d))
    (λ d. let rest = of-members lists i d in (rest.0, there s lists rest.0 rest.1, rest.2))
    (Contains-append_cases s (members lists) i c)

-- a name of three is one of them rotated
in-rotated : (a b c i : ℕ) → Contains (a ∷ b ∷ c ∷ []) i → Contains (b ∷ c ∷ a ∷ []) i
in-rotated a b c i d =
    ⊎_elim (λ e. subst (λ (k : ℕ). Contains (b ∷ c ∷ a ∷ []) k) e (there b (c ∷ a ∷ []) a (there c (a ∷ []) a (here a []))))
    (λ later. Contains-append_left (b ∷ c ∷ []) (a ∷ []) i later)
    (member_cases a (b ∷ c ∷ []) i d)

in-same : (a b c i : ℕ) (u : List ℕ) → is_same (a ∷ b ∷ c ∷ []) u ≡ true → Contains (a ∷ b ∷ c ∷ []) i → Contains u i
in-same a b c i u e d =
    let back = in-rotated a b c i d in
    ⊎_elim (λ h. subst (λ (x : List ℕ). Contains x i) (sym h) d)
    (λ k. ⊎_elim (λ h. subst (λ (x : List ℕ). Contains x i) (sym h) back) (λ h. subst (λ (x : List ℕ). Contains x i) (sym h) (in-rotated b c a i back)) k)
    (rotations a b c u e)

-- a name of the old ones is one of the new ones
pub same-names : (old new : List (List ℕ)) → AreSameTriangles old new → ((t : List ℕ) → Contains old t → IsThree t) → (i : ℕ) → Contains (members old) i → Contains (members new) i
same-names old new same threes i c =
    let one = of-members old i c in
    let t = one.0 in
    let three = threes t one.1 in
    let x = three.a in
    let y = three.b in
    let z = three.c in
    let own : is_same t t ≡ true = subst (λ (s : List ℕ). is_same s s ≡ true) (sym three.is) (same-own x y z) in
    let other = found (is_same t) new (subst (λ (k : ℕ). 0 < k) (sym (same.each t)) (counted (is_same t) old t one.1 own)) in
    let there_too = in-same x y z i other.0 (subst (λ (s : List ℕ). is_same s other.0 ≡ true) three.is other.2) (subst (λ (s : List ℕ). Contains s i) three.is one.2) in
    in-members new other.0 i other.1 there_too
