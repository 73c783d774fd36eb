-- What strips keep, by any test of triangles that a rotation doesn't change.
use Rattle.std.proofs.Common.{◌≡◌, ℕ, ◌+◌, ⊎_elim, Bool, true, false, not, ◌&&◌, cond, List, [], ◌∷◌, ◌++◌, length, refl, sym, ap, subst, ◌∙◌, arith, eqb-true}
use Rattle.std.specs.Prelude.{◌||◌, ◌==◌, All, count_by, slice_index}
use Rattle.std.specs.List.{list_any}
use Rattle.std.proofs.lemmas.Bool.{and_parts, or_cases, or_parts, cases_Bool}
use Rattle.std.proofs.lemmas.List.Sums.{sum_by-append, sum_by-cons}
use Rattle.std.proofs.lemmas.List.Elements.{All-nil, All-cons, All-head, All-tail}
use Rattle.viz_strip.specs.Strips.{AreStrips, IsFirst, IsGrown, IsStrip, IsTriangle, all_pieces, are, begun, continues, continues_from, goes_on, is_same, piece, pieces_from, pieces_of, runs}
use Rattle.viz_strip.specs.Kept.{AreEnded, AreLoneAlone, IsAlone, KeepTriangles}
use Rattle.viz_strip.proofs.RunLemmas.{IsRound, begun-first, begun-last, begun-second, shape, third-same, turned-same}

-- ---- counts

count-cons : {X : Type 0} (p : X → Bool) (x : X) (xs : List X) → count_by p (x ∷ xs) ≡ cond (p x) 1 0 + count_by p xs
count-cons p x xs = sum_by-cons (λ y. cond {A = ℕ} (p y) 1 0) x xs

cond-same : (b c : Bool) → b ≡ c → cond {A = ℕ} b 1 0 ≡ cond {A = ℕ} c 1 0
cond-same b c e = ap (λ (x : Bool). cond {A = ℕ} x 1 0) e

count-append : {X : Type 0} (p : X → Bool) (xs ys : List X) → count_by p (xs ++ ys) ≡ count_by p xs + count_by p ys
count-append p xs ys = sum_by-append (λ y. cond {A = ℕ} (p y) 1 0) xs ys

count-first : (p test : List ℕ → Bool) (left : List (List ℕ)) (t : List ℕ) (others : List (List ℕ)) → IsFirst test left t others → count_by p left ≡ cond (p t) 1 0 + count_by p others
count-first p test left t others f =
    let a : count_by p left ≡ count_by p (f.front ++ t ∷ f.behind) = ap (count_by p) f.all in
    let b : count_by p others ≡ count_by p (f.front ++ f.behind) = ap (count_by p) f.others_are in
    omega (arith, count-append p f.front (t ∷ f.behind), count-append p f.front f.behind, count-cons p t f.behind)

pub All-middle : {X : Type 0} (P : X → Type 0) (xs : List X) (y : X) (ys : List X) → All P (xs ++ y ∷ ys) → P y × All P (xs ++ ys)
All-middle P [] y ys a = (All-head P y ys a, All-tail P y ys a)
All-middle P (x ∷ xs) y ys a =
    let r = All-middle P xs y ys (All-tail P x (xs ++ y ∷ ys) a) in
    (r.0, All-cons P x (xs ++ ys) (All-head P x (xs ++ y ∷ ys) a) r.1)

pub All-first : (P : List ℕ → Type 0) (test : List ℕ → Bool) (left : List (List ℕ)) (t : List ℕ) (others : List (List ℕ)) → IsFirst test left t others → All P left → P t × All P others
All-first P test left t others f a =
    let r = All-middle P f.front t f.behind (subst (All P) f.all a) in
    (r.0, subst (All P) (sym f.others_are) r.1)

none-count : (p : List ℕ → Bool) (ts : List (List ℕ)) → All (λ t. p t ≡ false) ts → count_by p ts ≡ 0
none-count p [] a = refl
none-count p (t ∷ ts) a =
    let h = cond-same (p t) false (All-head (λ s. p s ≡ false) t ts a) in
    omega (arith, count-cons p t ts, none-count p ts (All-tail (λ s. p s ≡ false) t ts a))

count-none : (p : List ℕ → Bool) (ts : List (List ℕ)) → count_by p ts ≡ 0 → All (λ t. p t ≡ false) ts
count-none p [] e = All-nil (λ t. p t ≡ false)
count-none p (t ∷ ts) e =
    All-cons (λ s. p s ≡ false) t ts
    (⊎_elim (λ h. absurd (omega (arith, e, count-cons p t ts, cond-same (p t) true h))) (λ h. h) (cases_Bool (p t)))
    (count-none p ts (omega (arith, e, count-cons p t ts)))

-- ---- a strip

-- what is counted of a strip's triangles and of the rest is what is counted of all
grown-count : (p : List ℕ → Bool) (round : IsRound p) (odd : Bool) (u v : ℕ) (more : List ℕ) (left rest : List (List ℕ)) → All IsTriangle left → IsGrown odd u v more left rest
    → (count_by p (pieces_from odd (u ∷ v ∷ more)) + count_by p rest ≡ count_by p left) × All IsTriangle rest
grown-count p round odd u v [] left rest a g =
    let none : count_by p (pieces_from odd (u ∷ v ∷ [])) ≡ 0 = refl in
    let same : count_by p rest ≡ count_by p left = ap (count_by p) g.1 in
    (omega arith, subst (All IsTriangle) (sym g.1) a)
grown-count p round odd u v (w ∷ more) left rest a g =
    let t = g.0 in
    let others = g.1 in
    let split = All-first IsTriangle (goes_on odd u v) left t others g.2 a in
    let deep = grown-count p round (not odd) v w more others rest split.1 g.4 in
    let same : p (piece odd u v w) ≡ p t = ap (λ x. p (piece odd u v x)) g.3 ∙ third-same p round odd u v t split.0 g.2.passes in
    let one = cond-same (p (piece odd u v w)) (p t) same in
    let pieces : count_by p (pieces_from odd (u ∷ v ∷ w ∷ more)) ≡ cond (p (piece odd u v w)) 1 0 + count_by p (pieces_from (not odd) (v ∷ w ∷ more)) = count-cons p (piece odd u v w) (pieces_from (not odd) (v ∷ w ∷ more)) in
    (omega (arith, deep.0, count-first p (goes_on odd u v) left t others g.2), deep.1)

grown-none : (odd : Bool) (u v : ℕ) (more : List ℕ) (left rest : List (List ℕ)) → IsGrown odd u v more left rest → All (λ t. continues_from odd (u ∷ v ∷ more) t ≡ false) rest
grown-none odd u v [] left rest g = subst (All (λ t. goes_on odd u v t ≡ false)) (sym g.1) g.0
grown-none odd u v (w ∷ more) left rest g = grown-none (not odd) v w more g.1 rest g.4

strip-count : (p : List ℕ → Bool) (round : IsRound p) (t : List ℕ) (left : List (List ℕ)) (strip : List ℕ) (rest : List (List ℕ)) → IsTriangle t → All IsTriangle left → IsStrip t left strip rest
    → (count_by p (pieces_of strip) + count_by p rest ≡ count_by p (t ∷ left)) × All IsTriangle rest
strip-count p round t left strip rest is a s =
    let deep = grown-count p round true s.b s.c s.more left rest a s.grown in
    let same : p (s.a ∷ s.b ∷ s.c ∷ []) ≡ p t = ap p (sym s.begins) ∙ turned-same p round left t is in
    let one = cond-same (p (s.a ∷ s.b ∷ s.c ∷ [])) (p t) same in
    let pieces : count_by p (pieces_of (s.a ∷ s.b ∷ s.c ∷ s.more)) ≡ cond (p (s.a ∷ s.b ∷ s.c ∷ [])) 1 0 + count_by p (pieces_from true (s.b ∷ s.c ∷ s.more)) = count-cons p (s.a ∷ s.b ∷ s.c ∷ []) (pieces_from true (s.b ∷ s.c ∷ s.more)) in
    let all : count_by p (pieces_of strip) ≡ count_by p (pieces_of (s.a ∷ s.b ∷ s.c ∷ s.more)) = ap (λ x. count_by p (pieces_of x)) s.is in
    (omega (arith, deep.0, count-cons p t left), deep.1)

-- ---- all strips

pub strips-count : (p : List ℕ → Bool) (round : IsRound p) (left strips : List (List ℕ)) → All IsTriangle left → AreStrips left strips → count_by p (all_pieces strips) ≡ count_by p left
strips-count p round left [] a e = ap (count_by p) (sym e)
strips-count p round left (strip ∷ strips) a s =
    let t = s.0 in
    let others = s.1 in
    let rest = s.2 in
    let all = subst (All IsTriangle) s.3 a in
    let one = strip-count p round t others strip rest (All-head IsTriangle t others all) (All-tail IsTriangle t others all) s.4 in
    let deep = strips-count p round rest strips one.1 s.5 in
    let is : count_by p left ≡ count_by p (t ∷ others) = ap (count_by p) s.3 in
    let pieces : count_by p (all_pieces (strip ∷ strips)) ≡ count_by p (pieces_of strip ++ all_pieces strips) = refl in
    omega (arith, one.0, deep, count-append p (pieces_of strip) (all_pieces strips))

-- what no triangle of the rest passes, no later strip does
later-none : (p : List ℕ → Bool) (round : IsRound p) (rest strips : List (List ℕ)) → All IsTriangle rest → AreStrips rest strips → All (λ t. p t ≡ false) rest → All (λ t. p t ≡ false) (all_pieces strips)
later-none p round rest strips a s none =
    count-none p (all_pieces strips) (strips-count p round rest strips a s ∙ none-count p rest none)

-- ---- tests that a rotation doesn't change

or-round : (p q r : Bool) → (q || (r || p)) ≡ (p || (q || r))
or-round true true r = refl
or-round true false true = refl
or-round true false false = refl
or-round false true r = refl
or-round false false true = refl
or-round false false false = refl

or-back : (p q r : Bool) → (r || (p || q)) ≡ (p || (q || r))
or-back true q true = refl
or-back true q false = refl
or-back false true true = refl
or-back false true false = refl
or-back false false true = refl
or-back false false false = refl

and-round : (p q r : Bool) → (p && (q && r)) ≡ (r && (p && q))
and-round true true true = refl
and-round true true false = refl
and-round true false true = refl
and-round true false false = refl
and-round false q true = refl
and-round false q false = refl

runs-round : (u v : ℕ) → IsRound (runs u v)
runs-round u v a b c = or-round (u == a && v == b) (u == b && v == c) (u == c && v == a)

goes-round : (odd : Bool) (u v : ℕ) → IsRound (goes_on odd u v)
goes-round true u v = runs-round v u
goes-round false u v = runs-round u v

never-round : IsRound (λ t. false)
never-round a b c = refl

continues-round : (odd : Bool) (names : List ℕ) → IsRound (continues_from odd names)
continues-round odd [] = never-round
continues-round odd (u ∷ []) = never-round
continues-round odd (u ∷ v ∷ []) = goes-round odd u v
continues-round odd (u ∷ v ∷ w ∷ names) = continues-round (not odd) (v ∷ w ∷ names)

-- are x y z of a triangle that was rotated is z x y of the triangle
are-round : (x y z a b c : ℕ) → are x y z (b ∷ c ∷ a ∷ []) ≡ are z x y (a ∷ b ∷ c ∷ [])
are-round x y z a b c = and-round (x == b) (y == c) (z == a)

same-round : (s : List ℕ) → IsRound (is_same s)
same-round [] = never-round
same-round (x ∷ []) = never-round
same-round (x ∷ y ∷ []) = never-round
same-round (x ∷ y ∷ z ∷ []) = λ a b c.
    ap (λ p. p || (are y z x (b ∷ c ∷ a ∷ []) || are z x y (b ∷ c ∷ a ∷ []))) (are-round x y z a b c)
    ∙ ap (λ p. are z x y (a ∷ b ∷ c ∷ []) || (p || are z x y (b ∷ c ∷ a ∷ []))) (are-round y z x a b c)
    ∙ ap (λ p. are z x y (a ∷ b ∷ c ∷ []) || (are x y z (a ∷ b ∷ c ∷ []) || p)) (are-round z x y a b c)
    ∙ or-back (are x y z (a ∷ b ∷ c ∷ [])) (are y z x (a ∷ b ∷ c ∷ [])) (are z x y (a ∷ b ∷ c ∷ []))
same-round (x ∷ y ∷ z ∷ w ∷ names) = never-round

-- ---- what they keep

strip-rest : (t : List ℕ) (left : List (List ℕ)) (strip : List ℕ) (rest : List (List ℕ)) → IsTriangle t → All IsTriangle left → IsStrip t left strip rest → All IsTriangle rest
strip-rest t left strip rest is a s = (strip-count (λ _. false) never-round t left strip rest is a s).1

pub are-ended : (left strips : List (List ℕ)) → All IsTriangle left → AreStrips left strips → AreEnded strips
are-ended left [] a s = tt
are-ended left (strip ∷ strips) a s =
    let t = s.0 in
    let others = s.1 in
    let rest = s.2 in
    let all = subst (All IsTriangle) s.3 a in
    let more = strip-rest t others strip rest (All-head IsTriangle t others all) (All-tail IsTriangle t others all) s.4 in
    let none : All (λ x. continues strip x ≡ false) rest = subst (λ y. All (λ x. continues y x ≡ false) rest) (sym s.4.is) (grown-none true s.4.b s.4.c s.4.more others rest s.4.grown) in
    (later-none (continues strip) (continues-round false strip) rest strips more s.5 none, are-ended rest strips more s.5)

-- ---- a strip of one triangle

-- none of these continues a strip that ends so
abbrev AreClosed : List (List ℕ) → ℕ → ℕ → Type 0
AreClosed left u v = All (λ t. runs v u t ≡ false) left

none-any : (test : List ℕ → Bool) (left : List (List ℕ)) → list_any test left ≡ false → All (λ t. test t ≡ false) left
none-any test [] e = All-nil (λ t. test t ≡ false)
none-any test (t ∷ left) e =
    let p = or_parts (test t) (list_any test left) e in
    All-cons (λ s. test s ≡ false) t left p.0 (none-any test left p.1)

any-none : (test : List ℕ → Bool) (left : List (List ℕ)) → All (λ t. test t ≡ false) left → list_any test left ≡ false
any-none test [] a = refl
any-none test (t ∷ left) a =
    ap (λ b. b || list_any test left) (All-head (λ s. test s ≡ false) t left a) ∙ any-none test left (All-tail (λ s. test s ≡ false) t left a)

-- where a triangle's strip stays alone, none of its sides is run back by one of the others
lone : (left : List (List ℕ)) (a b c p q r : ℕ) → begun left (a ∷ b ∷ c ∷ []) ≡ p ∷ q ∷ r ∷ [] → AreClosed left q r
    → (list_any (runs c b) left ≡ false) × ((list_any (runs a c) left ≡ false) × (list_any (runs b a) left ≡ false))
lone left a b c p q r e none =
    let first = cases_Bool (list_any (runs c b) left) in
    let second = cases_Bool (list_any (runs a c) left) in
    let third_ = cases_Bool (list_any (runs b a) left) in
    let one : list_any (runs c b) left ≡ false =
    ⊎_elim (λ h. open-as a b c (sym (begun-first left a b c h) ∙ e)) (λ h. h) first
    in
    let two : list_any (runs a c) left ≡ false =
    ⊎_elim (λ h. open-as b c a (sym (begun-second left a b c one h) ∙ e)) (λ h. h) second
    in
    (one, (two, ⊎_elim (λ h. open-as c a b (sym (begun-last left a b c one two ∙ ap (λ x. cond x (c ∷ a ∷ b ∷ []) (a ∷ b ∷ c ∷ [])) h) ∙ e)) (λ h. h) third_))
  where
    open-as : (x y z : ℕ) → x ∷ y ∷ z ∷ [] ≡ p ∷ q ∷ r ∷ [] → list_any (runs z y) left ≡ false
    open-as x y z h = ap (λ l. list_any (runs (slice_index l 2) (slice_index l 1)) left) h ∙ any-none (runs r q) left none

more-none : (a b c : ℕ) (more : List ℕ) → length (a ∷ b ∷ c ∷ more) ≡ 3 → more ≡ []
more-none a b c [] e = refl
more-none a b c (d ∷ more) e = absurd (omega (arith, e))

-- what runs through a side of a triangle backward isn't among the others
lone-side : (left : List (List ℕ)) (x y z a b c u v : ℕ) → begun left (x ∷ y ∷ z ∷ []) ≡ a ∷ b ∷ c ∷ [] → AreClosed left b c → runs u v (x ∷ y ∷ z ∷ []) ≡ true → All (λ t. runs v u t ≡ false) left
lone-side left x y z a b c u v e none h =
    let k = lone left x y z a b c e none in
    ⊎_elim
    (λ p. let q = and_parts (u == x) (v == y) p in at y x (eqb-true v y q.1) (eqb-true u x q.0) k.1.1)
    (λ r. ⊎_elim
    (λ p. let q = and_parts (u == y) (v == z) p in at z y (eqb-true v z q.1) (eqb-true u y q.0) k.0)
    (λ p. let q = and_parts (u == z) (v == x) p in at x z (eqb-true v x q.1) (eqb-true u z q.0) k.1.0)
    (or_cases (u == y && v == z) (u == z && v == x) r))
    (or_cases (u == x && v == y) ((u == y && v == z) || (u == z && v == x)) h)
  where
    at : (f g : ℕ) → v ≡ f → u ≡ g → list_any (runs f g) left ≡ false → All (λ t. runs v u t ≡ false) left
    at f g ev eu n = none-any (runs v u) left (ap (λ j. list_any (runs j u) left) ev ∙ ap (λ j. list_any (runs f j) left) eu ∙ n)

strip-alone : (t : List ℕ) (left : List (List ℕ)) (strip : List ℕ) (rest strips : List (List ℕ)) → IsTriangle t → All IsTriangle rest → IsStrip t left strip rest → AreStrips rest strips → IsAlone strip (all_pieces strips)
strip-alone t left strip rest strips is more s next =
    record {
      each = λ size u v h.
          let none = more-none s.a s.b s.c s.more (sym (ap length s.is) ∙ size) in
          let g : IsGrown true s.b s.c [] left rest = subst (λ m. IsGrown true s.b s.c m left rest) none s.grown in
          let same : runs u v (s.a ∷ s.b ∷ s.c ∷ []) ≡ runs u v t = ap (runs u v) (sym s.begins) ∙ turned-same (runs u v) (runs-round u v) left t is in
          let here : runs u v strip ≡ runs u v t = ap (runs u v) (s.is ∙ ap (λ m. s.a ∷ s.b ∷ s.c ∷ m) none) ∙ same in
          let corners = shape t is in
          let back : All (λ y. runs v u y ≡ false) left =
          lone-side left corners.0 corners.1 corners.2 s.a s.b s.c u v (ap (begun left) (sym corners.3) ∙ s.begins) g.0 (ap (runs u v) (sym corners.3) ∙ (sym here ∙ h))
          in
          later-none (runs v u) (runs-round v u) rest strips more next (subst (All (λ y. runs v u y ≡ false)) (sym g.1) back);
    }

pub are-alone : (left strips : List (List ℕ)) → All IsTriangle left → AreStrips left strips → AreLoneAlone strips
are-alone left [] a s = tt
are-alone left (strip ∷ strips) a s =
    let t = s.0 in
    let others = s.1 in
    let rest = s.2 in
    let all = subst (All IsTriangle) s.3 a in
    let is = All-head IsTriangle t others all in
    let more = strip-rest t others strip rest is (All-tail IsTriangle t others all) s.4 in
    (strip-alone t others strip rest strips is more s.4 s.5, are-alone rest strips more s.5)

pub keep : (triangles strips : List (List ℕ)) → All IsTriangle triangles → AreStrips triangles strips → KeepTriangles triangles strips
keep triangles strips a s =
    record {
      same = record { each = λ t. strips-count (is_same t) (same-round t) triangles strips a s };
      ended = are-ended triangles strips a s;
      alone = are-alone triangles strips a s;
    }
