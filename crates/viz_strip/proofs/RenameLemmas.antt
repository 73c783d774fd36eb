-- Strips of triangles under other names: names that differ have names that differ.
use Rattle.std.proofs.Common.{◌≡◌, ℕ, ◌<◌, Bool, true, false, not, ◌&&◌, cond, List, [], ◌∷◌, ◌++◌, map, refl, sym, ap, ap₂, subst, ◌∙◌}
use Rattle.std.specs.Prelude.{◌||◌, ◌==◌, All}
use Rattle.std.specs.List.{list_any}
use Rattle.std.proofs.lemmas.List.Elements.{All-nil, All-cons, All-head, All-tail}
use Rattle.viz_strip.specs.Strips.{AreStrips, IsFirst, IsGrown, IsStrip, IsTriangle, begun, goes_on, is_continued, runs, third}
use Rattle.viz_strip.proofs.RunLemmas.{shape}
use Rattle.viz_strip.proofs.KeptLemmas.{All-first, All-middle}

-- a triangle of three different names that are below a number
pub record IsRanked (n : ℕ) (t : List ℕ) : Type 0 where
  pub is : IsTriangle t
  pub below : All (λ r. r < n) t

module _ (n : ℕ) (f : ℕ → ℕ) (apart : (a b : ℕ) → a < n → b < n → (f a == f b) ≡ (a == b)) where
  -- the names of a triangle
  pub ends : (t : List ℕ) → IsRanked n t → (a : ℕ) × (b : ℕ) × (c : ℕ) × (t ≡ a ∷ b ∷ c ∷ []) × (a < n) × (b < n) × (c < n)
  ends t r =
      let s = shape t r.is in
      let all = subst (All (λ x. x < n)) s.3 r.below in
      let rest = All-tail (λ x. x < n) s.0 (s.1 ∷ s.2 ∷ []) all in
      (s.0, s.1, s.2, s.3, All-head (λ x. x < n) s.0 (s.1 ∷ s.2 ∷ []) all, All-head (λ x. x < n) s.1 (s.2 ∷ []) rest, All-head (λ x. x < n) s.2 [] (All-tail (λ x. x < n) s.1 (s.2 ∷ []) rest))

  runs-three : (u v a b c : ℕ) → u < n → v < n → a < n → b < n → c < n → runs (f u) (f v) (f a ∷ f b ∷ f c ∷ []) ≡ runs u v (a ∷ b ∷ c ∷ [])
  runs-three u v a b c lu lv la lb lc =
      ap₂ (λ p q. p || q)
      (ap₂ (λ p q. p && q) (apart u a lu la) (apart v b lv lb))
      (ap₂ (λ p q. p || q) (ap₂ (λ p q. p && q) (apart u b lu lb) (apart v c lv lc)) (ap₂ (λ p q. p && q) (apart u c lu lc) (apart v a lv la)))

  pub runs-renamed : (u v : ℕ) (t : List ℕ) → u < n → v < n → IsRanked n t → runs (f u) (f v) (map f t) ≡ runs u v t
  runs-renamed u v t lu lv r =
      let e = ends t r in
      ap (λ x. runs (f u) (f v) (map f x)) e.3 ∙ runs-three u v e.0 e.1 e.2 lu lv e.4 e.5 e.6 ∙ ap (runs u v) (sym e.3)

  goes-renamed : (odd : Bool) (u v : ℕ) (t : List ℕ) → u < n → v < n → IsRanked n t → goes_on odd (f u) (f v) (map f t) ≡ goes_on odd u v t
  goes-renamed true u v t lu lv r = runs-renamed v u t lv lu r
  goes-renamed false u v t lu lv r = runs-renamed u v t lu lv r

  pick : (p q : Bool) (a b c : ℕ) → cond p (cond q (f c) (f b)) (f a) ≡ f (cond p (cond q c b) a)
  pick true true a b c = refl
  pick true false a b c = refl
  pick false q a b c = refl

  third-three : (u v a b c : ℕ) → u < n → v < n → a < n → b < n → third (f u) (f v) (f a ∷ f b ∷ f c ∷ []) ≡ f (third u v (a ∷ b ∷ c ∷ []))
  third-three u v a b c lu lv la lb =
      ap₂ (λ p q. cond p (cond q (f c) (f b)) (f a)) (ap₂ (λ p q. p || q) (apart a u la lu) (apart a v la lv)) (ap₂ (λ p q. p || q) (apart b u lb lu) (apart b v lb lv))
      ∙ pick (a == u || a == v) (b == u || b == v) a b c

  third-renamed : (u v : ℕ) (t : List ℕ) → u < n → v < n → IsRanked n t → third (f u) (f v) (map f t) ≡ f (third u v t)
  third-renamed u v t lu lv r =
      let e = ends t r in
      ap (λ x. third (f u) (f v) (map f x)) e.3 ∙ third-three u v e.0 e.1 e.2 lu lv e.4 e.5 ∙ ap (λ x. f (third u v x)) (sym e.3)

  chosen-below : (p q : Bool) (a b c : ℕ) → a < n → b < n → c < n → cond p (cond q c b) a < n
  chosen-below true true a b c la lb lc = lc
  chosen-below true false a b c la lb lc = lb
  chosen-below false q a b c la lb lc = la

  third-below : (u v : ℕ) (t : List ℕ) → IsRanked n t → third u v t < n
  third-below u v t r =
      let e = ends t r in
      subst (λ x. third u v x < n) (sym e.3) (chosen-below (e.0 == u || e.0 == v) (e.1 == u || e.1 == v) e.0 e.1 e.2 e.4 e.5 e.6)

  map-append : (xs ys : List (List ℕ)) → map (map f) (xs ++ ys) ≡ map (map f) xs ++ map (map f) ys
  map-append [] ys = refl
  map-append (x ∷ xs) ys = ap (λ t. map f x ∷ t) (map-append xs ys)

  -- a test of all of some triangles, renamed
  none-renamed : (test new : List ℕ → Bool) (ts : List (List ℕ)) → ((t : List ℕ) → IsRanked n t → new (map f t) ≡ test t) → All (IsRanked n) ts → All (λ t. test t ≡ false) ts → All (λ t. new t ≡ false) (map (map f) ts)
  none-renamed test new [] same all none = All-nil (λ t. new t ≡ false)
  none-renamed test new (t ∷ ts) same all none =
      All-cons (λ s. new s ≡ false) (map f t) (map (map f) ts) (same t (All-head (IsRanked n) t ts all) ∙ All-head (λ s. test s ≡ false) t ts none)
      (none-renamed test new ts same (All-tail (IsRanked n) t ts all) (All-tail (λ s. test s ≡ false) t ts none))

  any-renamed : (test new : List ℕ → Bool) (ts : List (List ℕ)) → ((t : List ℕ) → IsRanked n t → new (map f t) ≡ test t) → All (IsRanked n) ts → list_any new (map (map f) ts) ≡ list_any test ts
  any-renamed test new [] same all = refl
  any-renamed test new (t ∷ ts) same all =
      ap₂ (λ p q. p || q) (same t (All-head (IsRanked n) t ts all)) (any-renamed test new ts same (All-tail (IsRanked n) t ts all))

  all-front : (xs ys : List (List ℕ)) → All (IsRanked n) (xs ++ ys) → All (IsRanked n) xs
  all-front [] ys a = All-nil (IsRanked n)
  all-front (x ∷ xs) ys a = All-cons (IsRanked n) x xs (All-head (IsRanked n) x (xs ++ ys) a) (all-front xs ys (All-tail (IsRanked n) x (xs ++ ys) a))

  first-renamed : (test new : List ℕ → Bool) (left : List (List ℕ)) (t : List ℕ) (others : List (List ℕ)) → ((t : List ℕ) → IsRanked n t → new (map f t) ≡ test t) → All (IsRanked n) left → IsFirst test left t others
      → IsFirst new (map (map f) left) (map f t) (map (map f) others)
  first-renamed test new left t others same all i =
      let split = subst (All (IsRanked n)) i.all all in
      record {
        front = map (map f) i.front;
        behind = map (map f) i.behind;
        all = ap (map (map f)) i.all ∙ map-append i.front (t ∷ i.behind);
        others_are = ap (map (map f)) i.others_are ∙ map-append i.front i.behind;
        passes = same t (All-middle (IsRanked n) i.front t i.behind split).0 ∙ i.passes;
        first = none-renamed test new i.front same (all-front i.front (t ∷ i.behind) split) i.first;
      }

  grown-renamed : (odd : Bool) (u v : ℕ) (more : List ℕ) (left rest : List (List ℕ)) → u < n → v < n → All (IsRanked n) left → IsGrown odd u v more left rest
      → IsGrown odd (f u) (f v) (map f more) (map (map f) left) (map (map f) rest) × All (IsRanked n) rest
  grown-renamed odd u v [] left rest lu lv all g =
      ((none-renamed (goes_on odd u v) (goes_on odd (f u) (f v)) left (λ t r. goes-renamed odd u v t lu lv r) all g.0, ap (map (map f)) g.1), subst (All (IsRanked n)) (sym g.1) all)
  grown-renamed odd u v (w ∷ more) left rest lu lv all g =
      let t = g.0 in
      let others = g.1 in
      let split = All-first (IsRanked n) (goes_on odd u v) left t others g.2 all in
      let lw : w < n = subst (λ x. x < n) (sym g.3) (third-below u v t split.0) in
      let deep = grown-renamed (not odd) v w more others rest lv lw split.1 g.4 in (
        (
          map f t,
          map (map f) others,
          first-renamed (goes_on odd u v) (goes_on odd (f u) (f v)) left t others (λ s r. goes-renamed odd u v s lu lv r) all g.2,
          ap f g.3 ∙ sym (third-renamed u v t lu lv split.0),
          deep.0,
        ),
        deep.1,
      )

  -- whether one of the others continues three names
  open-three : (a b c : ℕ) (left : List (List ℕ)) → b < n → c < n → All (IsRanked n) left → is_continued (map (map f) left) (f a ∷ f b ∷ f c ∷ []) ≡ is_continued left (a ∷ b ∷ c ∷ [])
  open-three a b c left lb lc all = any-renamed (runs c b) (runs (f c) (f b)) left (λ t r. runs-renamed c b t lc lb r) all

  pick-row : (p q r : Bool) (x y z : List ℕ) → cond p (map f x) (cond q (map f y) (cond r (map f z) (map f x))) ≡ map f (cond p x (cond q y (cond r z x)))
  pick-row true q r x y z = refl
  pick-row false true r x y z = refl
  pick-row false false true x y z = refl
  pick-row false false false x y z = refl

  begun-three : (a b c : ℕ) (left : List (List ℕ)) → a < n → b < n → c < n → All (IsRanked n) left → begun (map (map f) left) (f a ∷ f b ∷ f c ∷ []) ≡ map f (begun left (a ∷ b ∷ c ∷ []))
  begun-three a b c left la lb lc all =
      ap (λ p. cond p (f a ∷ f b ∷ f c ∷ []) (cond (is_continued (map (map f) left) (f b ∷ f c ∷ f a ∷ [])) (f b ∷ f c ∷ f a ∷ []) (cond (is_continued (map (map f) left) (f c ∷ f a ∷ f b ∷ [])) (f c ∷ f a ∷ f b ∷ []) (f a ∷ f b ∷ f c ∷ [])))) (open-three a b c left lb lc all)
      ∙ ap (λ q. cond (is_continued left (a ∷ b ∷ c ∷ [])) (f a ∷ f b ∷ f c ∷ []) (cond q (f b ∷ f c ∷ f a ∷ []) (cond (is_continued (map (map f) left) (f c ∷ f a ∷ f b ∷ [])) (f c ∷ f a ∷ f b ∷ []) (f a ∷ f b ∷ f c ∷ [])))) (open-three b c a left lc la all)
      ∙ ap (λ r. cond (is_continued left (a ∷ b ∷ c ∷ [])) (f a ∷ f b ∷ f c ∷ []) (cond (is_continued left (b ∷ c ∷ a ∷ [])) (f b ∷ f c ∷ f a ∷ []) (cond r (f c ∷ f a ∷ f b ∷ []) (f a ∷ f b ∷ f c ∷ [])))) (open-three c a b left la lb all)
      ∙ pick-row (is_continued left (a ∷ b ∷ c ∷ [])) (is_continued left (b ∷ c ∷ a ∷ [])) (is_continued left (c ∷ a ∷ b ∷ [])) (a ∷ b ∷ c ∷ []) (b ∷ c ∷ a ∷ []) (c ∷ a ∷ b ∷ [])

  begun-renamed : (t : List ℕ) (left : List (List ℕ)) → IsRanked n t → All (IsRanked n) left → begun (map (map f) left) (map f t) ≡ map f (begun left t)
  begun-renamed t left r all =
      let e = ends t r in
      ap (λ x. begun (map (map f) left) (map f x)) e.3 ∙ begun-three e.0 e.1 e.2 left e.4 e.5 e.6 all ∙ ap (λ x. map f (begun left x)) (sym e.3)

  pick-below : (p q r : Bool) (x y z : List ℕ) → All (λ k. k < n) x → All (λ k. k < n) y → All (λ k. k < n) z → All (λ k. k < n) (cond p x (cond q y (cond r z x)))
  pick-below true q r x y z lx ly lz = lx
  pick-below false true r x y z lx ly lz = ly
  pick-below false false true x y z lx ly lz = lz
  pick-below false false false x y z lx ly lz = lx

  three-below : (a b c : ℕ) → a < n → b < n → c < n → All (λ k. k < n) (a ∷ b ∷ c ∷ [])
  three-below a b c la lb lc =
      All-cons (λ k. k < n) a (b ∷ c ∷ []) la (All-cons (λ k. k < n) b (c ∷ []) lb (All-cons (λ k. k < n) c [] lc (All-nil (λ k. k < n))))

  begun-below : (t : List ℕ) (left : List (List ℕ)) → IsRanked n t → All (λ k. k < n) (begun left t)
  begun-below t left r =
      let e = ends t r in
      subst (λ x. All (λ k. k < n) (begun left x)) (sym e.3)
      (pick-below (is_continued left (e.0 ∷ e.1 ∷ e.2 ∷ [])) (is_continued left (e.1 ∷ e.2 ∷ e.0 ∷ [])) (is_continued left (e.2 ∷ e.0 ∷ e.1 ∷ [])) (e.0 ∷ e.1 ∷ e.2 ∷ []) (e.1 ∷ e.2 ∷ e.0 ∷ []) (e.2 ∷ e.0 ∷ e.1 ∷ [])
      (three-below e.0 e.1 e.2 e.4 e.5 e.6) (three-below e.1 e.2 e.0 e.5 e.6 e.4) (three-below e.2 e.0 e.1 e.6 e.4 e.5))

  strip-renamed : (t : List ℕ) (left : List (List ℕ)) (strip : List ℕ) (rest : List (List ℕ)) → IsRanked n t → All (IsRanked n) left → IsStrip t left strip rest
      → IsStrip (map f t) (map (map f) left) (map f strip) (map (map f) rest) × All (IsRanked n) rest
  strip-renamed t left strip rest r all s =
      let below = subst (All (λ k. k < n)) s.begins (begun-below t left r) in
      let behind = All-tail (λ k. k < n) s.a (s.b ∷ s.c ∷ []) below in
      let lb = All-head (λ k. k < n) s.b (s.c ∷ []) behind in
      let lc = All-head (λ k. k < n) s.c [] (All-tail (λ k. k < n) s.b (s.c ∷ []) behind) in
      let g = grown-renamed true s.b s.c s.more left rest lb lc all s.grown in
      (record { a = f s.a; b = f s.b; c = f s.c; more = map f s.more; begins = begun-renamed t left r all ∙ ap (map f) s.begins; is = ap (map f) s.is; grown = g.0 }, g.1)

  -- the strips of renamed triangles are the strips renamed
  pub strips-renamed : (left strips : List (List ℕ)) → All (IsRanked n) left → AreStrips left strips → AreStrips (map (map f) left) (map (map f) strips)
  strips-renamed left [] all s = ap (map (map f)) s
  strips-renamed left (strip ∷ strips) all s =
      let t = s.0 in
      let others = s.1 in
      let rest = s.2 in
      let whole = subst (All (IsRanked n)) s.3 all in
      let one = strip-renamed t others strip rest (All-head (IsRanked n) t others whole) (All-tail (IsRanked n) t others whole) s.4 in
      (map f t, map (map f) others, map (map f) rest, ap (map (map f)) s.3, one.0, strips-renamed rest strips one.1 s.5)
