-- Triangles, their rotations, and the third name beside two.
use Rattle.std.proofs.Common.{◌≡◌, ◌≢◌, ℕ, ◌⊎◌, inl, inr, ⊎_elim, Bool, true, false, ◌&&◌, cond, List, [], ◌∷◌, refl, sym, ap, ◌∙◌, arith, eqb-true, eq-eqb}
use Rattle.std.specs.Prelude.{◌||◌, ◌==◌}
use Rattle.std.specs.List.{list_any}
use Rattle.std.proofs.lemmas.Bool.{and_parts, or_cases, or_left, or_right, or_from, ne_eqb, cond_both}
use Rattle.std.proofs.lemmas.List.Elements.{All-head, All-tail}
use Rattle.viz_strip.specs.Strips.{IsTriangle, begun, goes_on, is_continued, piece, rotated, runs, third}

-- a test of triangles that a rotation doesn't change
abbrev pub IsRound : (List ℕ → Bool) → Type 0
IsRound p = (a b c : ℕ) → p (b ∷ c ∷ a ∷ []) ≡ p (a ∷ b ∷ c ∷ [])

-- the three names of a triangle
pub shape : (t : List ℕ) → IsTriangle t → (a : ℕ) × (b : ℕ) × (c : ℕ) × (t ≡ a ∷ b ∷ c ∷ []) × (a ≢ b) × (a ≢ c) × (b ≢ c)
shape [] is = absurd (omega (arith, is.three))
shape (a ∷ []) is = absurd (omega (arith, is.three))
shape (a ∷ b ∷ []) is = absurd (omega (arith, is.three))
shape (a ∷ b ∷ c ∷ []) is =
    let first = is.apart.0 in
    let second = is.apart.1.0 in
    (a, b, c, refl, All-head (λ y. a ≢ y) b (c ∷ []) first, All-head (λ y. a ≢ y) c [] (All-tail (λ y. a ≢ y) b (c ∷ []) first), All-head (λ y. b ≢ y) c [] second)
shape (a ∷ b ∷ c ∷ d ∷ t) is = absurd (omega (arith, is.three))

-- ---- the third name

pub third-c : (a b c u v : ℕ) → (a == u || a == v) ≡ true → (b == u || b == v) ≡ true → third u v (a ∷ b ∷ c ∷ []) ≡ c
third-c a b c u v p q = ap (λ x. cond x (cond (b == u || b == v) c b) a) p ∙ ap (λ x. cond x c b) q

pub third-b : (a b c u v : ℕ) → (a == u || a == v) ≡ true → (b == u || b == v) ≡ false → third u v (a ∷ b ∷ c ∷ []) ≡ b
third-b a b c u v p q = ap (λ x. cond x (cond (b == u || b == v) c b) a) p ∙ ap (λ x. cond x c b) q

pub third-a : (a b c u v : ℕ) → (a == u || a == v) ≡ false → third u v (a ∷ b ∷ c ∷ []) ≡ a
third-a a b c u v p = ap (λ x. cond x (cond (b == u || b == v) c b) a) p

pub one-of : (a u v : ℕ) → (a ≡ u) ⊎ (a ≡ v) → (a == u || a == v) ≡ true
one-of a u v h = ⊎_elim (λ e. or_left (a == u) (a == v) (eq-eqb a u e)) (λ e. or_right (a == u) (a == v) (eq-eqb a v e)) h

pub none-of : (a u v : ℕ) → a ≢ u → a ≢ v → (a == u || a == v) ≡ false
none-of a u v m n = or_from (a == u) (a == v) (ne_eqb a u m) (ne_eqb a v n)

-- where a triangle runs from x to y, it is x, y and the third name, rotated
pub third-runs : (p : List ℕ → Bool) (round : IsRound p) (u v x y a b c : ℕ) → a ≢ b → a ≢ c → b ≢ c → ((u ≡ x) × (v ≡ y)) ⊎ ((u ≡ y) × (v ≡ x)) → runs x y (a ∷ b ∷ c ∷ []) ≡ true
    → p (x ∷ y ∷ third u v (a ∷ b ∷ c ∷ []) ∷ []) ≡ p (a ∷ b ∷ c ∷ [])
third-runs p round u v x y a b c ab ac bc ends h =
    ⊎_elim
    (λ k. let q = and_parts (x == a) (y == b) k in ab-case (eqb-true x a q.0) (eqb-true y b q.1))
    (λ r. ⊎_elim
    (λ k. let q = and_parts (x == b) (y == c) k in bc-case (eqb-true x b q.0) (eqb-true y c q.1))
    (λ k. let q = and_parts (x == c) (y == a) k in ca-case (eqb-true x c q.0) (eqb-true y a q.1))
    (or_cases (x == b && y == c) (x == c && y == a) r))
    (or_cases (x == a && y == b) ((x == b && y == c) || (x == c && y == a)) h)
  where
    among-x : (m : ℕ) → m ≡ x → (m ≡ u) ⊎ (m ≡ v)
    among-x m e = ⊎_elim (λ d. inl (e ∙ sym d.0)) (λ d. inr (e ∙ sym d.1)) ends

    among-y : (m : ℕ) → m ≡ y → (m ≡ u) ⊎ (m ≡ v)
    among-y m e = ⊎_elim (λ d. inr (e ∙ sym d.1)) (λ d. inl (e ∙ sym d.0)) ends

    not-ends : (m : ℕ) → m ≢ x → m ≢ y → (m == u || m == v) ≡ false
    not-ends m f g = ⊎_elim (λ d. none-of m u v (λ e. f (e ∙ d.0)) (λ e. g (e ∙ d.1))) (λ d. none-of m u v (λ e. g (e ∙ d.0)) (λ e. f (e ∙ d.1))) ends

    put : (i j k : ℕ) → x ≡ i → y ≡ j → third u v (a ∷ b ∷ c ∷ []) ≡ k → p (x ∷ y ∷ third u v (a ∷ b ∷ c ∷ []) ∷ []) ≡ p (i ∷ j ∷ k ∷ [])
    put i j k e f g =
        ap (λ z. p (z ∷ y ∷ third u v (a ∷ b ∷ c ∷ []) ∷ [])) e ∙ ap (λ z. p (i ∷ z ∷ third u v (a ∷ b ∷ c ∷ []) ∷ [])) f ∙ ap (λ z. p (i ∷ j ∷ z ∷ [])) g

    ab-case : x ≡ a → y ≡ b → p (x ∷ y ∷ third u v (a ∷ b ∷ c ∷ []) ∷ []) ≡ p (a ∷ b ∷ c ∷ [])
    ab-case e f = put a b c e f (third-c a b c u v (one-of a u v (among-x a (sym e))) (one-of b u v (among-y b (sym f))))

    bc-case : x ≡ b → y ≡ c → p (x ∷ y ∷ third u v (a ∷ b ∷ c ∷ []) ∷ []) ≡ p (a ∷ b ∷ c ∷ [])
    bc-case e f = put b c a e f (third-a a b c u v (not-ends a (λ k. ab (k ∙ e)) (λ k. ac (k ∙ f)))) ∙ round a b c

    ca-case : x ≡ c → y ≡ a → p (x ∷ y ∷ third u v (a ∷ b ∷ c ∷ []) ∷ []) ≡ p (a ∷ b ∷ c ∷ [])
    ca-case e f = put c a b e f (third-b a b c u v (one-of a u v (among-y a (sym f))) (not-ends b (λ k. bc (k ∙ e)) (λ k. ab (sym (k ∙ f))))) ∙ round b c a ∙ round a b c

pub third-same : (p : List ℕ → Bool) (round : IsRound p) (odd : Bool) (u v : ℕ) (t : List ℕ) → IsTriangle t → goes_on odd u v t ≡ true → p (piece odd u v (third u v t)) ≡ p t
third-same p round true u v t is h =
    let s = shape t is in
    ap (λ x. p (v ∷ u ∷ third u v x ∷ [])) s.3 ∙ third-runs p round u v v u s.0 s.1 s.2 s.4 s.5 s.6 (inr (refl, refl)) (ap (runs v u) (sym s.3) ∙ h) ∙ ap p (sym s.3)
third-same p round false u v t is h =
    let s = shape t is in
    ap (λ x. p (u ∷ v ∷ third u v x ∷ [])) s.3 ∙ third-runs p round u v u v s.0 s.1 s.2 s.4 s.5 s.6 (inl (refl, refl)) (ap (runs u v) (sym s.3) ∙ h) ∙ ap p (sym s.3)

-- ---- the triangle that begins a strip

pub turned-same : (p : List ℕ → Bool) (round : IsRound p) (left : List (List ℕ)) (t : List ℕ) → IsTriangle t → p (begun left t) ≡ p t
turned-same p round left t is =
    let s = shape t is in
    let a = s.0 in
    let b = s.1 in
    let c = s.2 in
    let it = a ∷ b ∷ c ∷ [] in
    let goal : List ℕ → Type 0 = λ r. p r ≡ p it in
    ap (λ x. p (begun left x)) s.3
    ∙ cond_both (is_continued left it) it _ goal (λ _. refl)
    (λ _. cond_both (is_continued left (rotated it)) (rotated it) _ goal (λ _. round a b c)
    (λ _. cond_both (is_continued left (rotated (rotated it))) (rotated (rotated it)) it goal (λ _. round b c a ∙ round a b c) (λ _. refl)))
    ∙ ap p (sym s.3)

pub begun-first : (left : List (List ℕ)) (a b c : ℕ) → list_any (runs c b) left ≡ true → begun left (a ∷ b ∷ c ∷ []) ≡ a ∷ b ∷ c ∷ []
begun-first left a b c h = ap (λ x. cond x (a ∷ b ∷ c ∷ []) (cond (list_any (runs a c) left) (b ∷ c ∷ a ∷ []) (cond (list_any (runs b a) left) (c ∷ a ∷ b ∷ []) (a ∷ b ∷ c ∷ [])))) h

pub begun-second : (left : List (List ℕ)) (a b c : ℕ) → list_any (runs c b) left ≡ false → list_any (runs a c) left ≡ true → begun left (a ∷ b ∷ c ∷ []) ≡ b ∷ c ∷ a ∷ []
begun-second left a b c n h =
    ap (λ x. cond x (a ∷ b ∷ c ∷ []) (cond (list_any (runs a c) left) (b ∷ c ∷ a ∷ []) (cond (list_any (runs b a) left) (c ∷ a ∷ b ∷ []) (a ∷ b ∷ c ∷ [])))) n
    ∙ ap (λ x. cond x (b ∷ c ∷ a ∷ []) (cond (list_any (runs b a) left) (c ∷ a ∷ b ∷ []) (a ∷ b ∷ c ∷ []))) h

pub begun-last : (left : List (List ℕ)) (a b c : ℕ) → list_any (runs c b) left ≡ false → list_any (runs a c) left ≡ false → begun left (a ∷ b ∷ c ∷ []) ≡ cond (list_any (runs b a) left) (c ∷ a ∷ b ∷ []) (a ∷ b ∷ c ∷ [])
begun-last left a b c n m =
    ap (λ x. cond x (a ∷ b ∷ c ∷ []) (cond (list_any (runs a c) left) (b ∷ c ∷ a ∷ []) (cond (list_any (runs b a) left) (c ∷ a ∷ b ∷ []) (a ∷ b ∷ c ∷ [])))) n
    ∙ ap (λ x. cond x (b ∷ c ∷ a ∷ []) (cond (list_any (runs b a) left) (c ∷ a ∷ b ∷ []) (a ∷ b ∷ c ∷ []))) m
