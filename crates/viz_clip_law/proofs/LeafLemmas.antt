-- The leaves of vertices at spots, by which corners a spot is of, and leaves that determine others.
use Rattle.std.proofs.Common.{◌≡◌, ℕ, suc, ◌+◌, ◌<◌, ◌≤◌, Bool, true, false, ◌&&◌, ◌||◌, ◌⊎◌, inl, inr, ⊎_elim, List, [], ◌∷◌, refl, sym, ap, subst, ◌∙◌, true≢false, arith}
use Rattle.std.specs.List.{All, Contains}
use Rattle.std.proofs.lemmas.List.Elements.{All-nil, All-cons}
use Rattle.viz_sheet.proofs.MemberLemmas.{member_cases, no_member}
use Rattle.viz_clip_meaning.specs.Vertices.{leaves_at}
use Rattle.viz_clip_meaning.proofs.SpotLemmas.{Four, Rises, Spot, c0, c1, c2, c3, e01, e02, e03, e12, e13, e23, four, vertex_at}
use Rattle.viz_clip_law.specs.Facets.{is_cut}
use Rattle.viz_clip_law.proofs.FaceLemmas.{based, first_of, second_of, third_of}
use Rattle.viz_clip_law.proofs.MembersLemmas.{IsFace, sub-face}
use Rattle.viz_clip_law.proofs.SpotTable.{Face, no0, no1, no2, no3, cut_spot, flat, of0, of1, of2, of3}

-- the leaf of corner 0
pub leaf0 : (x : Four) (s : Spot) → of0 s ≡ true → Contains (leaves_at (vertex_at x s)) x.a
leaf0 x c0 e = (0, omega arith, refl)
leaf0 x c1 e = absurd (true≢false (sym e))
leaf0 x c2 e = absurd (true≢false (sym e))
leaf0 x c3 e = absurd (true≢false (sym e))
leaf0 x e01 e = (0, omega arith, refl)
leaf0 x e02 e = (0, omega arith, refl)
leaf0 x e03 e = (0, omega arith, refl)
leaf0 x e12 e = absurd (true≢false (sym e))
leaf0 x e13 e = absurd (true≢false (sym e))
leaf0 x e23 e = absurd (true≢false (sym e))

-- the leaf of corner 1
pub leaf1 : (x : Four) (s : Spot) → of1 s ≡ true → Contains (leaves_at (vertex_at x s)) x.b
leaf1 x c0 e = absurd (true≢false (sym e))
leaf1 x c1 e = (0, omega arith, refl)
leaf1 x c2 e = absurd (true≢false (sym e))
leaf1 x c3 e = absurd (true≢false (sym e))
leaf1 x e01 e = (1, omega arith, refl)
leaf1 x e02 e = absurd (true≢false (sym e))
leaf1 x e03 e = absurd (true≢false (sym e))
leaf1 x e12 e = (0, omega arith, refl)
leaf1 x e13 e = (0, omega arith, refl)
leaf1 x e23 e = absurd (true≢false (sym e))

-- the leaf of corner 2
pub leaf2 : (x : Four) (s : Spot) → of2 s ≡ true → Contains (leaves_at (vertex_at x s)) x.c
leaf2 x c0 e = absurd (true≢false (sym e))
leaf2 x c1 e = absurd (true≢false (sym e))
leaf2 x c2 e = (0, omega arith, refl)
leaf2 x c3 e = absurd (true≢false (sym e))
leaf2 x e01 e = absurd (true≢false (sym e))
leaf2 x e02 e = (1, omega arith, refl)
leaf2 x e03 e = absurd (true≢false (sym e))
leaf2 x e12 e = (1, omega arith, refl)
leaf2 x e13 e = absurd (true≢false (sym e))
leaf2 x e23 e = (0, omega arith, refl)

-- the leaf of corner 3
pub leaf3 : (x : Four) (s : Spot) → of3 s ≡ true → Contains (leaves_at (vertex_at x s)) x.d
leaf3 x c0 e = absurd (true≢false (sym e))
leaf3 x c1 e = absurd (true≢false (sym e))
leaf3 x c2 e = absurd (true≢false (sym e))
leaf3 x c3 e = (0, omega arith, refl)
leaf3 x e01 e = absurd (true≢false (sym e))
leaf3 x e02 e = absurd (true≢false (sym e))
leaf3 x e03 e = (1, omega arith, refl)
leaf3 x e12 e = absurd (true≢false (sym e))
leaf3 x e13 e = (1, omega arith, refl)
leaf3 x e23 e = (1, omega arith, refl)

-- whether a vertex is a cut
pub cut-spot : (x : Four) (s : Spot) → is_cut (vertex_at x s) ≡ cut_spot s
cut-spot x c0 = refl
cut-spot x c1 = refl
cut-spot x c2 = refl
cut-spot x c3 = refl
cut-spot x e01 = refl
cut-spot x e02 = refl
cut-spot x e03 = refl
cut-spot x e12 = refl
cut-spot x e13 = refl
cut-spot x e23 = refl

one : (xs : List ℕ) (a : ℕ) → Contains xs a → All (Contains xs) (a ∷ [])
one xs a ca = All-cons (Contains xs) a [] ca (All-nil (Contains xs))

two : (xs : List ℕ) (a b : ℕ) → Contains xs a → Contains xs b → All (Contains xs) (a ∷ b ∷ [])
two xs a b ca cb = All-cons (Contains xs) a (b ∷ []) ca (one xs b cb)

-- the leaves of a spot of three corners
pub flat-leaves : (p q r : ℕ) (s : Spot) → flat s ≡ true → All (Contains (p ∷ q ∷ r ∷ [])) (leaves_at (vertex_at (based p q r) s))
flat-leaves p q r c0 e = one (p ∷ q ∷ r ∷ []) p (0, omega arith, refl)
flat-leaves p q r c1 e = one (p ∷ q ∷ r ∷ []) q (1, omega arith, refl)
flat-leaves p q r c2 e = one (p ∷ q ∷ r ∷ []) r (2, omega arith, refl)
flat-leaves p q r c3 e = absurd (true≢false (sym e))
flat-leaves p q r e01 e = two (p ∷ q ∷ r ∷ []) p q (0, omega arith, refl) (1, omega arith, refl)
flat-leaves p q r e02 e = two (p ∷ q ∷ r ∷ []) p r (0, omega arith, refl) (2, omega arith, refl)
flat-leaves p q r e03 e = absurd (true≢false (sym e))
flat-leaves p q r e12 e = two (p ∷ q ∷ r ∷ []) q r (1, omega arith, refl) (2, omega arith, refl)
flat-leaves p q r e13 e = absurd (true≢false (sym e))
flat-leaves p q r e23 e = absurd (true≢false (sym e))

-- ---- three leaves among three, and four

by-three : {A : Type 0} (p q r a : ℕ) → Contains (p ∷ q ∷ r ∷ []) a → (p ≡ a → A) → (q ≡ a → A) → (r ≡ a → A) → A
by-three p q r a c x y z =
    ⊎_elim x (λ d. ⊎_elim y (λ e. ⊎_elim z (λ k. absurd (no_member a k)) (member_cases r [] a e)) (member_cases q (r ∷ []) a d)) (member_cases p (q ∷ r ∷ []) a c)

pub record SameThree (p q r a b c : ℕ) : Type 0 where
  pub first : p ≡ a
  pub second : q ≡ b
  pub third : r ≡ c

pub three-same : (p q r a b c : ℕ) → p < q → q < r → a < b → b < c → Contains (p ∷ q ∷ r ∷ []) a → Contains (p ∷ q ∷ r ∷ []) b → Contains (p ∷ q ∷ r ∷ []) c → SameThree p q r a b c
three-same p q r a b c pq qr ab bc ca cb cc =
    by-three p q r a ca
    (λ e. by-three p q r b cb
    (λ f. absurd (omega (arith, pq, qr, ab, bc, e, f)))
    (λ f. by-three p q r c cc (λ g. absurd (omega (arith, pq, qr, ab, bc, f, g))) (λ g. absurd (omega (arith, pq, qr, ab, bc, f, g))) (λ g. record { first = e; second = f; third = g }))
    (λ f. by-three p q r c cc (λ g. absurd (omega (arith, pq, qr, ab, bc, f, g))) (λ g. absurd (omega (arith, pq, qr, ab, bc, f, g))) (λ g. absurd (omega (arith, pq, qr, ab, bc, f, g)))))
    (λ e. by-three p q r b cb
    (λ f. absurd (omega (arith, pq, qr, ab, bc, e, f)))
    (λ f. absurd (omega (arith, pq, qr, ab, bc, e, f)))
    (λ f. by-three p q r c cc (λ g. absurd (omega (arith, pq, qr, ab, bc, f, g))) (λ g. absurd (omega (arith, pq, qr, ab, bc, f, g))) (λ g. absurd (omega (arith, pq, qr, ab, bc, f, g)))))
    (λ e. by-three p q r b cb
    (λ f. absurd (omega (arith, pq, qr, ab, bc, e, f)))
    (λ f. absurd (omega (arith, pq, qr, ab, bc, e, f)))
    (λ f. absurd (omega (arith, pq, qr, ab, bc, e, f))))

pub four-not : (p q r a b c d : ℕ) → p < q → q < r → a < b → b < c → c < d → Contains (p ∷ q ∷ r ∷ []) a → Contains (p ∷ q ∷ r ∷ []) b → Contains (p ∷ q ∷ r ∷ []) c → Contains (p ∷ q ∷ r ∷ []) d → ⊥
four-not p q r a b c d pq qr ab bc cd ca cb cc cdd =
    let first = three-same p q r a b c pq qr ab bc ca cb cc in
    let last = three-same p q r b c d pq qr bc cd cb cc cdd in
    omega (arith, first.first, last.first, ab)

-- four leaves that ascend are four others, where each is one of these
pub record SameFour (x y : Four) : Type 0 where
  pub a : y.a ≡ x.a
  pub b : y.b ≡ x.b
  pub c : y.c ≡ x.c
  pub d : y.d ≡ x.d

faces : (x y : Four) (f g : Face) → Rises x → Rises y → first_of f y ≡ x.a → second_of f y ≡ x.b → third_of f y ≡ x.c → first_of g y ≡ x.b → second_of g y ≡ x.c → third_of g y ≡ x.d → SameFour x y
faces x y no0 no0 h k fa fb fc gb gc gd = absurd (omega (arith, h.ab, h.bc, h.cd, k.ab, k.bc, k.cd, fa, fb, fc, gb, gc, gd))
faces x y no0 no1 h k fa fb fc gb gc gd = absurd (omega (arith, h.ab, h.bc, h.cd, k.ab, k.bc, k.cd, fa, fb, fc, gb, gc, gd))
faces x y no0 no2 h k fa fb fc gb gc gd = absurd (omega (arith, h.ab, h.bc, h.cd, k.ab, k.bc, k.cd, fa, fb, fc, gb, gc, gd))
faces x y no0 no3 h k fa fb fc gb gc gd = absurd (omega (arith, h.ab, h.bc, h.cd, k.ab, k.bc, k.cd, fa, fb, fc, gb, gc, gd))
faces x y no1 no0 h k fa fb fc gb gc gd = absurd (omega (arith, h.ab, h.bc, h.cd, k.ab, k.bc, k.cd, fa, fb, fc, gb, gc, gd))
faces x y no1 no1 h k fa fb fc gb gc gd = absurd (omega (arith, h.ab, h.bc, h.cd, k.ab, k.bc, k.cd, fa, fb, fc, gb, gc, gd))
faces x y no1 no2 h k fa fb fc gb gc gd = absurd (omega (arith, h.ab, h.bc, h.cd, k.ab, k.bc, k.cd, fa, fb, fc, gb, gc, gd))
faces x y no1 no3 h k fa fb fc gb gc gd = absurd (omega (arith, h.ab, h.bc, h.cd, k.ab, k.bc, k.cd, fa, fb, fc, gb, gc, gd))
faces x y no2 no0 h k fa fb fc gb gc gd = absurd (omega (arith, h.ab, h.bc, h.cd, k.ab, k.bc, k.cd, fa, fb, fc, gb, gc, gd))
faces x y no2 no1 h k fa fb fc gb gc gd = absurd (omega (arith, h.ab, h.bc, h.cd, k.ab, k.bc, k.cd, fa, fb, fc, gb, gc, gd))
faces x y no2 no2 h k fa fb fc gb gc gd = absurd (omega (arith, h.ab, h.bc, h.cd, k.ab, k.bc, k.cd, fa, fb, fc, gb, gc, gd))
faces x y no2 no3 h k fa fb fc gb gc gd = absurd (omega (arith, h.ab, h.bc, h.cd, k.ab, k.bc, k.cd, fa, fb, fc, gb, gc, gd))
faces x y no3 no0 h k fa fb fc gb gc gd = record { a = fa; b = fb; c = fc; d = gd }
faces x y no3 no1 h k fa fb fc gb gc gd = absurd (omega (arith, h.ab, h.bc, h.cd, k.ab, k.bc, k.cd, fa, fb, fc, gb, gc, gd))
faces x y no3 no2 h k fa fb fc gb gc gd = absurd (omega (arith, h.ab, h.bc, h.cd, k.ab, k.bc, k.cd, fa, fb, fc, gb, gc, gd))
faces x y no3 no3 h k fa fb fc gb gc gd = absurd (omega (arith, h.ab, h.bc, h.cd, k.ab, k.bc, k.cd, fa, fb, fc, gb, gc, gd))

pub four-same : (x y : Four) → Rises x → Rises y → Contains (four y) x.a → Contains (four y) x.b → Contains (four y) x.c → Contains (four y) x.d → SameFour x y
four-same x y h k ca cb cc cd =
    let low = sub-face y x.a x.b x.c k h.ab h.bc ca cb cc in
    let high = sub-face y x.b x.c x.d k h.bc h.cd cb cc cd in
    faces x y low.face high.face h k low.first low.second low.third high.first high.second high.third
