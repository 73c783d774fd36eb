-- Which leaves a cell has, and the leaves of vertices at spots.
use Rattle.std.proofs.Common.{◌≡◌, ℕ, suc, ◌+◌, ◌<◌, ◌≤◌, ◌==◌, Bool, true, false, ◌&&◌, ◌||◌, ◌⊎◌, inl, inr, ⊎_elim, List, [], ◌∷◌, nat_eq, cond, refl, sym, ap, subst, ◌∙◌, true≢false, arith, eqb-true}
use Rattle.std.specs.List.{All, Contains, flat_map, list_all, list_any}
use Rattle.std.proofs.lemmas.Bool.{and_parts}
use Rattle.std.proofs.lemmas.List.Elements.{All-nil, All-cons}
use Rattle.viz_sheet.proofs.MemberLemmas.{here, there, member_cases, no_member}
use Rattle.viz_clip_meaning.specs.declared.vertex.Vertex.TheVariants.{Corner, Cut}
use Rattle.viz_clip_meaning.specs.Vertices.{leaves_at}
use Rattle.viz_clip_meaning.proofs.SpotLemmas.{Four, Rises, Spot, c0, c1, c2, c3, e01, e02, e03, e12, e13, e23, four, vertex_at}
use Rattle.viz_clip_law.proofs.FaceLemmas.{first_of, second_of, third_of}
use Rattle.viz_clip_law.proofs.SpotTable.{Face, no0, no1, no2, no3}

-- ---- tests of members

pub in-any : (leaf : ℕ) (xs : List ℕ) → Contains xs leaf → list_any (nat_eq leaf) xs ≡ true
in-any leaf [] c = absurd (no_member leaf c)
in-any leaf (x ∷ xs) c =
    ⊎_elim (λ e. front (nat_eq leaf x) (list_any (nat_eq leaf) xs) (same leaf x (sym e))) (λ d. back (nat_eq leaf x) (list_any (nat_eq leaf) xs) (in-any leaf xs d)) (member_cases x xs leaf c)
  where
    same : (a b : ℕ) → a ≡ b → nat_eq a b ≡ true
    same a b e = grind (arith, e)

    front : (p q : Bool) → p ≡ true → (p || q) ≡ true
    front true q e = refl
    front false q e = absurd (true≢false (sym e))

    back : (p q : Bool) → q ≡ true → (p || q) ≡ true
    back true q e = refl
    back false q e = e

pub any-in : (leaf : ℕ) (xs : List ℕ) → list_any (nat_eq leaf) xs ≡ true → Contains xs leaf
any-in leaf [] e = absurd (true≢false (sym e))
any-in leaf (x ∷ xs) e = at (nat_eq leaf x) refl e (any-in leaf xs)
  where
    at : (b : Bool) → nat_eq leaf x ≡ b → (b || list_any (nat_eq leaf) xs) ≡ true → (list_any (nat_eq leaf) xs ≡ true → Contains xs leaf) → Contains (x ∷ xs) leaf
    at true is h later = subst (Contains (x ∷ xs)) (sym (eqb-true leaf x is)) (here x xs)
    at false is h later = there x xs leaf (later h)

-- ---- four leaves

pub four-cases : (x : Four) (p : ℕ) → Contains (four x) p → (x.a ≡ p) ⊎ ((x.b ≡ p) ⊎ ((x.c ≡ p) ⊎ (x.d ≡ p)))
four-cases x p c =
    ⊎_elim inl
    (λ d. inr (⊎_elim inl
    (λ e. inr (⊎_elim inl
    (λ g. inr (⊎_elim (λ h. h) (λ k. absurd (no_member p k)) (member_cases x.d [] p g)))
    (member_cases x.c (x.d ∷ []) p e)))
    (member_cases x.b (x.c ∷ x.d ∷ []) p d)))
    (member_cases x.a (x.b ∷ x.c ∷ x.d ∷ []) p c)

-- three leaves in order are those of a face
pub record IsFace (x : Four) (p q r : ℕ) : Type 0 where
  pub face : Face
  pub first : first_of face x ≡ p
  pub second : second_of face x ≡ q
  pub third : third_of face x ≡ r

by-four : {A : Type 0} {P Q R S : Type 0} → P ⊎ (Q ⊎ (R ⊎ S)) → (P → A) → (Q → A) → (R → A) → (S → A) → A
by-four e a b c d = ⊎_elim a (λ f. ⊎_elim b (λ g. ⊎_elim c d g) f) e

pub sub-face : (x : Four) (p q r : ℕ) → Rises x → p < q → q < r → Contains (four x) p → Contains (four x) q → Contains (four x) r → IsFace x p q r
sub-face x p q r h pq qr cp cq cr =
    by-four (four-cases x p cp)
    (λ e. by-four (four-cases x q cq)
    (λ f. absurd (omega (arith, h.ab, h.bc, h.cd, pq, qr, e, f)))
    (λ f. by-four (four-cases x r cr)
    (λ g. absurd (omega (arith, h.ab, h.bc, h.cd, pq, qr, f, g)))
    (λ g. absurd (omega (arith, h.ab, h.bc, h.cd, pq, qr, f, g)))
    (λ g. record { face = no3; first = e; second = f; third = g })
    (λ g. record { face = no2; first = e; second = f; third = g }))
    (λ f. by-four (four-cases x r cr)
    (λ g. absurd (omega (arith, h.ab, h.bc, h.cd, pq, qr, f, g)))
    (λ g. absurd (omega (arith, h.ab, h.bc, h.cd, pq, qr, f, g)))
    (λ g. absurd (omega (arith, h.ab, h.bc, h.cd, pq, qr, f, g)))
    (λ g. record { face = no1; first = e; second = f; third = g }))
    (λ f. by-four (four-cases x r cr)
    (λ g. absurd (omega (arith, h.ab, h.bc, h.cd, pq, qr, f, g)))
    (λ g. absurd (omega (arith, h.ab, h.bc, h.cd, pq, qr, f, g)))
    (λ g. absurd (omega (arith, h.ab, h.bc, h.cd, pq, qr, f, g)))
    (λ g. absurd (omega (arith, h.ab, h.bc, h.cd, pq, qr, f, g)))))
    (λ e. by-four (four-cases x q cq)
    (λ f. absurd (omega (arith, h.ab, h.bc, h.cd, pq, qr, e, f)))
    (λ f. absurd (omega (arith, h.ab, h.bc, h.cd, pq, qr, e, f)))
    (λ f. by-four (four-cases x r cr)
    (λ g. absurd (omega (arith, h.ab, h.bc, h.cd, pq, qr, f, g)))
    (λ g. absurd (omega (arith, h.ab, h.bc, h.cd, pq, qr, f, g)))
    (λ g. absurd (omega (arith, h.ab, h.bc, h.cd, pq, qr, f, g)))
    (λ g. record { face = no0; first = e; second = f; third = g }))
    (λ f. by-four (four-cases x r cr)
    (λ g. absurd (omega (arith, h.ab, h.bc, h.cd, pq, qr, f, g)))
    (λ g. absurd (omega (arith, h.ab, h.bc, h.cd, pq, qr, f, g)))
    (λ g. absurd (omega (arith, h.ab, h.bc, h.cd, pq, qr, f, g)))
    (λ g. absurd (omega (arith, h.ab, h.bc, h.cd, pq, qr, f, g)))))
    (λ e. by-four (four-cases x q cq)
    (λ f. absurd (omega (arith, h.ab, h.bc, h.cd, pq, qr, e, f)))
    (λ f. absurd (omega (arith, h.ab, h.bc, h.cd, pq, qr, e, f)))
    (λ f. absurd (omega (arith, h.ab, h.bc, h.cd, pq, qr, e, f)))
    (λ f. by-four (four-cases x r cr)
    (λ g. absurd (omega (arith, h.ab, h.bc, h.cd, pq, qr, f, g)))
    (λ g. absurd (omega (arith, h.ab, h.bc, h.cd, pq, qr, f, g)))
    (λ g. absurd (omega (arith, h.ab, h.bc, h.cd, pq, qr, f, g)))
    (λ g. absurd (omega (arith, h.ab, h.bc, h.cd, pq, qr, f, g)))))
    (λ e. by-four (four-cases x q cq)
    (λ f. absurd (omega (arith, h.ab, h.bc, h.cd, pq, qr, e, f)))
    (λ f. absurd (omega (arith, h.ab, h.bc, h.cd, pq, qr, e, f)))
    (λ f. absurd (omega (arith, h.ab, h.bc, h.cd, pq, qr, e, f)))
    (λ f. absurd (omega (arith, h.ab, h.bc, h.cd, pq, qr, e, f))))

-- ---- leaves of vertices

one : (x : Four) (a : ℕ) → Contains (four x) a → All (Contains (four x)) (a ∷ [])
one x a ca = All-cons (Contains (four x)) a [] ca (All-nil (Contains (four x)))

two : (x : Four) (a b : ℕ) → Contains (four x) a → Contains (four x) b → All (Contains (four x)) (a ∷ b ∷ [])
two x a b ca cb = All-cons (Contains (four x)) a (b ∷ []) ca (one x b cb)

pub leaves-in : (x : Four) (s : Spot) → All (Contains (four x)) (leaves_at (vertex_at x s))
leaves-in x c0 = one x x.a (0, omega arith, refl)
leaves-in x c1 = one x x.b (1, omega arith, refl)
leaves-in x c2 = one x x.c (2, omega arith, refl)
leaves-in x c3 = one x x.d (3, omega arith, refl)
leaves-in x e01 = two x x.a x.b (0, omega arith, refl) (1, omega arith, refl)
leaves-in x e02 = two x x.a x.c (0, omega arith, refl) (2, omega arith, refl)
leaves-in x e03 = two x x.a x.d (0, omega arith, refl) (3, omega arith, refl)
leaves-in x e12 = two x x.b x.c (1, omega arith, refl) (2, omega arith, refl)
leaves-in x e13 = two x x.b x.d (1, omega arith, refl) (3, omega arith, refl)
leaves-in x e23 = two x x.c x.d (2, omega arith, refl) (3, omega arith, refl)
