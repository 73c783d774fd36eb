-- Whether a side lies on the boundary, by its three leaves.
use Rattle.std.proofs.Common.{◌≡◌, ℕ, ◌==◌, Bool, true, false, ◌&&◌, ◌||◌, List, [], ◌∷◌, refl, sym, ap, ◌∙◌, eqb-true, arith}
use Rattle.std.specs.List.{list_all}
use Rattle.std.proofs.lemmas.Bool.Decides.{nat_tests}
use Rattle.viz_extent.specs.Extent.{Bounds}
use Rattle.viz_grid_section.specs.Edges.{Edge}
use Rattle.viz_surface_law.specs.Facets.{x_of, y_of, z_of, is_on_boundary}
use Rattle.viz_surface_law.specs.Sides.{side, shares, facet_of}
use Rattle.viz_surface_law.specs.Closed.{on_boundary}

-- lists that pass the same tests lie on the boundary alike
alike : (b : Bounds) (xs ys : List ℕ) → ((q : ℕ → Bool) → list_all q xs ≡ list_all q ys) → is_on_boundary b xs ≡ is_on_boundary b ys
alike b xs ys same = λ t.
    (same (λ leaf. x_of b leaf == b.x0) t || same (λ leaf. x_of b leaf == b.x1) t)
    || ((same (λ leaf. y_of b leaf == b.y0) t || same (λ leaf. y_of b leaf == b.y1) t)
    || (same (λ leaf. z_of b leaf == b.z0) t || same (λ leaf. z_of b leaf == b.z1) t))

first_again : (p q r : Bool) → (p && (q && r)) ≡ (p && (q && (p && r)))
first_again true q r = refl
first_again false q r = refl

second_again : (p q r : Bool) → (p && (q && r)) ≡ (p && (q && (q && r)))
second_again true true r = refl
second_again true false r = refl
second_again false q r = refl

first_last : (p q r : Bool) → (p && (q && (r && true))) ≡ (p && (q && (r && (p && true))))
first_last true q r = refl
first_last false q r = refl

second_last : (p q r : Bool) → (p && (q && (r && true))) ≡ (p && (q && (r && (q && true))))
second_last true true r = refl
second_last true false r = refl
second_last false q r = refl

-- one of two tests, where either passes
either : {C : Type 0} (p q : Bool) → (p || q) ≡ true → (p ≡ true → C) → (q ≡ true → C) → C
either true q h first second = first refl
either false q h first second = second h

-- the second edge's lesser leaf is one of the first's
pub by_high : (b : Bounds) (m n : Edge) → ((n.low == m.low) || (n.low == m.high)) ≡ true
    → is_on_boundary b (m.low ∷ m.high ∷ n.high ∷ []) ≡ on_boundary b (side m n)
by_high b m n h =
    alike b (m.low ∷ m.high ∷ n.high ∷ []) (facet_of (side m n)) (λ q.
    either (n.low == m.low) (n.low == m.high) h
    (λ so.
    let e = sym (eqb-true n.low m.low so) in
    first_again (q m.low) (q m.high) (q n.high && true) ∙ (λ t. q m.low && (q m.high && (q (e t) && (q n.high && true)))))
    (λ so.
    let e = sym (eqb-true n.low m.high so) in
    second_again (q m.low) (q m.high) (q n.high && true) ∙ (λ t. q m.low && (q m.high && (q (e t) && (q n.high && true))))))
    ∙ sym (ap (λ sh. sh && is_on_boundary b (facet_of (side m n))) shared)
  where
    shared : shares (side m n) ≡ true
    shared = grind (arith, nat_tests, h)

-- its greater leaf is
pub by_low : (b : Bounds) (m n : Edge) → ((n.high == m.low) || (n.high == m.high)) ≡ true
    → is_on_boundary b (m.low ∷ m.high ∷ n.low ∷ []) ≡ on_boundary b (side m n)
by_low b m n h =
    alike b (m.low ∷ m.high ∷ n.low ∷ []) (facet_of (side m n)) (λ q.
    either (n.high == m.low) (n.high == m.high) h
    (λ so.
    let e = sym (eqb-true n.high m.low so) in
    first_last (q m.low) (q m.high) (q n.low) ∙ (λ t. q m.low && (q m.high && (q n.low && (q (e t) && true)))))
    (λ so.
    let e = sym (eqb-true n.high m.high so) in
    second_last (q m.low) (q m.high) (q n.low) ∙ (λ t. q m.low && (q m.high && (q n.low && (q (e t) && true))))))
    ∙ sym (ap (λ sh. sh && is_on_boundary b (facet_of (side m n))) shared)
  where
    shared : shares (side m n) ≡ true
    shared = grind (arith, nat_tests, h)
