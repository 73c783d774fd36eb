-- The diagonal of a tetrahedron, which shares no leaf between its ends.
use Rattle.std.proofs.Common.{◌≡◌, ◌≢◌, ℕ, ◌+◌, ◌<◌, min, Bool, true, false, not, cond, inl, inr, List, [], ◌∷◌, length, refl, sym, ap, subst, ◌∙◌, arith}
use Rattle.std.specs.Prelude.{◌⊎◌, count_by, slice_index_or}
use Rattle.std.proofs.lemmas.Bool.Decides.{nat_tests}
use Rattle.viz_grid_section.specs.Edges.{Edge, edge_of}
use Rattle.viz_surface_law.specs.Sides.{Side, side, turned, same_side, shares}
use Rattle.viz_surface_law.proofs.Local.{both_ways, diagonal}
use Rattle.viz_surface_law.proofs.Sharing.ListCounts.{by_test}
use Rattle.viz_surface_law.proofs.Cuts.{in_order, is_at, same_side-decides}
use Rattle.viz_surface_law.proofs.Total.{diag_of}

-- ---- one diagonal

pub record IsDiag (s : Side) (low sum : ℕ) : Type 0 where
  pub least : min s.tail.low s.head.low ≡ low
  pub total : s.tail.low + s.tail.high + (s.head.low + s.head.high) ≡ sum
  pub different : s.tail ≢ s.head
  pub apart : shares s ≡ false

-- four leaves of which the first is the least and the last the greatest
pub record Four (a b c d : ℕ) : Type 0 where
  pub ab : a < b
  pub ac : a < c
  pub bd : b < d
  pub cd : c < d
  pub bc : (b < c) ⊎ (c < b)

abbrev ordered : ℕ → ℕ → Edge
ordered a b = record { low = a; high = b }

plain : (a b c d : ℕ) → Four a b c d → IsDiag (side (ordered a c) (ordered b d)) a (a + b + c + d)
plain a b c d f =
    record {
      least = grind (arith, f.ab);
      total = omega arith;
      different = λ same. omega (arith, f.ab, ap (λ (n : Edge). n.low) same);
      apart = grind (arith, nat_tests, f.ab, f.ac, f.bd, f.cd, f.bc);
    }

of_turned : (s : Side) (low sum : ℕ) → IsDiag s low sum → IsDiag (turned s) low sum
of_turned s low sum of =
    record {
      least = grind (arith, of.least);
      total = omega (arith, of.total);
      different = λ same. of.different (sym same);
      apart = grind (arith, nat_tests, of.apart);
    }

in_names : (a b c d : ℕ) → Four a b c d → IsDiag (side (edge_of a c) (edge_of b d)) a (a + b + c + d)
in_names a b c d f =
    subst (λ n. IsDiag (side n (edge_of b d)) a (a + b + c + d)) (sym (in_order a c f.ac))
    (subst (λ n. IsDiag (side (ordered a c) n) a (a + b + c + d)) (sym (in_order b d f.bd)) (plain a b c d f))

pub exchange : (a b c d : ℕ) → Four a b c d → Four a c b d
exchange a b c d f = record { ab = f.ac; ac = f.ab; bd = f.cd; cd = f.bd; bc = other f.bc }
  where
    other : (b < c) ⊎ (c < b) → (c < b) ⊎ (b < c)
    other (inl h) = inr h
    other (inr h) = inl h

abbrev pub Diags : List Side → ℕ → ℕ → Type 0
Diags sides low sum = (sides ≡ []) ⊎ ((d : Side) × (sides ≡ both_ways d) × IsDiag d low sum)

diags_by : (w x y z : Bool) (d e : Side) (low sum : ℕ) → IsDiag d low sum → IsDiag e low sum → Diags (diagonal w x y z d e) low sum
diags_by true true false false d e low sum p q = inr (d, refl, p)
diags_by false false true true d e low sum p q = inr (d, refl, p)
diags_by true false true false d e low sum p q = inr (e, refl, q)
diags_by true false false true d e low sum p q = inr (e, refl, q)
diags_by false true true false d e low sum p q = inr (e, refl, q)
diags_by false true false true d e low sum p q = inr (e, refl, q)
diags_by true true true true d e low sum p q = inl refl
diags_by true true true false d e low sum p q = inl refl
diags_by true true false true d e low sum p q = inl refl
diags_by true false true true d e low sum p q = inl refl
diags_by false true true true d e low sum p q = inl refl
diags_by true false false false d e low sum p q = inl refl
diags_by false true false false d e low sum p q = inl refl
diags_by false false true false d e low sum p q = inl refl
diags_by false false false true d e low sum p q = inl refl
diags_by false false false false d e low sum p q = inl refl

pub diags : (inside : List Bool) (a b c d : ℕ) → Four a b c d → Diags (diag_of inside (a ∷ b ∷ c ∷ d ∷ [])) a (a + b + c + d)
diags inside a b c d f =
    let swapped = in_names a c b d (exchange a b c d f) in
    let sum : a + c + b + d ≡ a + b + c + d = omega arith in
    diags_by (is_at inside a) (is_at inside b) (is_at inside c) (is_at inside d) _ _ a (a + b + c + d)
    (in_names a b c d f) (subst (IsDiag (side (edge_of a b) (edge_of c d)) a) sum swapped)

-- a side is a diagonal, one way or the other
abbrev pub IsIn : Side → List Side → Type 0
IsIn s sides = (d : Side) × (sides ≡ both_ways d) × ((s ≡ d) ⊎ (s ≡ turned d))

pub of_diag : (s : Side) (sides : List Side) (low sum : ℕ) → Diags sides low sum → IsIn s sides → IsDiag s low sum
of_diag s sides low sum (inl empty) (d, is, way) = absurd (omega (arith, ap (λ (xs : List Side). length xs) (sym empty ∙ is)))
of_diag s sides low sum (inr (e, is_e, of)) (d, is, way) = ways way
  where
    same : e ≡ d
    same = ap (λ xs. slice_index_or xs 0 s) (sym is_e ∙ is)

    of_d : IsDiag d low sum
    of_d = subst (λ u. IsDiag u low sum) same of

    ways : (s ≡ d) ⊎ (s ≡ turned d) → IsDiag s low sum
    ways (inl h) = subst (λ u. IsDiag u low sum) (sym h) of_d
    ways (inr h) = subst (λ u. IsDiag u low sum) (sym h) (of_turned d low sum of_d)

two_hits : (s d : Side) → count_by (same_side s) (both_ways d) ≡ cond (same_side s d) 1 0 + cond (same_side s (turned d)) 1 0
two_hits s d = omega arith

-- a diagonal is taken once each way
pub diag_once : (s : Side) (sides : List Side) → s.tail ≢ s.head → IsIn s sides → count_by (same_side s) sides ≡ 1
diag_once s sides apart (d, is, inl h) =
    let hit = (same_side-decides s d).1 h in
    let miss : same_side s (turned d) ≡ false = by_test (same_side s (turned d))
    (λ so. absurd (apart (ap (λ (u : Side). u.tail) ((same_side-decides s (turned d)).0 so) ∙ ap (λ (u : Side). u.head) (sym h)))) (λ t. t) in
    ap (count_by (same_side s)) is ∙ two_hits s d ∙ ap (λ b. cond b 1 0 + cond (same_side s (turned d)) 1 0) hit ∙ ap (λ b. 1 + cond b 1 0) miss
diag_once s sides apart (d, is, inr h) =
    let hit = (same_side-decides s (turned d)).1 h in
    let miss : same_side s d ≡ false = by_test (same_side s d)
    (λ so. absurd (apart (ap (λ (u : Side). u.tail) ((same_side-decides s d).0 so) ∙ ap (λ (u : Side). u.head) (sym h)))) (λ t. t) in
    ap (count_by (same_side s)) is ∙ two_hits s d ∙ ap (λ b. cond b 1 0 + cond (same_side s (turned d)) 1 0) miss ∙ ap (λ b. 0 + cond b 1 0) hit

-- a side that isn't of these four leaves isn't their diagonal
pub diag_none : (s : Side) (sides : List Side) (low sum : ℕ) → Diags sides low sum → (IsDiag s low sum → ⊥) → count_by (same_side s) sides ≡ 0
diag_none s sides low sum (inl empty) not = ap (count_by (same_side s)) empty
diag_none s sides low sum (inr (d, is, of)) not =
    let first : same_side s d ≡ false = by_test (same_side s d)
    (λ so. absurd (not (subst (λ u. IsDiag u low sum) (sym ((same_side-decides s d).0 so)) of))) (λ t. t) in
    let second : same_side s (turned d) ≡ false = by_test (same_side s (turned d))
    (λ so. absurd (not (subst (λ u. IsDiag u low sum) (sym ((same_side-decides s (turned d)).0 so)) (of_turned d low sum of)))) (λ t. t) in
    ap (count_by (same_side s)) is ∙ two_hits s d ∙ ap (λ b. cond b 1 0 + cond (same_side s (turned d)) 1 0) first ∙ ap (λ b. 0 + cond b 1 0) second
