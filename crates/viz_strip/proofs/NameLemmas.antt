-- Triangles by ranks of names that ascend.
use Rattle.std.proofs.Common.{◌≡◌, ◌≢◌, ℕ, ◌<◌, ⊎_elim, List, [], ◌∷◌, length, map, Less, refl, sym, ap, subst, ◌∙◌, arith, eqb, eq-eqb}
use Rattle.std.specs.Prelude.{All, ◌==◌}
use Rattle.std.specs.List.Retain.{IsFiltered, DiffersFromLast}
use Rattle.std.specs.List.Sorted.{IsStrictlySortedBy, IsSorted}
use Rattle.std.specs.Cmp.{unsigned_ties}
use Rattle.std.specs.Ordering.{nat_cmp}
use Rattle.std.proofs.lemmas.Bool.{cases_order, ne_eqb}
use Rattle.std.proofs.lemmas.Bool.Decides.{nat_tests}
use Rattle.std.proofs.lemmas.Cmp.{nat_cmp_total}
use Rattle.std.proofs.lemmas.List.Filters.{dedup_is}
use Rattle.std.proofs.lemmas.List.Kept.{IsStrictlySortedBy-dedup}
use Rattle.std.proofs.lemmas.List.Elements.{All-nil, All-cons, All-head, All-tail}
use Rattle.std.proofs.lemmas.Map.Keys.{Less-from_sorted}
use Rattle.viz_strip.specs.Strips.{AreStrips, IsTriangle}
use Rattle.viz_strip.specs.Steps.Named.{AreRanksOf, name_at}
use Rattle.viz_strip.proofs.RenameLemmas.{IsRanked, strips-renamed}

-- what `dedup` leaves of sorted names
pub names-ascend : (sorted left : List ℕ) → IsSorted nat_cmp sorted → IsFiltered (DiffersFromLast eqb) [] sorted left → IsStrictlySortedBy nat_cmp left
names-ascend sorted left rises kept = subst (IsStrictlySortedBy nat_cmp) (sym (dedup_is eqb sorted left kept)) (IsStrictlySortedBy-dedup nat_cmp_total unsigned_ties sorted rises)

less : (j k : ℕ) → nat_cmp j k ≡ Less → j < k
less j k h = grind (arith, nat_tests)

-- names of different ranks differ
pub names-apart : (names : List ℕ) → IsStrictlySortedBy nat_cmp names → (a b : ℕ) → a < length names → b < length names → (name_at names a == name_at names b) ≡ (a == b)
names-apart names s a b la lb =
    ⊎_elim (λ e. eq-eqb (name_at names a) (name_at names b) (ap (name_at names) e) ∙ sym (eq-eqb a b e))
    (λ o. ⊎_elim
    (λ l. let h : name_at names a < name_at names b = less (name_at names a) (name_at names b) (Less-from_sorted nat_cmp names a b 0 s l lb) in
    ne_eqb (name_at names a) (name_at names b) (λ e. absurd (omega (arith, h, e))) ∙ sym (ne_eqb a b (λ e. absurd (omega (arith, l, e)))))
    (λ l. let h : name_at names b < name_at names a = less (name_at names b) (name_at names a) (Less-from_sorted nat_cmp names b a 0 s l la) in
    ne_eqb (name_at names a) (name_at names b) (λ e. absurd (omega (arith, h, e))) ∙ sym (ne_eqb a b (λ e. absurd (omega (arith, l, e)))))
    o)
    (cases_order a b)

-- ranks of three different names are three different ones
triangle-of : (f : ℕ → ℕ) (r : List ℕ) → IsTriangle (map f r) → IsTriangle r
triangle-of f [] is = absurd (omega (arith, is.three))
triangle-of f (a ∷ []) is = absurd (omega (arith, is.three))
triangle-of f (a ∷ b ∷ []) is = absurd (omega (arith, is.three))
triangle-of f (a ∷ b ∷ c ∷ []) is =
    let first = is.apart.0 in
    let second = is.apart.1.0 in
    let behind = All-tail (λ y. f a ≢ y) (f b) (f c ∷ []) first in
    record {
      three = refl;
      apart = (
        All-cons (λ y. a ≢ y) b (c ∷ []) (λ e. All-head (λ y. f a ≢ y) (f b) (f c ∷ []) first (ap f e)) (All-cons (λ y. a ≢ y) c [] (λ e. All-head (λ y. f a ≢ y) (f c) [] behind (ap f e)) (All-nil (λ y. a ≢ y))),
        (All-cons (λ y. b ≢ y) c [] (λ e. All-head (λ y. f b ≢ y) (f c) [] second (ap f e)) (All-nil (λ y. b ≢ y)), (All-nil (λ y. c ≢ y), tt)),
      );
    }
triangle-of f (a ∷ b ∷ c ∷ d ∷ r) is = absurd (omega (arith, is.three))

all-ranked : (f : ℕ → ℕ) (n : ℕ) (rs : List (List ℕ)) → All IsTriangle (map (map f) rs) → All (All (λ r. r < n)) rs → All (IsRanked n) rs
all-ranked f n [] a b = All-nil (IsRanked n)
all-ranked f n (r ∷ rs) a b =
    All-cons (IsRanked n) r rs (record { is = triangle-of f r (All-head IsTriangle (map f r) (map (map f) rs) a); below = All-head (All (λ k. k < n)) r rs b })
    (all-ranked f n rs (All-tail IsTriangle (map f r) (map (map f) rs) a) (All-tail (All (λ k. k < n)) r rs b))

all-triangles : (n : ℕ) (rs : List (List ℕ)) → All (IsRanked n) rs → All IsTriangle rs
all-triangles n [] a = All-nil IsTriangle
all-triangles n (r ∷ rs) a = All-cons IsTriangle r rs (All-head (IsRanked n) r rs a).is (all-triangles n rs (All-tail (IsRanked n) r rs a))

ranked : (names : List ℕ) (ts rs : List (List ℕ)) → All IsTriangle ts → AreRanksOf names ts rs → All (IsRanked (length names)) rs
ranked names ts rs a r = all-ranked (name_at names) (length names) rs (subst (All IsTriangle) (sym r.same) a) r.below

pub rank-triangles : (names : List ℕ) (ts rs : List (List ℕ)) → All IsTriangle ts → AreRanksOf names ts rs → All IsTriangle rs
rank-triangles names ts rs a r = all-triangles (length names) rs (ranked names ts rs a r)

-- the strips of ranks by names are the strips of the triangles
pub strips-named : (names : List ℕ) (ts rs rows strips : List (List ℕ)) → IsStrictlySortedBy nat_cmp names → All IsTriangle ts → AreRanksOf names ts rs → AreStrips rs rows → strips ≡ map (map (name_at names)) rows → AreStrips ts strips
strips-named names ts rs rows strips up a r s is =
    subst (AreStrips ts) (sym is) (subst (λ xs. AreStrips xs (map (map (name_at names)) rows)) r.same (strips-renamed (length names) (name_at names) (names-apart names up) rs rows (ranked names ts rs a r) s))
