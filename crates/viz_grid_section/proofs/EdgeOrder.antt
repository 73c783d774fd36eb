-- The order of edges: that of `cmp`, which is the one by `is_before`.
use Rattle.std.proofs.Common.{◌≡◌, Bool, true, false, cond, ◌&&◌, ◌||◌, ◌==◌, Ordering, Less, Equal, Greater, is_lt, is_eq, is_gt, nat_cmp, refl, sym, ap, ap₂, ◌∙◌, true≢false}
use Rattle.std.specs.Cmp.{IsTotalOrder, IsEquivalence, unsigned_ties}
use Rattle.std.specs.Ordering.{eq_by_cmp, ordering_then, ordering_reverse}
use Rattle.std.proofs.lemmas.Cmp.{nat_cmp_total, on_total, then_total, nat_eq_equiv, on_equiv, and_equiv}
use Rattle.std.proofs.lemmas.Map.Lookups.{exact_unsigned}
use Rattle.viz_grid_section.specs.Edges.{Edge}
use Rattle.viz_grid_section.specs.Edges.{is_before}

-- what `cmp` answers: by the lesser leaves, and then by the greater ones
abbrev pub edge_cmp : Edge → Edge → Ordering
edge_cmp m n = ordering_then (nat_cmp m.low n.low) (nat_cmp m.high n.high)

pub edge_cmp_total : IsTotalOrder edge_cmp
edge_cmp_total = then_total (on_total (λ (n : Edge). n.low) nat_cmp_total) (on_total (λ (n : Edge). n.high) nat_cmp_total)

-- what the derived `==` answers
abbrev pub edge_eq : Edge → Edge → Bool
edge_eq m n = m.low == n.low && m.high == n.high

pub edge_eq_equiv : IsEquivalence edge_eq
edge_eq_equiv = and_equiv (on_equiv (λ (n : Edge). n.low) nat_eq_equiv) (on_equiv (λ (n : Edge). n.high) nat_eq_equiv)

equal_by_parts : (o p : Ordering) → (is_eq o && is_eq p) ≡ is_eq (ordering_then o p)
equal_by_parts Less p = refl
equal_by_parts Equal p = refl
equal_by_parts Greater p = refl

-- it is true just where the comparison answers `Equal`
pub edge_eq-is : (m n : Edge) → edge_eq m n ≡ eq_by_cmp edge_cmp m n
edge_eq-is m n = ap₂ (λ a b. a && b) (unsigned_ties m.low n.low) (unsigned_ties m.high n.high) ∙ equal_by_parts (nat_cmp m.low n.low) (nat_cmp m.high n.high)

-- both parts are equal where the whole is
both_equal : (o p : Ordering) → ordering_then o p ≡ Equal → (o ≡ Equal) × (p ≡ Equal)
both_equal Equal p h = (refl, h)
both_equal Less p h = absurd (true≢false (ap is_lt h))
both_equal Greater p h = absurd (true≢false (ap is_gt h))

-- edges that compare as equal are the same
pub same_edge : (m n : Edge) → edge_cmp m n ≡ Equal → m ≡ n
same_edge m n h =
    let both = both_equal (nat_cmp m.low n.low) (nat_cmp m.high n.high) h in
    let low : m.low ≡ n.low = exact_unsigned m.low n.low both.0 in
    let high : m.high ≡ n.high = exact_unsigned m.high n.high both.1 in
    λ i. record { low = low i; high = high i }

-- the test of two parts, by what is less and what is equal there
by_parts : (less same high_less high_same : Bool) → (less || (same && high_less)) ≡ is_lt (ordering_then (cond less Less (cond same Equal Greater)) (cond high_less Less (cond high_same Equal Greater)))
by_parts true same high_less high_same = refl
by_parts false true true high_same = refl
by_parts false true false true = refl
by_parts false true false false = refl
by_parts false false high_less high_same = refl

-- `is_before` is the comparison's `<`
pub is_before-is : (m n : Edge) → is_before m n ≡ is_lt (edge_cmp m n)
is_before-is m n = by_parts _ _ _ _

lt_is_less : (o : Ordering) → is_lt o ≡ true → o ≡ Less
lt_is_less Less h = refl
lt_is_less Equal h = absurd (true≢false (sym h))
lt_is_less Greater h = absurd (true≢false (sym h))

pub before-less : (m n : Edge) → is_before m n ≡ true → edge_cmp m n ≡ Less
before-less m n h = lt_is_less (edge_cmp m n) (sym (is_before-is m n) ∙ h)

pub less-before : (m n : Edge) → edge_cmp m n ≡ Less → is_before m n ≡ true
less-before m n h = is_before-is m n ∙ ap is_lt h

pub equal-not_before : (m n : Edge) → edge_cmp m n ≡ Equal → is_before m n ≡ false
equal-not_before m n h = is_before-is m n ∙ ap is_lt h

pub greater-not_before : (m n : Edge) → edge_cmp m n ≡ Greater → is_before m n ≡ false
greater-not_before m n h = is_before-is m n ∙ ap is_lt h

-- an edge that comes after another doesn't come before it
pub after-not_before : (m n : Edge) → edge_cmp n m ≡ Less → is_before m n ≡ false
after-not_before m n h = greater-not_before m n (edge_cmp_total.antisymm m n ∙ ap ordering_reverse h)

neither : (o : Ordering) → is_lt o ≡ false → is_lt (ordering_reverse o) ≡ false → o ≡ Equal
neither Less p q = absurd (true≢false p)
neither Equal p q = refl
neither Greater p q = absurd (true≢false q)

-- of two different edges one comes before the other
pub not_before-same : (m n : Edge) → is_before m n ≡ false → is_before n m ≡ false → m ≡ n
not_before-same m n p q = same_edge m n
    (neither (edge_cmp m n) (sym (is_before-is m n) ∙ p) (ap is_lt (sym (edge_cmp_total.antisymm n m)) ∙ sym (is_before-is n m) ∙ q))
