-- The number of a facet's ranks tells just their set.
use Rattle.std.proofs.Common.{◌≡◌, ◌≢◌, ℕ, ◌+◌, ◌^◌, ◌<◌, ◌≤◌, true, false, ◌&&◌, ◌⊎◌, inl, inr, ⊎_elim, List, [], ◌∷◌, length, get_or, Less, is_lt, refl, sym, ap, subst, ◌∙◌, true≢false, nat_eq, arith, eqb-true, eq-eqb}
use Rattle.std.specs.Prelude.{nat_lt}
use Rattle.std.specs.List.{All, AllByRecursion, Contains}
use Rattle.std.specs.List.Sorted.{IsStrictlySortedBy}
use Rattle.std.specs.Ordering.{nat_cmp}
use Rattle.std.proofs.lemmas.Bool.{cases_lt, cond_both, ltb-true}
use Rattle.std.proofs.lemmas.Cmp.{nat_cmp_total}
use Rattle.std.proofs.lemmas.List.{get_or_default}
use Rattle.std.proofs.lemmas.List.Elements.{All-contains, All-head, All-tail}
use Rattle.viz_sheet.specs.Sheet.{AreApart}
use Rattle.viz_sheet.proofs.MemberLemmas.{here, there, member_cases, no_member, same_from_members}
use Rattle.viz_mesh_meaning.specs.Facets.{has_each}
use Rattle.viz_boundary.specs.Steps.Keys.{filled, in_order, packed, put, set_key}
use Rattle.viz_boundary.proofs.TestLemmas.{count-each, count-members, each-from, each-to, from-mem, mem, both, same_test, to-mem}

less : (j k : ℕ) → j < k → nat_cmp j k ≡ Less
less j k h = grind (arith)

less-below : (j k : ℕ) → nat_cmp j k ≡ Less → j < k
less-below j k h =
    ⊎_elim (λ l. l) (λ f. absurd (true≢false (sym (ap is_lt h) ∙ at_least f))) (cases_lt j k)
  where
    at_least : k ≤ j → is_lt (nat_cmp j k) ≡ false
    at_least f = grind (arith)

not_lt : (j k : ℕ) → nat_lt j k ≡ false → k ≤ j
not_lt j k h = ⊎_elim (λ l. absurd (true≢false (sym (is_lt-true l) ∙ h))) (λ f. f) (cases_lt j k)
  where
    is_lt-true : j < k → nat_lt j k ≡ true
    is_lt-true l = grind (arith)

-- ---- in order

length-put : (r : ℕ) (ss : List ℕ) → length (put r ss) ≡ length ss + 1
length-put r [] = omega arith
length-put r (s ∷ ss) = cond_both (nat_lt r s) (r ∷ s ∷ ss) (s ∷ put r ss) (λ l. length l ≡ length (s ∷ ss) + 1) (λ _. omega arith) (λ _. omega (arith, length-put r ss))

pub length-in_order : (rs : List ℕ) → length (in_order rs) ≡ length rs
length-in_order [] = refl
length-in_order (r ∷ rs) = omega (arith, length-put r (in_order rs), length-in_order rs)

put-here : (r : ℕ) (ss : List ℕ) → Contains (put r ss) r
put-here r [] = here r []
put-here r (s ∷ ss) = cond_both (nat_lt r s) (r ∷ s ∷ ss) (s ∷ put r ss) (λ l. Contains l r) (λ _. here r (s ∷ ss)) (λ _. there s (put r ss) r (put-here r ss))

put-there : (r : ℕ) (ss : List ℕ) (z : ℕ) → Contains ss z → Contains (put r ss) z
put-there r [] z c = absurd (no_member z c)
put-there r (s ∷ ss) z c =
    cond_both (nat_lt r s) (r ∷ s ∷ ss) (s ∷ put r ss) (λ l. Contains l z) (λ _. there r (s ∷ ss) z c)
    (λ _. ⊎_elim (λ e. subst (Contains (s ∷ put r ss)) e (here s (put r ss))) (λ d. there s (put r ss) z (put-there r ss z d)) (member_cases s ss z c))

of-put : (r : ℕ) (ss : List ℕ) (z : ℕ) → Contains (put r ss) z → (r ≡ z) ⊎ Contains ss z
of-put r [] z = member_cases r [] z
of-put r (s ∷ ss) z =
    let goal : List ℕ → Type 0 = λ l. Contains l z → (r ≡ z) ⊎ Contains (s ∷ ss) z in
    cond_both (nat_lt r s) (r ∷ s ∷ ss) (s ∷ put r ss) goal (λ _. member_cases r (s ∷ ss) z)
    (λ _ c. ⊎_elim (λ e. inr (subst (Contains (s ∷ ss)) e (here s ss))) (λ d. ⊎_elim inl (λ k. inr (there s ss z k)) (of-put r ss z d)) (member_cases s (put r ss) z c))

pub in-order : (rs : List ℕ) (z : ℕ) → Contains rs z → Contains (in_order rs) z
in-order [] z c = c
in-order (r ∷ rs) z c =
    ⊎_elim (λ e. subst (Contains (in_order (r ∷ rs))) e (put-here r (in_order rs))) (λ d. put-there r (in_order rs) z (in-order rs z d)) (member_cases r rs z c)

pub of-order : (rs : List ℕ) (z : ℕ) → Contains (in_order rs) z → Contains rs z
of-order [] z c = c
of-order (r ∷ rs) z c =
    ⊎_elim (λ e. subst (Contains (r ∷ rs)) e (here r rs)) (λ d. there r rs z (of-order rs z d)) (of-put r (in_order rs) z c)

all_put : (P : ℕ → Type 0) (r : ℕ) (ss : List ℕ) → P r → AllByRecursion P ss → AllByRecursion P (put r ss)
all_put P r [] p a = (p, tt)
all_put P r (s ∷ ss) p a = cond_both (nat_lt r s) (r ∷ s ∷ ss) (s ∷ put r ss) (AllByRecursion P) (λ _. (p, a)) (λ _. (a.0, all_put P r ss p a.1))

in_front : (r s : ℕ) (ss : List ℕ) → r < s → IsStrictlySortedBy nat_cmp (s ∷ ss) → IsStrictlySortedBy nat_cmp (r ∷ s ∷ ss)
unfolding IsStrictlySortedBy
in_front r s ss h a = ((less r s h, all_above ss a.0), a)
  where
    all_above : (zs : List ℕ) → AllByRecursion (λ z. nat_cmp s z ≡ Less) zs → AllByRecursion (λ z. nat_cmp r z ≡ Less) zs
    all_above [] b = tt
    all_above (z ∷ zs) b = (nat_cmp_total.trans r s z (less r s h) b.0, all_above zs b.1)

sorted-put : (r : ℕ) (ss : List ℕ) → All (λ s. r ≢ s) ss → IsStrictlySortedBy nat_cmp ss → IsStrictlySortedBy nat_cmp (put r ss)
unfolding IsStrictlySortedBy
sorted-put r [] n a = (tt, tt)
sorted-put r (s ∷ ss) n a =
    cond_both (nat_lt r s) (r ∷ s ∷ ss) (s ∷ put r ss) (IsStrictlySortedBy nat_cmp)
    (λ h. in_front r s ss (ltb-true r s h) a)
    (λ h.
    let other : r ≢ s = All-head (λ z. r ≢ z) s ss n in
    let above : s < r = omega (arith, not_lt r s h, other) in
    (all_put (λ z. nat_cmp s z ≡ Less) r ss (less s r above) a.0, sorted-put r ss (All-tail (λ z. r ≢ z) s ss n) a.1))

pub sorted-in_order : (rs : List ℕ) → AreApart rs → IsStrictlySortedBy nat_cmp (in_order rs)
unfolding IsStrictlySortedBy
sorted-in_order [] a = tt
sorted-in_order (r ∷ rs) a =
    sorted-put r (in_order rs) (λ k d l e. differs (get_or (in_order rs) k d) (of-order rs (get_or (in_order rs) k d) (k, l, get_or_default (in_order rs) k (get_or (in_order rs) k d) d l)) e) (sorted-in_order rs a.1)
  where
    differs : (z : ℕ) → Contains rs z → r ≡ z → ⊥
    differs z c e = a.0 c.0 z c.1 (e ∙ sym c.2)

-- ---- one number for up to three

-- one to three ranks that ascend
record IsFew (xs : List ℕ) : Type 0 where
  ascending : IsStrictlySortedBy nat_cmp xs
  some : 1 ≤ length xs
  most : length xs ≤ 3
  below : All (λ r. r < 2 ^ 32) xs

rises : (a b : ℕ) (xs : List ℕ) → IsStrictlySortedBy nat_cmp (a ∷ b ∷ xs) → a < b
unfolding IsStrictlySortedBy
rises a b xs s = less-below a b s.0.0

split : (a b c d e f : ℕ) → b < 2 ^ 32 → c < 2 ^ 32 → e < 2 ^ 32 → f < 2 ^ 32 → packed a b c ≡ packed d e f → (a ≡ d) × (b ≡ e) × (c ≡ f)
split a b c d e f hb hc he hf h = (omega arith, omega arith, omega arith)

one_is : (a b : ℕ) → a ≡ b → a ∷ [] ≡ b ∷ []
one_is a b e = λ i. e i ∷ []

two_is : (a b c d : ℕ) → a ≡ c → b ≡ d → a ∷ b ∷ [] ≡ c ∷ d ∷ []
two_is a b c d e f = λ i. e i ∷ f i ∷ []

three_is : (a b c d e f : ℕ) → a ≡ d → b ≡ e → c ≡ f → a ∷ b ∷ c ∷ [] ≡ d ∷ e ∷ f ∷ []
three_is a b c d e f p q r = λ i. p i ∷ q i ∷ r i ∷ []

filled-same : (xs ys : List ℕ) → IsFew xs → IsFew ys → filled xs ≡ filled ys → xs ≡ ys
filled-same [] ys h k e = absurd (omega (arith, h.some))
filled-same (a ∷ []) [] h k e = absurd (omega (arith, k.some))
filled-same (a ∷ b ∷ []) [] h k e = absurd (omega (arith, k.some))
filled-same (a ∷ b ∷ c ∷ []) [] h k e = absurd (omega (arith, k.some))
filled-same (a ∷ b ∷ c ∷ d ∷ rest) ys h k e = absurd (omega (arith, h.most))
filled-same (a ∷ []) (p ∷ q ∷ r ∷ s ∷ rest) h k e = absurd (omega (arith, k.most))
filled-same (a ∷ b ∷ []) (p ∷ q ∷ r ∷ s ∷ rest) h k e = absurd (omega (arith, k.most))
filled-same (a ∷ b ∷ c ∷ []) (p ∷ q ∷ r ∷ s ∷ rest) h k e = absurd (omega (arith, k.most))
filled-same (a ∷ []) (p ∷ []) h k e =
    let ha = h.below 0 a (omega arith) in
    let hp = k.below 0 p (omega arith) in
    let t = split a a a p p p ha ha hp hp e in
    one_is a p t.0
filled-same (a ∷ []) (p ∷ q ∷ []) h k e =
    let ha = h.below 0 a (omega arith) in
    let hp = k.below 0 p (omega arith) in
    let hq = k.below 1 q (omega arith) in
    let t = split a a a p p q ha ha hp hq e in
    absurd (omega (arith, t.0, t.2, rises p q [] k.ascending))
filled-same (a ∷ []) (p ∷ q ∷ r ∷ []) h k e =
    let ha = h.below 0 a (omega arith) in
    let hq = k.below 1 q (omega arith) in
    let hr = k.below 2 r (omega arith) in
    let t = split a a a p q r ha ha hq hr e in
    absurd (omega (arith, t.0, t.1, rises p q (r ∷ []) k.ascending))
filled-same (a ∷ b ∷ []) (p ∷ []) h k e =
    let ha = h.below 0 a (omega arith) in
    let hb = h.below 1 b (omega arith) in
    let hp = k.below 0 p (omega arith) in
    let t = split a a b p p p ha hb hp hp e in
    absurd (omega (arith, t.0, t.2, rises a b [] h.ascending))
filled-same (a ∷ b ∷ []) (p ∷ q ∷ []) h k e =
    let ha = h.below 0 a (omega arith) in
    let hb = h.below 1 b (omega arith) in
    let hp = k.below 0 p (omega arith) in
    let hq = k.below 1 q (omega arith) in
    let t = split a a b p p q ha hb hp hq e in
    two_is a b p q t.0 t.2
filled-same (a ∷ b ∷ []) (p ∷ q ∷ r ∷ []) h k e =
    let ha = h.below 0 a (omega arith) in
    let hb = h.below 1 b (omega arith) in
    let hq = k.below 1 q (omega arith) in
    let hr = k.below 2 r (omega arith) in
    let t = split a a b p q r ha hb hq hr e in
    absurd (omega (arith, t.0, t.1, rises p q (r ∷ []) k.ascending))
filled-same (a ∷ b ∷ c ∷ []) (p ∷ []) h k e =
    let hb = h.below 1 b (omega arith) in
    let hc = h.below 2 c (omega arith) in
    let hp = k.below 0 p (omega arith) in
    let t = split a b c p p p hb hc hp hp e in
    absurd (omega (arith, t.0, t.1, rises a b (c ∷ []) h.ascending))
filled-same (a ∷ b ∷ c ∷ []) (p ∷ q ∷ []) h k e =
    let hb = h.below 1 b (omega arith) in
    let hc = h.below 2 c (omega arith) in
    let hp = k.below 0 p (omega arith) in
    let hq = k.below 1 q (omega arith) in
    let t = split a b c p p q hb hc hp hq e in
    absurd (omega (arith, t.0, t.1, rises a b (c ∷ []) h.ascending))
filled-same (a ∷ b ∷ c ∷ []) (p ∷ q ∷ r ∷ []) h k e =
    let hb = h.below 1 b (omega arith) in
    let hc = h.below 2 c (omega arith) in
    let hq = k.below 1 q (omega arith) in
    let hr = k.below 2 r (omega arith) in
    let t = split a b c p q r hb hc hq hr e in
    three_is a b c p q r t.0 t.1 t.2

-- ---- sets

-- one to three different ranks
pub record IsSet (xs : List ℕ) : Type 0 where
  pub apart : AreApart xs
  pub some : 1 ≤ length xs
  pub most : length xs ≤ 3
  pub below : All (λ r. r < 2 ^ 32) xs

few-in_order : (xs : List ℕ) → IsSet xs → IsFew (in_order xs)
few-in_order xs h = record {
  ascending = sorted-in_order xs h.apart;
  some = omega (arith, length-in_order xs, h.some);
  most = omega (arith, length-in_order xs, h.most);
  below = λ k d l. All-contains (λ r. r < 2 ^ 32) xs (get_or (in_order xs) k d) h.below (of-order xs _ (k, l, get_or_default (in_order xs) k (get_or (in_order xs) k d) d l));
}

-- with one number all of the first are among the second
set-each : (x y : List ℕ) → IsSet x → IsSet y → set_key y ≡ set_key x → (length y ≡ length x) × (has_each nat_eq y x ≡ true)
unfolding set_key
set-each x y h k e =
    let same : in_order y ≡ in_order x = filled-same (in_order y) (in_order x) (few-in_order y k) (few-in_order x h) e in (
      sym (length-in_order y) ∙ ap length same ∙ length-in_order x,
      each-to y x (λ j d l. to-mem y (get_or x j d) (of-order y _ (subst (λ zs. Contains zs (get_or x j d)) (sym same) (in-order x _ (j, l, get_or_default x j (get_or x j d) d l))))),
    )

-- as many, and all of the first among the second, have one number
each-set : (x y : List ℕ) → IsSet x → IsSet y → length y ≡ length x → has_each nat_eq y x ≡ true → set_key y ≡ set_key x
unfolding set_key
each-set x y h k l e =
    let in_y : All (λ r. mem y r ≡ true) x = each-from y x e in
    let in_x : All (λ r. mem x r ≡ true) y = count-each (mem x) y (count-members x y h.apart k.apart in_y ∙ sym l) in
    ap filled (same_from_members nat_cmp_total (in_order y) (in_order x) (sorted-in_order y k.apart) (sorted-in_order x h.apart)
    (λ z c. in-order x z (from-mem x z (All-contains (λ r. mem x r ≡ true) y z in_x (of-order y z c))))
    (λ z c. in-order y z (from-mem y z (All-contains (λ r. mem y r ≡ true) x z in_y (of-order x z c)))))

pub key-tells_set : (x y : List ℕ) → IsSet x → IsSet y → nat_eq (set_key y) (set_key x) ≡ (nat_eq (length y) (length x) && has_each nat_eq y x)
key-tells_set x y h k =
    same_test (nat_eq (set_key y) (set_key x)) (nat_eq (length y) (length x) && has_each nat_eq y x)
    (λ e. let t = set-each x y h k (eqb-true (set_key y) (set_key x) e) in rw (eq-eqb (length y) (length x) t.0) t.1)
    (λ e. let t = both (nat_eq (length y) (length x)) (has_each nat_eq y x) e in eq-eqb (set_key y) (set_key x) (each-set x y h k (eqb-true (length y) (length x) t.0) t.1))
