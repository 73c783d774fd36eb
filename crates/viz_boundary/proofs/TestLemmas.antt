-- Tests whether numbers are among others, and how many are.
use Rattle.std.proofs.Common.{◌≡◌, ◌≢◌, ℕ, zero, suc, ◌+◌, ◌<◌, ◌≤◌, Bool, true, false, cond, ◌&&◌, ◌||◌, not, List, [], ◌∷◌, length, get_or, refl, sym, ap, ap₂, subst, ◌∙◌, true≢false, ⊎_elim, nat_eq, arith, eqb-true, eq-eqb, ◌%◌}
use Rattle.std.specs.List.{All, Contains, count_by, list_any, remove}
use Rattle.std.proofs.lemmas.Cmp.{nat_eq_equiv}
use Rattle.std.proofs.lemmas.List.Elements.{All-nil, All-cons, All-head, All-tail}
use Rattle.std.proofs.lemmas.Map.Views.{Contains-from_any, list_any-from_Contains}
use Rattle.viz_sheet.specs.Sheet.{AreApart}
use Rattle.viz_sheet.proofs.KeptLemmas.{count_by-cons}
use Rattle.viz_sheet.proofs.MemberLemmas.{member_cases, no_member}
use Rattle.viz_mesh_meaning.specs.Facets.{exchanged, facet, has_each}

-- a number is among some
abbrev pub mem : List ℕ → ℕ → Bool
mem xs r = list_any (nat_eq r) xs

pub from-mem : (xs : List ℕ) (r : ℕ) → mem xs r ≡ true → Contains xs r
from-mem xs r e = Contains-from_any eqb-true r xs e

pub to-mem : (xs : List ℕ) (r : ℕ) → Contains xs r → mem xs r ≡ true
to-mem xs r c = list_any-from_Contains nat_eq_equiv r xs c

pub same_test : (a b : Bool) → (a ≡ true → b ≡ true) → (b ≡ true → a ≡ true) → a ≡ b
same_test true b h k = sym (h refl)
same_test false true h k = k refl
same_test false false h k = refl

pub is_false : (b : Bool) → (b ≡ true → ⊥) → b ≡ false
is_false true h = absurd (h refl)
is_false false h = refl

pub both : (a b : Bool) → (a && b) ≡ true → (a ≡ true) × (b ≡ true)
both true true h = (refl, refl)
both true false h = absurd (true≢false (sym h))
both false b h = absurd (true≢false (sym h))

pub turned-eq : (r s : ℕ) → nat_eq r s ≡ nat_eq s r
turned-eq r s = same_test (nat_eq r s) (nat_eq s r) (λ e. eq-eqb s r (sym (eqb-true r s e))) (λ e. eq-eqb r s (sym (eqb-true s r e)))

pub absent : (p : ℕ) (ps : List ℕ) → All (λ y. p ≢ y) ps → mem ps p ≡ false
absent p ps h = is_false (mem ps p) (λ e. let c = from-mem ps p e in h c.0 p c.1 (sym c.2))

-- ---- counts

pub count-none : {X : Type 0} (p : X → Bool) (xs : List X) → All (λ x. p x ≡ false) xs → count_by p xs ≡ 0
count-none p [] h = refl
count-none p (x ∷ xs) h =
    let rest = count-none p xs (All-tail (λ y. p y ≡ false) x xs h) in
    count_by-cons p x xs ∙ rw (All-head (λ y. p y ≡ false) x xs h) (omega (arith, rest))

pub count-or : (f g : ℕ → Bool) (xs : List ℕ) → ((r : ℕ) → f r ≡ true → g r ≡ false) → count_by (λ r. f r || g r) xs ≡ count_by f xs + count_by g xs
count-or f g [] h = refl
count-or f g (x ∷ xs) h =
    let rest = count-or f g xs h in
    let step : cond (f x || g x) 1 0 ≡ cond (f x) 1 0 + cond (g x) 1 0 = one (f x) (g x) (h x) in
    omega (arith, count_by-cons (λ r. f r || g r) x xs, count_by-cons f x xs, count_by-cons g x xs, rest, step)
  where
    one : (a b : Bool) → (a ≡ true → b ≡ false) → cond (a || b) 1 0 ≡ cond a 1 0 + cond b 1 0
    one true true k = absurd (true≢false (k refl))
    one true false k = refl
    one false true k = refl
    one false false k = refl

pub count-not : (f : ℕ → Bool) (xs : List ℕ) → count_by f xs + count_by (λ r. not (f r)) xs ≡ length xs
count-not f [] = refl
count-not f (x ∷ xs) =
    let step : cond (f x) 1 0 + cond (not (f x)) 1 0 ≡ 1 = one (f x) in
    omega (arith, count_by-cons f x xs, count_by-cons (λ r. not (f r)) x xs, count-not f xs, step)
  where
    one : (a : Bool) → cond a 1 0 + cond (not a) 1 0 ≡ 1
    one true = refl
    one false = refl

pub count-most : {X : Type 0} (p : X → Bool) (xs : List X) → count_by p xs ≤ length xs
count-most p [] = omega arith
count-most p (x ∷ xs) = omega (arith, count_by-cons p x xs, count-most p xs, one (p x))
  where
    one : (a : Bool) → cond a 1 0 ≤ 1
    one true = omega arith
    one false = omega arith

-- where as many pass as there are, each passes
pub count-each : {X : Type 0} (p : X → Bool) (xs : List X) → count_by p xs ≡ length xs → All (λ x. p x ≡ true) xs
count-each p [] h = All-nil (λ x. p x ≡ true)
count-each p (x ∷ xs) h = one (p x) refl (count-each p xs)
  where
    one : (b : Bool) → p x ≡ b → (count_by p xs ≡ length xs → All (λ y. p y ≡ true) xs) → All (λ y. p y ≡ true) (x ∷ xs)
    one true e rest =
        let count : count_by p (x ∷ xs) ≡ 1 + count_by p xs = count_by-cons p x xs ∙ ap (λ c. cond c 1 0 + count_by p xs) e in
        All-cons (λ y. p y ≡ true) x xs e (rest (omega arith))
    one false e rest =
        let count : count_by p (x ∷ xs) ≡ 0 + count_by p xs = count_by-cons p x xs ∙ ap (λ c. cond c 1 0 + count_by p xs) e in
        absurd (omega (arith, count-most p xs))

-- a number stands once among different ones
pub count-same : (p : ℕ) (xs : List ℕ) → AreApart xs → Contains xs p → count_by (λ r. nat_eq r p) xs ≡ 1
count-same p [] a c = absurd (no_member p c)
count-same p (x ∷ xs) a c =
    let rest = λ (d : Contains xs p). count-same p xs a.1 d in
    ⊎_elim
    (λ (e : x ≡ p).
    let first : nat_eq x p ≡ true = eq-eqb x p e in
    let none : count_by (λ r. nat_eq r p) xs ≡ 0 = count-none (λ r. nat_eq r p) xs (λ k d l. is_false _ (λ h. a.0 k d l (e ∙ sym (eqb-true (get_or xs k d) p h)))) in
    count_by-cons (λ r. nat_eq r p) x xs ∙ rw first (omega (arith, none)))
    (λ (c2 : Contains xs p).
    let other : nat_eq x p ≡ false = is_false _ (λ h. a.0 c2.0 p c2.1 (eqb-true x p h ∙ sym c2.2)) in
    count_by-cons (λ r. nat_eq r p) x xs ∙ rw other (omega (arith, rest c2)))
    (member_cases x xs p c)

-- of different numbers just as many are among some of them as these are
pub count-members : (x d : List ℕ) → AreApart x → AreApart d → All (λ r. mem d r ≡ true) x → count_by (mem x) d ≡ length x
count-members [] d ax ad h = count-none (mem []) d (λ k e l. refl)
count-members (p ∷ ps) d ax ad h =
    let in_d : Contains d p = from-mem d p (All-head (λ r. mem d r ≡ true) p ps h) in
    let rest : count_by (mem ps) d ≡ length ps = count-members ps d ax.1 ad (All-tail (λ r. mem d r ≡ true) p ps h) in
    let one : count_by (λ r. nat_eq r p) d ≡ 1 = count-same p d ad in_d in
    count-or (λ r. nat_eq r p) (mem ps) d (λ r e. subst (λ s. mem ps s ≡ false) (sym (eqb-true r p e)) (absent p ps ax.0))
    ∙ omega arith

-- ---- a test of all

pub each-from : (xs items : List ℕ) → has_each nat_eq xs items ≡ true → All (λ r. mem xs r ≡ true) items
each-from xs [] h = All-nil (λ r. mem xs r ≡ true)
each-from xs (r ∷ rs) h =
    let two = both (mem xs r) (has_each nat_eq xs rs) h in
    All-cons (λ s. mem xs s ≡ true) r rs two.0 (each-from xs rs two.1)

pub each-to : (xs items : List ℕ) → All (λ r. mem xs r ≡ true) items → has_each nat_eq xs items ≡ true
each-to xs [] h = refl
each-to xs (r ∷ rs) h =
    ap₂ (λ a b. a && b) (All-head (λ s. mem xs s ≡ true) r rs h) (each-to xs rs (All-tail (λ s. mem xs s ≡ true) r rs h))

-- ---- without one

-- without one of different numbers just the others are left
mem-remove : (d : List ℕ) (i r : ℕ) → AreApart d → i < length d → mem (remove d i) r ≡ (mem d r && not (nat_eq r (get_or d i 0)))
mem-remove [] i r a l = absurd (omega arith)
mem-remove (q ∷ qs) zero r a l = one (nat_eq r q) refl
  where
    one : (b : Bool) → nat_eq r q ≡ b → mem qs r ≡ ((b || mem qs r) && not b)
    one true e = subst (λ s. mem qs s ≡ false) (sym (eqb-true r q e)) (absent q qs a.0)
    one false e = kept (mem qs r)
      where
        kept : (c : Bool) → c ≡ (c && true)
        kept true = refl
        kept false = refl
mem-remove (q ∷ qs) (suc i) r a l =
    ap (λ m. nat_eq r q || m) (mem-remove qs i r a.1 (omega arith)) ∙ one (nat_eq r q) (mem qs r) (nat_eq r (get_or qs i 0)) other
  where
    one : (e m f : Bool) → (e ≡ true → f ≡ false) → (e || (m && not f)) ≡ ((e || m) && not f)
    one true m true h = absurd (true≢false (h refl))
    one true m false h = refl
    one false m f h = refl

    other : nat_eq r q ≡ true → nat_eq r (get_or qs i 0) ≡ false
    other e = is_false _ (λ f. a.0 i 0 (omega arith) (sym (eqb-true r q e) ∙ eqb-true r (get_or qs i 0) f))

mem-exchanged : (xs : List ℕ) (r : ℕ) → mem (exchanged xs) r ≡ mem xs r
mem-exchanged [] r = refl
mem-exchanged (x ∷ []) r = refl
mem-exchanged (x ∷ y ∷ xs) r = swap (nat_eq r y) (nat_eq r x) (mem xs r)
  where
    swap : (a b c : Bool) → (a || (b || c)) ≡ (b || (a || c))
    swap true true c = refl
    swap true false c = refl
    swap false b c = refl

mem-facet : (d : List ℕ) (i r : ℕ) → AreApart d → i < length d → mem (facet d i) r ≡ (mem d r && not (nat_eq r (get_or d i 0)))
mem-facet d i r a l = one (nat_eq (i % 2) 1)
  where
    one : (b : Bool) → mem (cond b (exchanged (remove d i)) (remove d i)) r ≡ (mem d r && not (nat_eq r (get_or d i 0)))
    one true = mem-exchanged (remove d i) r ∙ mem-remove d i r a l
    one false = mem-remove d i r a l

-- a facet has each of some numbers just where the cell has and none of them is left out
pub each-facet : (d x : List ℕ) (i : ℕ) → AreApart d → i < length d → has_each nat_eq (facet d i) x ≡ (has_each nat_eq d x && not (mem x (get_or d i 0)))
each-facet d [] i a l = refl
each-facet d (r ∷ rs) i a l =
    ap₂ (λ p q. p && q) (mem-facet d i r a l ∙ ap (λ b. mem d r && not b) (turned-eq r (get_or d i 0))) (each-facet d rs i a l)
    ∙ one (mem d r) (nat_eq (get_or d i 0) r) (has_each nat_eq d rs) (mem rs (get_or d i 0))
  where
    one : (p q s t : Bool) → ((p && not q) && (s && not t)) ≡ ((p && s) && not (q || t))
    one false q s t = refl
    one true true true t = refl
    one true true false t = refl
    one true false s t = refl
