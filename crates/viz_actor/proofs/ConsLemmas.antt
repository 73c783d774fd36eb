-- Lists by actor, with what belongs to one phase more in front.
use Rattle.std.proofs.Common.{◌≡◌, ℕ, suc, ◌+◌, ◌⊎◌, inl, inr, ⊎_elim, true, false, true≢false, not, List, [], ◌∷◌, ◌++◌, map, length, flat_map, refl, sym, ap, ap₂, subst, ◌∙◌, arith}
use Rattle.std.proofs.lemmas.Bool.{false_from_ne_true, and_parts, not-true}
use Rattle.viz_turn.specs.Tales.{has, once}
use Rattle.viz_turn.proofs.ListLemmas.{has_head, has_tail, has_cons, has_left, has_right, has_either, once_cons, once_append}
use Rattle.viz_report.specs.declared.line.Line.{Line}
use Rattle.viz_report.specs.Report.{phase_rows, next_counts, first_phase, later_phases}

-- each list with an item in front
abbrev pub cons_all : {A : Type 0} → List A → List (List A) → List (List A)
cons_all [] ys = []
cons_all (x ∷ xs) [] = []
cons_all (x ∷ xs) (y ∷ ys) = (x ∷ y) ∷ cons_all xs ys

-- all in one list
abbrev pub flat : List (List ℕ) → List ℕ
flat ps = flat_map (λ p. p) ps

-- ---- numbers of passes

has_flat_tail : (x : ℕ) (p : List ℕ) (ps : List (List ℕ)) → has x (flat ps) ≡ true → has x (flat (p ∷ ps)) ≡ true
has_flat_tail x p ps h = has_right x p (flat ps) h

-- what stands in the longer lists stands in one or the other
pub has_cons_all : (x : ℕ) (ks : List ℕ) (ps : List (List ℕ)) → has x (flat (cons_all ks ps)) ≡ true → (has x ks ≡ true) ⊎ (has x (flat ps) ≡ true)
has_cons_all x [] ps h = inr (absurd (true≢false (sym h)))
has_cons_all x (k ∷ ks) [] h = inr (absurd (true≢false (sym h)))
has_cons_all x (k ∷ ks) (p ∷ ps) h =
    ⊎_elim
    (λ (i : has x (k ∷ p) ≡ true). ⊎_elim (λ (e : x ≡ k). inl (subst (λ (y : ℕ). has y (k ∷ ks) ≡ true) (sym e) (has_head k ks))) (λ (j : has x p ≡ true). inr (has_left x p (flat ps) j)) (has_cons x k p i))
    (λ (i : has x (flat (cons_all ks ps)) ≡ true). ⊎_elim (λ j. inl (has_tail x k ks j)) (λ j. inr (has_flat_tail x p ps j)) (has_cons_all x ks ps i))
    (has_either x (k ∷ p) (flat (cons_all ks ps)) h)

-- and the other way round, where there are xs many lists
pub has_front : (x : ℕ) (ks : List ℕ) (ps : List (List ℕ)) → length ps ≡ length ks → has x ks ≡ true → has x (flat (cons_all ks ps)) ≡ true
has_front x [] ps len h = absurd (true≢false (sym h))
has_front x (k ∷ ks) [] len h = absurd (omega (arith, len))
has_front x (k ∷ ks) (p ∷ ps) len h =
    ⊎_elim (λ (e : x ≡ k). subst (λ (y : ℕ). has y (flat (cons_all (k ∷ ks) (p ∷ ps))) ≡ true) (sym e) (has_left k (k ∷ p) (flat (cons_all ks ps)) (has_head k p)))
    (λ (i : has x ks ≡ true). has_right x (k ∷ p) (flat (cons_all ks ps)) (has_front x ks ps (omega (arith, len)) i)) (has_cons x k ks h)

pub has_behind : (x : ℕ) (ks : List ℕ) (ps : List (List ℕ)) → length ps ≡ length ks → has x (flat ps) ≡ true → has x (flat (cons_all ks ps)) ≡ true
has_behind x [] [] len h = absurd (true≢false (sym h))
has_behind x [] (p ∷ ps) len h = absurd (omega (arith, len))
has_behind x (k ∷ ks) [] len h = absurd (omega (arith, len))
has_behind x (k ∷ ks) (p ∷ ps) len h =
    ⊎_elim (λ (i : has x p ≡ true). has_left x (k ∷ p) (flat (cons_all ks ps)) (has_tail x k p i))
    (λ (i : has x (flat ps) ≡ true). has_right x (k ∷ p) (flat (cons_all ks ps)) (has_behind x ks ps (omega (arith, len)) i)) (has_either x p (flat ps) h)

once_parts : (a b : List ℕ) → once (a ++ b) ≡ true → (once a ≡ true) × (once b ≡ true) × ((x : ℕ) → has x a ≡ true → has x b ≡ true → ⊥)
once_parts [] b h = (refl, h, λ x i j. true≢false (sym i))
once_parts (y ∷ a) b h =
    let p = and_parts (not (has y (a ++ b))) (once (a ++ b)) h in
    let out : has y (a ++ b) ≡ false = not-true (has y (a ++ b)) p.0 in
    let r = once_parts a b p.1 in (
      once_cons y a (false_from_ne_true (has y a) (λ i. true≢false (sym (has_left y a b i) ∙ out))) r.0,
      r.1,
      λ x i j. ⊎_elim (λ (e : x ≡ y). true≢false (sym (has_right y a b (subst (λ (z : ℕ). has z b ≡ true) e j)) ∙ out)) (λ k. r.2 x k j) (has_cons x y a i),
    )

once_first : (k : ℕ) (ks : List ℕ) → once (k ∷ ks) ≡ true → (has k ks ≡ false) × (once ks ≡ true)
once_first k ks h = let p = and_parts (not (has k ks)) (once ks) h in (not-true (has k ks) p.0, p.1)

-- no number stands twice, where none does in either and none in both
pub once_cons_all : (ks : List ℕ) (ps : List (List ℕ)) → once ks ≡ true → once (flat ps) ≡ true → ((x : ℕ) → has x ks ≡ true → has x (flat ps) ≡ true → ⊥) → once (flat (cons_all ks ps)) ≡ true
once_cons_all [] ps a b apart = refl
once_cons_all (k ∷ ks) [] a b apart = refl
once_cons_all (k ∷ ks) (p ∷ ps) a b apart =
    let f = once_first k ks a in
    let r = once_parts p (flat ps) b in
    let rest = once_cons_all ks ps f.1 r.1 (λ x i j. apart x (has_tail x k ks i) (has_flat_tail x p ps j)) in
    let k_out : has k p ≡ false = false_from_ne_true (has k p) (λ i. apart k (has_head k ks) (has_left k p (flat ps) i)) in
    once_append (k ∷ p) (flat (cons_all ks ps)) (once_cons k p k_out r.0) rest
    (λ x i j. ⊎_elim
    (λ (e : x ≡ k). ⊎_elim (λ (l : has x ks ≡ true). true≢false (sym (subst (λ (z : ℕ). has z ks ≡ true) e l) ∙ f.0)) (λ (l : has x (flat ps) ≡ true). apart k (has_head k ks) (has_right k p (flat ps) (subst (λ (z : ℕ). has z (flat ps) ≡ true) e l))) (has_cons_all x ks ps j))
    (λ (own : has x p ≡ true). ⊎_elim (λ (l : has x ks ≡ true). apart x (has_tail x k ks l) (has_left x p (flat ps) own)) (λ (l : has x (flat ps) ≡ true). r.2 x own l) (has_cons_all x ks ps j))
    (has_cons x k p i))

-- ---- lines

pub first_cons : (ls : List (List Line)) (told : List (List (List Line))) → length told ≡ length ls → first_phase (cons_all ls told) ≡ ls
first_cons [] told len = refl
first_cons (l ∷ ls) [] len = absurd (omega (arith, len))
first_cons (l ∷ ls) (t ∷ told) len = ap (λ r. l ∷ r) (first_cons ls told (omega (arith, len)))

pub later_cons : (ls : List (List Line)) (told : List (List (List Line))) → length told ≡ length ls → later_phases (cons_all ls told) ≡ told
later_cons [] [] len = refl
later_cons [] (t ∷ told) len = absurd (omega (arith, len))
later_cons (l ∷ ls) [] len = absurd (omega (arith, len))
later_cons (l ∷ ls) (t ∷ told) len = ap (λ r. t ∷ r) (later_cons ls told (omega (arith, len)))

-- no lines for each actor
abbrev pub silence : {A : Type 0} → List A → List (List Line)
silence [] = []
silence (a ∷ xs) = [] ∷ silence xs

pub silence_rows : {A : Type 0} (actor : ℕ) (counts : List ℕ) (xs : List A) → phase_rows actor counts (silence xs) ≡ []
silence_rows actor [] [] = refl
silence_rows actor [] (a ∷ xs) = refl
silence_rows actor (c ∷ counts) [] = refl
silence_rows actor (c ∷ counts) (a ∷ xs) = silence_rows (actor + 1) counts xs

pub silence_counts : {A : Type 0} (f : A → ℕ) (xs : List A) → next_counts (map f xs) (silence xs) ≡ map f xs
silence_counts f [] = refl
silence_counts f (a ∷ xs) = ap₂ (λ (n : ℕ) (ns : List ℕ). n ∷ ns) (let e : f a + 0 ≡ f a = omega arith in e) (silence_counts f xs)

pub silence_length : {A : Type 0} (xs : List A) → length (silence xs) ≡ length xs
silence_length [] = refl
silence_length (a ∷ xs) = ap suc (silence_length xs)
