-- What feeds a step that is asked for is read there or later.
use Rattle.std.proofs.Common.{◌≡◌, ℕ, zero, suc, ◌+◌, ◌<◌, ◌≤◌, Bool, true, false, nat_eq, max, List, [], ◌∷◌, ◌++◌, length, set, get_or, slice_get, Option, None, Some, refl, sym, ap, subst, ◌∙◌, arith}
use Rattle.std.proofs.lemmas.Bool.{eqb-true}
use Rattle.std.proofs.lemmas.Bool.Decides.{nat_tests}
use Rattle.std.proofs.lemmas.List.{get_or-set_same, get_or-set_other, length-set}
use Rattle.viz_network.specs.declared.steps.Step.{Step}
use Rattle.viz_scratch.specs.Steps.Readers.{AreBefore, AreReadAt, AreReadersFrom, IsRaised}

-- read at a step or later, so it stays where each is read later still
pub read_more : (last new : List ℕ) (k : ℕ) → ((j : ℕ) → get_or last j 0 ≤ get_or new j 0) → (places : List (Option ℕ)) → AreReadAt last k places → AreReadAt new k places
read_more last new k more [] h = tt
read_more last new k more (None ∷ places) h = read_more last new k more places h
read_more last new k more (Some p ∷ places) h = (omega (arith, h.0, more p), read_more last new k more places h.1)

-- places in front, and one more
pub read_push : (last : List ℕ) (k : ℕ) (places : List (Option ℕ)) (p : Option ℕ) → AreReadAt last k places → AreReadAt last k (p ∷ []) → AreReadAt last k (places ++ p ∷ [])
read_push last k [] p h g = g
read_push last k (None ∷ places) p h g = read_push last k places p h g
read_push last k (Some q ∷ places) p h g = (h.0, read_push last k places p h.1 g)

-- nothing is raised
pub raised_none : (k : ℕ) (last : List ℕ) → IsRaised k [] last last
raised_none k last = record { count = refl; more = λ j. omega arith; later = λ j l. refl; reached = tt }

-- an empty port raises nothing
pub raised_empty : (k : ℕ) (last : List ℕ) → IsRaised k (None ∷ []) last last
raised_empty k last = record { count = refl; more = λ j. omega arith; later = λ j l. refl; reached = tt }

-- one place is raised
pub raised_one : (k p v : ℕ) (last : List ℕ) → p < k → k < length last → v ≡ max (get_or last p 0) k → IsRaised k (Some p ∷ []) last (set last p v)
raised_one k p v last before within is = record {
  count = length-set last p v;
  more = λ j. at j (nat_eq j p) refl;
  later = λ j l. (let differs : (j ≡ p → ⊥) = λ e. omega (arith, e, l, before) in get_or-set_other last p j v 0 differs);
  reached = (let e = get_or-set_same last p v 0 (omega (arith, before, within)) in omega (arith, e, is), tt);
}
  where
    at : (j : ℕ) (b : Bool) → nat_eq j p ≡ b → get_or last j 0 ≤ get_or (set last p v) j 0
    at j true e =
        let same : j ≡ p = eqb-true j p e in
        let now = get_or-set_same last p v 0 (omega (arith, before, within)) in
        subst (λ q. get_or last q 0 ≤ get_or (set last p v) q 0) (sym same) (omega (arith, now, is))
    at j false e =
        let differs : (j ≡ p → ⊥) = λ q. grind (arith, nat_tests) in
        let now = get_or-set_other last p j v 0 differs in
        omega (arith, now)

-- more places are raised
pub raised_more : (k : ℕ) (places : List (Option ℕ)) (p : Option ℕ) (old mid new : List ℕ) → IsRaised k places old mid → IsRaised k (p ∷ []) mid new → IsRaised k (places ++ p ∷ []) old new
raised_more k places p old mid new a b = record {
  count = b.count ∙ a.count;
  more = λ j. omega (arith, a.more j, b.more j);
  later = λ j l. b.later j l ∙ a.later j l;
  reached = read_push new k places p (read_more mid new k b.more places a.reached) b.reached;
}

-- one step less is left
pub readers_more : (k : ℕ) (steps : List Step) (s : Step) (old new : List ℕ) → slice_get steps k ≡ Some s → AreReadersFrom (k + 1) steps old → IsRaised k s.inputs old new → AreReadersFrom k steps new
readers_more k steps s old new at r raised j z l here asked = by (nat_eq j k) refl
  where
    by : (b : Bool) → nat_eq j k ≡ b → AreReadAt new j z.inputs
    by true e =
        let place : j ≡ k = eqb-true j k e in
        let same : s ≡ z = (let f : Some s ≡ Some z = sym at ∙ sym (ap (slice_get steps) place) ∙ here in cc) in
        subst (λ q. AreReadAt new q z.inputs) (sym place) (subst (λ (y : Step). AreReadAt new k y.inputs) same raised.reached)
    by false e =
        let behind : k + 1 ≤ j = grind (arith, nat_tests) in
        let later = raised.later j (omega (arith, behind)) in
        read_more old new j raised.more z.inputs (r j z behind here (omega (arith, asked, later)))

-- a step that isn't asked for
pub readers_skip : (k : ℕ) (steps : List Step) (last : List ℕ) → AreReadersFrom (k + 1) steps last → get_or last k 0 ≡ 0 → AreReadersFrom k steps last
readers_skip k steps last r none j z l here asked = by (nat_eq j k) refl
  where
    by : (b : Bool) → nat_eq j k ≡ b → AreReadAt last j z.inputs
    by true e =
        let place = ap (λ q. get_or last q 0) (eqb-true j k e) in
        absurd (omega (arith, place, none, asked))
    by false e = r j z (grind (arith, nat_tests)) here asked

-- one of the places that stand before a step
pub before_at : (k : ℕ) (places : List (Option ℕ)) (i : ℕ) (d : Option ℕ) → AreBefore k places → i < length places → AreBefore k (get_or places i d ∷ [])
before_at k [] i d h l = absurd (omega (arith, l))
before_at k (None ∷ places) zero d h l = tt
before_at k (Some p ∷ places) zero d h l = (h.0, tt)
before_at k (None ∷ places) (suc i) d h l = before_at k places i d h (omega (arith, l))
before_at k (Some p ∷ places) (suc i) d h l = before_at k places i d h.1 (omega (arith, l))
