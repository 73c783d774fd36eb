-- So many, of which each knows those before it.
use Rattle.std.proofs.Common.{◌≡◌, ℕ, zero, suc, List, [], ◌∷◌, ◌++◌, Result, Ok, Err, refl, sym, subst, ◌∙◌, inl, inr, append_assoc}
use Rattle.std.proofs.lemmas.List.{append-nil}
use Rattle.viz_lex.specs.declared.fault.FileFault.{FileFault}
use Rattle.viz_lex.specs.Reading.{Reading}
use Rattle.viz_lex.specs.Readers.{known_at}
use Rattle.viz_lex.specs.Rules.{Rule, IsAlong, Decides}
use Rattle.viz_lex.specs.Repeats.{AreKnown, ArentKnown, times_knowing}
use Rattle.viz_lex.proofs.ReadingLemmas.{done, done_is, bind_ok, bind_err}
use Rattle.viz_lex.proofs.RuleLemmas.{along-to, along-both}

-- a reader decides each rule, whatever stands before
abbrev pub DecidesEach : {V : Type 0} → (List V → Rule V) → (List V → Reading → Result (V × Reading) FileFault) → Type 0
DecidesEach {V = V} rule read = (before : List V) → Decides (rule before) (read before)

-- what was read: those before, and then those that stand there
record Found {V : Type 0} (rule : List V → Rule V) (before : List V) (n : ℕ) (r : Reading) (y : List V × Reading) : Type 0 where
  later : List V
  all : y.0 ≡ before ++ later
  are : AreKnown rule before r y.1 later n

known-found : {V : Type 0} (rule : List V → Rule V) (read : List V → Reading → Result (V × Reading) FileFault) → DecidesEach rule read
    → (n : ℕ) (before : List V) (r : Reading) (y : List V × Reading) → known_at read n before r ≡ Ok y → Found rule before n r y
known-found {V = V} rule read d zero before r y e =
    let same : (before, r) ≡ y = done_is (before, r) y e in
    let here : Found rule before zero r (before, r) = record { later = []; all = sym (append-nil before); are = refl } in
    subst (Found rule before zero r) same here
known-found {V = V} rule read d (suc n) before r y e =
    let one = bind_ok (read before r) (λ x. known_at read n (before ++ x.0 ∷ []) x.1) y e in
    let is = (d before).found r one.0 one.1 in
    let more = known-found rule read d n (before ++ one.0.0 ∷ []) one.0.1 y one.2 in
    record { later = one.0.0 ∷ more.later; all = more.all ∙ append_assoc before (one.0.0 ∷ []) more.later; are = (one.0.1, is, more.are) }

known-only : {V : Type 0} (rule : List V → Rule V) (read : List V → Reading → Result (V × Reading) FileFault) → DecidesEach rule read
    → (n : ℕ) (before : List V) (r next : Reading) (xs : List V) → AreKnown rule before r next xs n → known_at read n before r ≡ Ok (before ++ xs, next)
known-only rule read d zero before r next [] h = rw (h, append-nil before) refl
known-only rule read d zero before r next (x ∷ xs) h = absurd h
known-only rule read d (suc n) before r next [] h = absurd h
known-only rule read d (suc n) before r next (x ∷ xs) h =
    let first = (d before).only r h.0 x h.1 in
    let later = known-only rule read d n (before ++ x ∷ []) h.0 next xs h.2 in
    rw (first, later, append_assoc) refl

known-stops : {V : Type 0} (rule : List V → Rule V) (read : List V → Reading → Result (V × Reading) FileFault) → DecidesEach rule read
    → (n : ℕ) (before : List V) (r : Reading) (f : FileFault) → known_at read n before r ≡ Err f → ArentKnown rule before r f n
known-stops {V = V} rule read d zero before r f e = absurd (let none : done (before, r) ≡ Err f = e in cc)
known-stops {V = V} rule read d (suc n) before r f e =
    elim (bind_err (read before r) (λ x. known_at read n (before ++ x.0 ∷ []) x.1) f e) [
      | inl first ↦ inl ((d before).stops r f first)
      | inr one ↦ inr (one.0.0, one.0.1, (d before).found r one.0 one.1, known-stops rule read d n (before ++ one.0.0 ∷ []) one.0.1 f one.2)
    ]

known-only_stops : {V : Type 0} (rule : List V → Rule V) (read : List V → Reading → Result (V × Reading) FileFault) → DecidesEach rule read
    → (n : ℕ) (before : List V) (r : Reading) (f : FileFault) → ArentKnown rule before r f n → known_at read n before r ≡ Err f
known-only_stops rule read d zero before r f h = absurd h
known-only_stops rule read d (suc n) before r f h =
    elim h [
      | inl first ↦ (let e = (d before).only_stops r f first in rw e refl)
      | inr one ↦ (
          let first = (d before).only r one.1 one.0 one.2 in
          let later = known-only_stops rule read d n (before ++ one.0 ∷ []) one.1 f one.3 in
          rw (first, later) refl)
    ]

known-along : {V : Type 0} (rule : List V → Rule V) (read : List V → Reading → Result (V × Reading) FileFault) → DecidesEach rule read
    → (n : ℕ) (before : List V) (r next : Reading) (xs : List V) → AreKnown rule before r next xs n → IsAlong r next
known-along rule read d zero before r next [] h = along-to r next h
known-along rule read d zero before r next (x ∷ xs) h = absurd h
known-along rule read d (suc n) before r next [] h = absurd h
known-along rule read d (suc n) before r next (x ∷ xs) h = along-both r h.0 next ((d before).along r h.0 x h.1) (known-along rule read d n (before ++ x ∷ []) h.0 next xs h.2)

-- so many are decided
pub decides-times_knowing : {V : Type 0} (rule : List V → Rule V) (read : List V → Reading → Result (V × Reading) FileFault) → DecidesEach rule read
    → (n : ℕ) → Decides (times_knowing n rule) (known_at read n [])
decides-times_knowing rule read d n = record {
  found = λ r x e. let f = known-found rule read d n [] r x e in subst (λ ys. AreKnown rule [] r x.1 ys n) (sym f.all) f.are;
  only = known-only rule read d n [];
  stops = known-stops rule read d n [];
  only_stops = known-only_stops rule read d n [];
  along = known-along rule read d n [];
}
