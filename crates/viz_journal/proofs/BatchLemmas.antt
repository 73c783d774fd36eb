-- A batch is accepted where its edits are one by one.
use Rattle.std.proofs.Common.{◌≡◌, ℕ, ◌+◌, true, false, true≢false, List, [], ◌∷◌, ◌++◌, length, length-append, Result, Ok, Err, refl, sym, ap, ◌∙◌, arith}
use Rattle.std.specs.Prelude.{is_ok}
use Rattle.viz_network.specs.declared.edit.Edit.{Edit}
use Rattle.viz_network.specs.declared.refusal.Refusal.{Refusal}
use Rattle.viz_network.specs.Network.{Network}
use Rattle.viz_network.specs.Edits.{apply}
use Rattle.viz_network.specs.History.{net_of}
use Rattle.viz_batches.specs.Batches.{then_all, apply_from}
use Rattle.viz_journal.specs.Entries.{is_accepted, accepts_all}
use Rattle.viz_journal.proofs.LedgerLemmas.{net-more}

-- each edit is accepted behind these and those in front of it
abbrev pub AreAccepted : List Edit → List Edit → Type 0
AreAccepted before [] = Unit {0}
AreAccepted before (e ∷ edits) = (is_accepted before e ≡ true) × AreAccepted (before ++ e ∷ []) edits

-- the edits behind one that makes this network
behind-one : (i : ℕ) (before : List Edit) (e : Edit) (edits : List Edit) (made : Network) → apply (length before + 1) e (net_of before) ≡ Ok made
    → is_ok (apply_from i (length before + 1) (e ∷ edits) (net_of before)) ≡ is_ok (apply_from (i + 1) (length (before ++ e ∷ []) + 1) edits (net_of (before ++ e ∷ [])))
behind-one i before e edits made h =
    let long : length before + 1 ≡ length (before ++ e ∷ []) = omega (arith, length-append before (e ∷ [])) in
    ap (λ (r : Result Network Refusal). is_ok (then_all (apply_from (i + 1) (length before + 1 + 1) edits) i r)) h
    ∙ ap (λ (n : Network). is_ok (apply_from (i + 1) (length before + 1 + 1) edits n)) (net-more before e made h)
    ∙ ap (λ k. is_ok (apply_from (i + 1) (k + 1) edits (net_of (before ++ e ∷ [])))) long

from-each : (i : ℕ) (before edits : List Edit) → AreAccepted before edits → is_ok (apply_from i (length before + 1) edits (net_of before)) ≡ true
from-each i before [] h = refl
from-each i before (e ∷ edits) h = by (apply (length before + 1) e (net_of before)) refl (from-each (i + 1) (before ++ e ∷ []) edits h.1)
  where
    by : (r : Result Network Refusal) → apply (length before + 1) e (net_of before) ≡ r
        → is_ok (apply_from (i + 1) (length (before ++ e ∷ []) + 1) edits (net_of (before ++ e ∷ []))) ≡ true → is_ok (apply_from i (length before + 1) (e ∷ edits) (net_of before)) ≡ true
    by (Ok made) is ih = behind-one i before e edits made is ∙ ih
    by (Err r) is ih = absurd (true≢false (sym h.0 ∙ ap (λ (x : Result Network Refusal). is_ok x) is))

pub all-accepted : (before edits : List Edit) → AreAccepted before edits → accepts_all before edits ≡ true
all-accepted before edits h = from-each 1 before edits h

to-each : (i : ℕ) (before edits : List Edit) → is_ok (apply_from i (length before + 1) edits (net_of before)) ≡ true → AreAccepted before edits
to-each i before [] h = tt
to-each i before (e ∷ edits) h = by (apply (length before + 1) e (net_of before)) refl (to-each (i + 1) (before ++ e ∷ []) edits)
  where
    by : (r : Result Network Refusal) → apply (length before + 1) e (net_of before) ≡ r
        → (is_ok (apply_from (i + 1) (length (before ++ e ∷ []) + 1) edits (net_of (before ++ e ∷ []))) ≡ true → AreAccepted (before ++ e ∷ []) edits) → AreAccepted before (e ∷ edits)
    by (Ok made) is ih = (ap (λ (x : Result Network Refusal). is_ok x) is, ih (sym (behind-one i before e edits made is) ∙ h))
    by (Err r) is ih =
        let refused : is_ok (apply_from i (length before + 1) (e ∷ edits) (net_of before)) ≡ false = ap (λ (x : Result Network Refusal). is_ok (then_all (apply_from (i + 1) (length before + 1 + 1) edits) i x)) is in
        absurd (true≢false (sym h ∙ refused))

pub each-accepted : (before edits : List Edit) → accepts_all before edits ≡ true → AreAccepted before edits
each-accepted before edits h = to-each 1 before edits h
