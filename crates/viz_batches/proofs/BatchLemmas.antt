-- What the edits of a batch make, one by one.
use Rattle.std.proofs.Common.{◌≡◌, ℕ, suc, ◌+◌, ◌++◌, length, List, [], ◌∷◌, Result, Ok, Err, refl, sym, ap, ◌∙◌, arith}
use Rattle.std.specs.List.{All}
use Rattle.std.proofs.lemmas.List.Elements.{All-nil}
use Rattle.viz_network.specs.declared.edit.Edit.{Edit}
use Rattle.viz_network.specs.declared.refusal.Refusal.{Refusal}
use Rattle.viz_network.specs.Network.{Network}
use Rattle.viz_network.specs.Edits.{apply}
use Rattle.viz_network.specs.History.{pick, after, net_after, net_of}
use Rattle.viz_batches.specs.declared.stop.BatchStop.{BatchStop}
use Rattle.viz_batches.specs.declared.stop.BatchStop.TheVariants.{Refused, Memory}
use Rattle.viz_batches.specs.Batches.{then_all, apply_from, apply_all}
use Rattle.viz_batches.specs.AppliesAll.{AppliesAll, IsSet, MayTakeMemoryAll}
use Rattle.viz_batches.specs.Steps.Making.{MakesOne}

-- accepted edits make what they make one by one
pub accepted_all : (index at : ℕ) (edits : List Edit) (net made : Network) → apply_from index at edits net ≡ Ok made → made ≡ net_after at edits net
accepted_all index at [] net made p = let same : net ≡ made = cc in sym same
accepted_all index at (e ∷ edits) net made p = by (apply at e net) refl p (λ n q. accepted_all (index + 1) (at + 1) edits n made q)
  where
    by : (r : Result Network Refusal) → apply at e net ≡ r → then_all (apply_from (index + 1) (at + 1) edits) index r ≡ Ok made
        → ((n : Network) → apply_from (index + 1) (at + 1) edits n ≡ Ok made → made ≡ net_after (at + 1) edits n) → made ≡ net_after (at + 1) edits (pick net (apply at e net))
    by (Ok n) is q rest = rest n q ∙ ap (λ (m : Result Network Refusal). net_after (at + 1) edits (pick net m)) (sym is)
    by (Err r) is q rest = let bad : ⊥ = cc in absurd bad

net_after-append : (at : ℕ) (edits more : List Edit) (net : Network) → net_after at (edits ++ more) net ≡ net_after (at + length edits) more (net_after at edits net)
net_after-append at [] more net = ap (λ k. net_after k more net) (let e : at ≡ at + 0 = omega arith in e)
net_after-append at (edit ∷ edits) more net =
    net_after-append (at + 1) edits more (after at edit net)
    ∙ ap (λ k. net_after k more (net_after (at + 1) edits (after at edit net))) (let e : (at + 1) + length edits ≡ at + suc (length edits) = omega arith in e)

net_of-append : (edits more : List Edit) → net_of (edits ++ more) ≡ net_after (length edits + 1) more (net_of edits)
net_of-append edits more = net_after-append 1 edits more [] ∙ ap (λ k. net_after k more (net_of edits)) (let e : 1 + length edits ≡ length edits + 1 = omega arith in e)

-- behind a history they make the network of the longer one
pub made_behind : (edits more : List Edit) (made : Network) → apply_all (length edits + 1) more (net_of edits) ≡ Ok made → made ≡ net_of (edits ++ more)
made_behind edits more made p = accepted_all 1 (length edits + 1) more (net_of edits) made p ∙ sym (net_of-append edits more)

-- one edit is a batch of one
pub one_all : (at : ℕ) (result : Result (Unit {0}) BatchStop) (old new : Network) (made : Result Network Refusal) → MakesOne 1 result old new made → AppliesAll result old new (then_all (apply_from 2 (at + 1) []) 1 made)
one_all at (Ok done) old new made h = ap (then_all (apply_from 2 (at + 1) []) 1) h
one_all at (Err (Refused place r)) old new made h = (ap (then_all (apply_from 2 (at + 1) []) 1) h.1 ∙ ap (λ (i : ℕ). Err (i, r)) (sym h.0), h.2)
one_all at (Err Memory) old new made h = h

-- of several edits, not each a Set, one may take memory
pub several : (edits : List Edit) → ((e : Edit) → edits ≡ e ∷ [] → ⊥) → (All IsSet edits → ⊥) → MayTakeMemoryAll edits
several [] more none = none (All-nil IsSet)
several (e ∷ []) more none = absurd (more e refl)
several (e ∷ (f ∷ edits)) more none = none
