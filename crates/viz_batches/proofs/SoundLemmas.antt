-- A network stays sound before the positions to come.
use Rattle.std.proofs.Common.{◌≡◌, ℕ, suc, ◌+◌, ◌≤◌, length, List, [], ◌∷◌, Result, Ok, Err, refl, sym, ap, subst, arith}
use Rattle.viz_network.specs.declared.edit.Edit.{Edit}
use Rattle.viz_network.specs.declared.refusal.Refusal.{Refusal}
use Rattle.viz_network.specs.Network.{Network}
use Rattle.viz_network.specs.Edits.{apply}
use Rattle.viz_network.specs.History.{pick, net_of}
use Rattle.viz_network.proofs.SoundLemmas.{sound_after}
use Rattle.viz_network.proofs.HistoryLemmas.{sound_of}
use Rattle.viz_batches.specs.declared.stop.BatchStop.{BatchStop}
use Rattle.viz_batches.specs.declared.stop.BatchStop.TheVariants.{Refused, Memory}
use Rattle.viz_batches.specs.Batches.{then_all, apply_from, apply_all}
use Rattle.viz_batches.specs.AppliesAll.{AppliesAll, IsSoundBefore}

pub history_sound : (edits : List Edit) → IsSoundBefore (length edits + 1) (net_of edits)
history_sound edits = record { last = length edits; past = omega arith; sound = sound_of edits }

sound_later : (at later : ℕ) (net : Network) → at ≤ later → IsSoundBefore at net → IsSoundBefore later net
sound_later at later net l s = record { last = s.last; past = omega (arith, l, s.past); sound = s.sound }

-- what an edit makes
sound_next : (at : ℕ) (edit : Edit) (net made : Network) → IsSoundBefore at net → apply at edit net ≡ Ok made → IsSoundBefore (at + 1) made
sound_next at edit net made s p = subst (IsSoundBefore (at + 1)) (ap (pick net) p) (record { last = at; past = omega arith; sound = sound_after s.last at edit net s.past s.sound })

-- what edits make
sound_all : (index at : ℕ) (edits : List Edit) (net made : Network) → IsSoundBefore at net → apply_from index at edits net ≡ Ok made → IsSoundBefore (at + length edits) made
sound_all index at [] net made s p = let same : net ≡ made = cc in subst (IsSoundBefore (at + 0)) same (sound_later at (at + 0) net (omega arith) s)
sound_all index at (e ∷ edits) net made s p =
    by (apply at e net) refl p (λ next is q. subst (λ n. IsSoundBefore n made) (let same : (at + 1) + length edits ≡ at + suc (length edits) = omega arith in same)
    (sound_all (index + 1) (at + 1) edits next made (sound_next at e net next s is) q))
  where
    by : (r : Result Network Refusal) → apply at e net ≡ r → then_all (apply_from (index + 1) (at + 1) edits) index r ≡ Ok made
        → ((next : Network) → apply at e net ≡ Ok next → apply_from (index + 1) (at + 1) edits next ≡ Ok made → IsSoundBefore (at + suc (length edits)) made) → IsSoundBefore (at + suc (length edits)) made
    by (Ok next) is q rest = rest next is q
    by (Err r) is q rest = let bad : ⊥ = cc in absurd bad

-- what a batch leaves, made or not
pub batch_sound : (at : ℕ) (edits : List Edit) (old new : Network) (answer : Result (Unit {0}) BatchStop) → IsSoundBefore at old → AppliesAll answer old new (apply_all at edits old) → IsSoundBefore (at + length edits) new
batch_sound at edits old new (Ok done) s h = sound_all 1 at edits old new s h
batch_sound at edits old new (Err (Refused index r)) s h = sound_later at (at + length edits) new (omega arith) (subst (IsSoundBefore at) (sym h.1) s)
batch_sound at edits old new (Err Memory) s h = sound_later at (at + length edits) new (omega arith) (subst (IsSoundBefore at) (sym h) s)
