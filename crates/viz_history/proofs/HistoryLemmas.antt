-- A history with one entry more.
use Rattle.std.proofs.Common.{◌≡◌, ℕ, ◌+◌, ◌*◌, ◌<◌, ◌≤◌, List, [], ◌∷◌, ◌++◌, cond, length, length-append, append_assoc, append-nil, Result, Ok, sym, ap, subst, ◌∙◌, arith}
use Rattle.std.specs.Result.{IsOk, is_ok}
use Rattle.std.proofs.lemmas.Grind.{flat_map-append}
use Rattle.viz_parts.specs.declared.stored.Stored.{Stored}
use Rattle.viz_kept.specs.True.{AreTrueOf}
use Rattle.viz_kept.proofs.TrueLemmas.{all_longer}
use Rattle.viz_network.specs.Network.{Network}
use Rattle.viz_network.specs.History.{net_of}
use Rattle.viz_network.proofs.HistoryLemmas.{sound_of}
use Rattle.viz_network.specs.declared.edit.Edit.{Edit}
use Rattle.viz_batches.specs.Batches.{BatchRefusal, IsBatch, apply_all}
use Rattle.viz_batches.specs.AppliesAll.{IsSoundBefore}
use Rattle.viz_batches.proofs.BatchLemmas.{made_behind}
use Rattle.viz_turn.proofs.ListLemmas.{has_head}
use Rattle.viz_turn.proofs.TaleLemmas.{entries_append}
use Rattle.viz_entries.specs.declared.entry.Entry.{Entry}
use Rattle.viz_history.specs.declared.answer.EditAnswer.{EditAnswer}
use Rattle.viz_history.specs.declared.answer.EditAnswer.TheVariants.{Done, Refused, Full, Memory}
use Rattle.viz_entries.specs.History.{entry, by_of, edits_of, network_of, own_of, next, apply_behind, IsNext, IsLegalAfter}
use Rattle.viz_history.specs.Machine.{State, Replies}
use Rattle.viz_history.specs.Kept.{IsKept}

-- the edits of one entry more
pub edits_more : (h : List Entry) (e : Entry) → edits_of (h ++ e ∷ []) ≡ edits_of h ++ e.batch
edits_more h e = flat_map-append (λ d. d.batch) h (e ∷ []) ∙ ap (λ l. edits_of h ++ l) (append-nil e.batch)

-- an entry has at most 64 edits
edits_few : (before h : List Entry) → IsLegalAfter before h → length (edits_of h) ≤ 64 * length h
edits_few before [] l = omega arith
edits_few before (e ∷ h) l = rw (length-append e.batch (edits_of h)) (omega (arith, l.0.batch.few, edits_few (before ++ e ∷ []) h l.1))

-- below the limit a batch more has positions of 32 bits
pub kept_room : (h : List Entry) (count limit : ℕ) (net : Network) (cache : List Stored) → IsKept h count limit net cache → length h < limit → count + 128 ≤ 4294967296
kept_room h count limit net cache k room = omega (arith, k.edits, edits_few [] h k.legal, k.fits, room)

-- the network is sound before the next position
pub sound_of_kept : (h : List Entry) (count limit : ℕ) (net : Network) (cache : List Stored) → IsKept h count limit net cache → IsSoundBefore (count + 1) net
sound_of_kept h count limit net cache k = rw (k.network, k.edits) (record { last = length (edits_of h); past = omega arith; sound = sound_of (edits_of h) })

-- what a batch makes of the network of what is kept
pub behind_kept : (h : List Entry) (count limit : ℕ) (net : Network) (cache : List Stored) (batch : List Edit) → IsKept h count limit net cache → apply_all (count + 1) batch net ≡ apply_behind h batch
behind_kept h count limit net cache batch k = ap (λ n. apply_all (n + 1) batch net) k.edits ∙ ap (apply_all (length (edits_of h) + 1) batch) k.network

-- the network after one entry more
pub network_more : (h : List Entry) (made : Network) (e : Entry) → apply_behind h e.batch ≡ Ok made → network_of (h ++ e ∷ []) ≡ made
network_more h made e p = ap net_of (edits_more h e) ∙ sym (made_behind (edits_of h) e.batch made p)

accepted : (made : Network) (r : Result Network BatchRefusal) → r ≡ Ok made → IsOk r
accepted made r p = ap is_ok p

legal_more : (before h : List Entry) (e : Entry) → IsLegalAfter before h → IsNext (before ++ h) e → IsLegalAfter before (h ++ e ∷ [])
legal_more before [] e l n = (subst (λ b. IsNext b e) (append-nil before) n, tt)
legal_more before (d ∷ h) e l n = (l.0, legal_more (before ++ d ∷ []) h e l.1 (subst (λ b. IsNext b e) (sym (append_assoc before (d ∷ []) h)) n))

-- an accepted batch of the next number is kept
pub kept_more : (h : List Entry) (count limit : ℕ) (net made : Network) (cache : List Stored) (e : Entry) → IsKept h count limit net cache → length h < limit → IsBatch e.batch
    → apply_behind h e.batch ≡ Ok made → e.count ≡ next e.pass h → IsKept (h ++ e ∷ []) (count + length e.batch) limit made cache
kept_more h count limit net made cache e k room batch p counted = record {
  edits = ap (λ n. n + length e.batch) k.edits ∙ sym (ap length (edits_more h e) ∙ length-append (edits_of h) e.batch);
  network = sym (network_more h made e p);
  legal = legal_more [] h e k.legal (record { batch = batch; accepted = accepted made (apply_behind h e.batch) p; counted = counted });
  within = rw (length-append h (e ∷ [])) (omega (arith, room));
  fits = k.fits;
  parts = subst (λ edits. AreTrueOf edits cache) (sym (edits_more h e)) (all_longer (edits_of h) e.batch cache k.parts);
}

-- other parts that are true of the history
pub kept_parts : (h : List Entry) (count limit : ℕ) (net : Network) (cache new : List Stored) → IsKept h count limit net cache → AreTrueOf (edits_of h) new → IsKept h count limit net new
kept_parts h count limit net cache new k parts = record { edits = k.edits; network = k.network; legal = k.legal; within = k.within; fits = k.fits; parts = parts }

-- where all entries are of one pass, they still are after a batch of it
pub own_all : (pass count : ℕ) (batch : List Edit) (old : State) (answer : EditAnswer) (new : State) → Replies pass count batch old answer new → own_of pass old.history ≡ old.history → own_of pass new.history ≡ new.history
own_all pass count batch old (Done at) new r s =
    let x = entry pass count batch in
    ap (own_of pass) r.0.history
    ∙ (entries_append by_of (pass ∷ []) old.history (x ∷ [])
    ∙ (ap (λ l. l ++ own_of pass (x ∷ [])) s ∙ (ap (λ t. old.history ++ cond t (x ∷ []) []) (has_head pass []) ∙ sym r.0.history)))
own_all pass count batch old (Refused index w at) new r s = ap (own_of pass) r.0.history ∙ (s ∙ sym r.0.history)
own_all pass count batch old (Full at) new r s = ap (own_of pass) r.0.history ∙ (s ∙ sym r.0.history)
own_all pass count batch old Memory new r s = ap (own_of pass) r.0.history ∙ (s ∙ sym r.0.history)
