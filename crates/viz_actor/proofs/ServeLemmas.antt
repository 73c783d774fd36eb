-- Lines of commands, between the entries that a pass had seen and has seen then.
use Rattle.std.proofs.Common.{◌≡◌, ℕ, suc, ◌+◌, ◌%◌, ◌^◌, ◌≤◌, Option, None, Some, IfSome, ⊎_elim, Bool, IsTrue, eq-eqb, true, false, true≢false, not, cond, List, [], ◌∷◌, ◌++◌, length, length-append, take, drop, slice_get, append_assoc, append-nil, Result, Ok, Err, refl, sym, ap, subst, ◌∙◌, arith, ◌==◌}
use Rattle.std.proofs.lemmas.Bool.{and_parts, not-true, ne_eqb}
use Rattle.std.proofs.lemmas.List.{take-append-drop, take-append-le}
use Rattle.std.proofs.lemmas.List.Elements.{All-nil}
use Rattle.viz_base.specs.declared.node.Shape.{Shape}
use Rattle.viz_base.specs.declared.call.Call.{Call}
use Rattle.viz_base.specs.declared.call.Call.TheVariants.{Read}
use Rattle.viz_base.specs.declared.call.ReadAnswer.TheVariants as read
use Rattle.viz_base.specs.declared.port.Port as port
use Rattle.viz_turn.specs.Tales.{has, clear, GoesOn}
use Rattle.viz_turn.specs.Known as turn
use Rattle.viz_hub.specs.Passes.{PassKnown, numbers, as_known, at_seen, with_sent, GoesFurther, Looks}
use Rattle.viz_hub.specs.Publishing.{publication}
use Rattle.viz_hub.specs.declared.sent.Sent.{Sent}
use Rattle.viz_turn.proofs.ListLemmas.{has_head, has_cons}
use Rattle.viz_turn.proofs.TaleLemmas.{clear_sub, all_of_it}
use Rattle.viz_network.specs.declared.edit.Edit.{Edit}
use Rattle.viz_network.specs.Network.{Network}
use Rattle.viz_network.specs.declared.refusal.Refusal.{Refusal}
use Rattle.viz_batches.specs.Batches.{BatchRefusal, then_all}
use Rattle.viz_network.specs.Edits.{apply}
use Rattle.viz_entries.specs.declared.entry.Entry.{Entry}
use Rattle.viz_history.specs.declared.answer.EditAnswer.{EditAnswer}
use Rattle.viz_history.specs.declared.answer.EditAnswer.TheVariants as answer
use Rattle.viz_entries.specs.History.{by_of, edits_of, network_of, apply_behind}
use Rattle.viz_plan.specs.Published.{AreOfPlan}
use Rattle.viz_kept.specs.True.{IsTrueIn}
use Rattle.viz_parts.specs.declared.stored.Stored.{Stored}
use Rattle.viz_hub.specs.Answers.{Answers, next_entry}
use Rattle.viz_script.specs.declared.order.Step.{Step}
use Rattle.viz_script.specs.Orders.{Asked, seen, load, update, audit}
use Rattle.viz_report.specs.declared.line.Line.{Line}
use Rattle.viz_report.specs.declared.line.Line.TheVariants as line
use Rattle.viz_report.specs.declared.line.Reason.TheVariants as reason
use Rattle.viz_account.specs.Answers.{audit_line_of, line_of, HandsOut}
use Rattle.viz_account.specs.Lines.{IsRefusedAt, TellsUpdate, TellsAudit}
use Rattle.viz_account.specs.Account.{edited, least, places_from, places, AreTold, faults_told, RoseBy}
use Rattle.viz_account.specs.Served.{Extends, Serves, ServesAll}
use Rattle.viz_account.specs.declared.answer.Answer.{Answer}
use Rattle.viz_account.specs.declared.answer.Answer.TheVariants as answers
use Rattle.viz_account.specs.declared.answer.AuditAnswer.{AuditAnswer}
use Rattle.viz_account.specs.declared.answer.AuditAnswer.TheVariants as audits
use Rattle.viz_account.specs.declared.answer.Missing.{Missing}
use Rattle.viz_account.specs.declared.parts.UpdateParts.{UpdateParts}
use Rattle.viz_account.proofs.AccountLemmas.{rose_none, served_none, served_one, served_append}
use Rattle.viz_account.proofs.HistoryLemmas.{take-all, slice_get-end, places_append_from, places_grow}
use Rattle.viz_actor.specs.Serving.{commands_of, edit_line, batch_line, AddsLines, Edits, Batches}
use Rattle.viz_actor.specs.Updating.{IsAudit, IsSamePass, IsUpdate, Publishes}

-- ---- what others add

-- entries of others have no place
pub places_clear : (ps : List ℕ) (n : ℕ) (h : List Entry) → clear by_of ps h ≡ true → places_from ps n h ≡ []
places_clear ps n [] t = refl
places_clear ps n (e ∷ h) t =
    let p = and_parts (not (has e.pass ps)) (clear by_of ps h) t in
    rw (not-true (has e.pass ps) p.0) (places_clear ps (n + 1) h p.1)

-- so they leave the places of these passes
pub places_same : (ps : List ℕ) (old new : List Entry) → GoesOn by_of ps old new → places ps new ≡ places ps old
places_same ps old new g =
    ap (places ps) g.1 ∙ places_append_from ps 1 old g.0 ∙ ap (λ t. places ps old ++ t) (places_clear ps (1 + length old) g.0 g.2) ∙ append-nil (places ps old)

-- of the pass's own number alone
pub own_further : (p : PassKnown) (h : List Entry) → GoesFurther p h → GoesOn by_of (p.number ∷ []) p.seen h
own_further p h g = (
  g.0,
  g.1,
  clear_sub by_of (numbers p) (p.number ∷ []) g.0
      (λ x m. ⊎_elim (λ (e : x ≡ p.number). subst (λ (y : ℕ). has y (numbers p) ≡ true) (sym e) (has_head p.number p.ended)) (λ (i : has x [] ≡ true). absurd (true≢false (sym i))) (has_cons x p.number [] m)) g.2,
)

pub longer : (ps : List ℕ) (old new : List Entry) → GoesOn by_of ps old new → length old ≤ length new
longer ps old new g = omega (arith, ap length g.1, length-append old g.0)

-- a look at the history adds no entry of the pass
pub looked : (p : PassKnown) (new : List Entry) → GoesFurther p new
    → Extends p.seen new × (places (p.number ∷ []) new ≡ places (p.number ∷ []) p.seen ++ []) × (length p.seen ≤ length new)
looked p new g =
    let on = own_further p new g in
    ((g.0, g.1), places_same (p.number ∷ []) p.seen new on ∙ sym (append-nil (places (p.number ∷ []) p.seen)), longer (p.number ∷ []) p.seen new on)

-- ---- edits

-- the network of all entries
pub whole_network : (h : List Entry) → network_of (take (length h) h) ≡ network_of h
whole_network h = ap network_of (take-all h)

-- the line of a batch's answer tells it
pub batch_told : (p : PassKnown) (batch : List Edit) (new : List Entry) (a : EditAnswer) → Answers p batch a new → Batches p.turn.mark p.number batch (batch_line a) p.seen new
batch_told p batch new (answer.Done n) h =
    let others = h.0 in
    let x : Entry = next_entry p batch in
    let on = own_further p others h.1 in
    let len : length new ≡ length others + 1 = ap length h.2 ∙ length-append others (x ∷ []) in
    let up : length p.seen ≤ length others = longer (p.number ∷ []) p.seen others on in
    let at : n ≡ length others + 1 = h.3 ∙ len in
    record {
      further = (h.1.0 ++ x ∷ [], h.2 ∙ ap (λ l. l ++ x ∷ []) h.1.1 ∙ append_assoc p.seen h.1.0 (x ∷ []));
      own = ap (places (p.number ∷ [])) h.2 ∙ places_grow p.number others x (has_head p.number [])
          ∙ ap (λ l. l ++ (length others + 1) ∷ []) (places_same (p.number ∷ []) p.seen others on) ∙ ap (λ (m : ℕ). places (p.number ∷ []) p.seen ++ m ∷ []) (sym at);
      told = (
        n,
        (
          refl,
          record {
            index = length others;
            entry = x;
            place = at;
            there = ap (λ t. slice_get t (length others)) h.2 ∙ slice_get-end others x;
            own = has_head p.number [];
            asked = refl;
          },
        ),
        omega (arith, at, up),
        omega (arith, h.3),
      );
    }
batch_told p batch new (answer.Refused index w n) h =
    let t = looked p new h.0 in
    record {
      further = t.0;
      own = t.1;
      told = (
        n,
        (refl, ap (λ g. apply_behind g batch) (ap (λ m. take m new) h.1 ∙ take-all new) ∙ h.3),
        omega (arith, h.1, t.2),
        omega (arith, h.1),
      );
    }
batch_told p batch new (answer.Full n) h =
    let t = looked p new h.0 in
    record { further = t.0; own = t.1; told = (n, (refl, h.2), omega (arith, h.1, t.2), omega (arith, h.1)) }
batch_told p batch new answer.Memory h =
    let t = looked p new h.0 in
    record { further = t.0; own = t.1; told = (length new, tt, t.2, omega arith) }

-- a batch of one is refused at its one place
one_refused : (made : Result Network Refusal) (index : ℕ) (r : Refusal) → then_all (λ net. Ok net) 1 made ≡ Err (index, r) → then_all (λ net. Ok net) 1 made ≡ Err (1, r)
one_refused (Ok net) index r e = let bad : ⊥ = cc in absurd bad
one_refused (Err s) index r e =
    let same : (let x : BatchRefusal = (1, s) in x) ≡ (index, r) = cc in
    ap (λ (x : BatchRefusal). let y : Result Network BatchRefusal = Err (1, x.1) in y) same

one_refused_at : (h : List Entry) (n : ℕ) (e : Edit) (index : ℕ) (r : Refusal) → IsRefusedAt h n (e ∷ []) index r → IsRefusedAt h n (e ∷ []) 1 r
one_refused_at h n e index r = one_refused (apply (length (edits_of (take n h)) + 1) e (network_of (take n h))) index r

-- the line of an edit's answer tells it
pub edits_told : (p : PassKnown) (e : Edit) (new : List Entry) (a : EditAnswer) → Answers p (e ∷ []) a new → Edits p.turn.mark p.number e (edit_line a) p.seen new
edits_told p e new (answer.Done n) h =
    let t = batch_told p (e ∷ []) new (answer.Done n) h in
    record { further = t.further; own = t.own; told = t.told }
edits_told p e new (answer.Refused index w n) h =
    let t = batch_told p (e ∷ []) new (answer.Refused index w n) h in
    record {
      further = t.further;
      own = t.own;
      told = (t.told.0, (t.told.1.0, one_refused_at new t.told.0 e index w t.told.1.1), t.told.2, t.told.3);
    }
edits_told p e new (answer.Full n) h =
    let t = batch_told p (e ∷ []) new (answer.Full n) h in
    record { further = t.further; own = t.own; told = t.told }
edits_told p e new answer.Memory h =
    let t = batch_told p (e ∷ []) new answer.Memory h in
    record { further = t.further; own = t.own; told = t.told }

-- ---- updates and audits

-- their lines tell of no entry
quiet_update : (net : Network) (n : ℕ) (node file : List ℕ) (pieces : ℕ) (l : Line)
    (calls : List Call) → TellsUpdate net n node file pieces l calls
    → (edited l ≡ []) × ((k : ℕ) → least k l ≡ k)
quiet_update net n node file pieces (line.File at cells points ran) calls t = (refl, (λ k. refl))
quiet_update net n node file pieces (line.Refused r at) calls t = (refl, (λ k. refl))
quiet_update net n node file pieces line.WriteFault calls t = (refl, (λ k. refl))
quiet_update net n node file pieces line.Memory calls t = (refl, (λ k. refl))
quiet_update net n node file pieces (line.Edit at) calls t = absurd t
quiet_update net n node file pieces (line.Audit at sides two lone border) calls t = absurd t
quiet_update net n node file pieces line.ReadFault calls t = absurd t

quiet_audit : (net : Network) (n : ℕ) (node : List ℕ) (l : Line) → TellsAudit net n node l → (edited l ≡ []) × ((k : ℕ) → least k l ≡ k) × (faults_told (l ∷ []) ≡ 0)
quiet_audit net n node (line.Audit at sides two lone border) t = (refl, (λ k. refl), refl)
quiet_audit net n node (line.Refused r at) t = (refl, (λ k. refl), refl)
quiet_audit net n node line.Memory t = (refl, (λ k. refl), refl)
quiet_audit net n node (line.Edit at) t = absurd t
quiet_audit net n node (line.File at cells points ran) t = absurd t
quiet_audit net n node line.ReadFault t = absurd t
quiet_audit net n node line.WriteFault t = absurd t

module _ {P : Type 0} (m : port.Ghosts P) (p : PassKnown) (h : List Entry) (on : GoesFurther p h) where
  -- a load whose file was too long
  pub serves_too_long : (node file : List ℕ) (at taken : ℕ) (before after : P) → at ≡ length h
      → (IsTrue m.tells_calls → m.calls after ≡ m.calls before ++ Read file (read.TooLong taken) ∷ []) → RoseBy 0 (m.faults before) (m.faults after)
      → Serves m p.turn.mark p.number (load node file) (line.Refused reason.TooLong at) p.seen h before after
  serves_too_long node file at taken before after is calls faults =
      let t = looked p h on in
      record {
        further = t.0;
        own = t.1;
        gained = (at, Read file (read.TooLong taken) ∷ [], calls, (refl, (taken, refl)), omega (arith, is, t.2), omega (arith, is));
        faults = faults;
      }

-- ---- updates

-- the same pass, whatever it published
pub same_but : (old new : PassKnown) (sent : ℕ) (last : Option Sent)
    → new ≡ with_sent sent last (turn.at_seen (as_known old) new.seen)
    → IsSamePass old new
same_but old new sent last e =
    let known = turn.at_seen (as_known old) new.seen in
    e ∙ ap (λ s. with_sent s last known) (sym (ap (λ (q : PassKnown). q.sent) e))
    ∙ ap (λ l. with_sent new.sent l known) (sym (ap (λ (q : PassKnown). q.last) e))

-- so where it published nothing
pub same_seen : (old new : PassKnown) → new ≡ at_seen old new.seen → IsSamePass old new
same_seen old new e = same_but old new old.sent old.last e

pub same_still : (p q r : PassKnown) → IsSamePass p q → IsSamePass q r → IsSamePass p r
same_still p q r first then =
    then ∙ ap (λ (k : PassKnown). with_sent r.sent r.last (turn.at_seen (as_known k) r.seen)) first

-- a pass that was pinned, and published what was handed out
module _ (old new : PassKnown) (pinned : List Entry) (shape : Shape) where
  pub handed_same : (o : Option UpdateParts) → Publishes pinned shape o (at_seen old pinned) new
      → IsSamePass old new
  handed_same None h =
      same_but old new old.sent old.last
      (h ∙ ap (λ l. at_seen old l) (sym (ap (λ (q : PassKnown). q.seen) h)))
  handed_same (Some parts) h =
      same_but old new ((old.sent + 1) % 2 ^ 64) (Some (publication pinned parts.sink shape)) h.same

  pub handed_further : (o : Option UpdateParts) → Publishes pinned shape o (at_seen old pinned) new
      → GoesOn by_of (numbers old) pinned new.seen
  handed_further None h =
      subst (λ (l : List Entry). GoesOn by_of (numbers old) pinned l)
      (sym (ap (λ (q : PassKnown). q.seen) h)) (all_of_it by_of (numbers old) pinned)
  handed_further (Some parts) h = h.further

-- what was handed out may be published
pub handed_plan : (net : Network) (entries : List Stored) (pieces : ℕ) (node : List ℕ)
    (cause : Option Missing) (o : Option UpdateParts) → HandsOut net entries pieces node cause o
    → IfSome o (λ (p : UpdateParts). AreOfPlan net entries p.sink.0 pieces p.used.items p.made.items)
handed_plan net entries pieces node cause None h = tt
handed_plan net entries pieces node cause (Some parts) h = h.1.plan

-- an update for which memory was wanting before the pass was pinned
pub update_nothing : {P : Type 0} (m : port.Ghosts P) (node file : List ℕ) (shape : Shape)
    (old new : PassKnown) (q : P) → Looks old new
    → IsUpdate m node file shape answers.Memory old new q q
update_nothing m node file shape old new q looks =
    record {
      pinned = new.seen;
      entries = [];
      parts = None;
      further = looks.further;
      kept = record { each = All-nil (IsTrueIn (network_of new.seen)) };
      at = tt;
      updates = record {
        gained = ([], (λ tells. sym (append-nil (m.calls q))), refl);
        faults = rose_none (m.faults q);
      };
      hands = tt;
      publishes = looks.same;
    }

-- the network of the entries in front of others
network_front : (pinned rest h : List Entry) → h ≡ pinned ++ rest
    → network_of (take (length pinned) h) ≡ network_of pinned
network_front pinned rest h is =
    ap (λ (t : List Entry). network_of (take (length pinned) t)) is
    ∙ ap network_of (take-append-le (length pinned) pinned rest (omega arith))
    ∙ whole_network pinned

-- an update of the network of what the pass was pinned with
pub serves_update : {P : Type 0} (m : port.Ghosts P) (p new : PassKnown) (node file : List ℕ)
    (shape : Shape) (a : Answer) (before after : P)
    → GoesFurther p new.seen → IsUpdate m node file shape a p new before after
    → Serves m p.turn.mark p.number (update node file shape.pieces shape.workers) (line_of a) p.seen
    new.seen before after
serves_update m p new node file shape a before after on u =
    let n = length u.pinned in
    let l = line_of a in
    let calls = u.updates.gained.0 in
    let still = quiet_update (network_of u.pinned) n node file shape.pieces l calls
    u.updates.gained.2 in
    let t = looked p new.seen on in
    let up = looked p u.pinned u.further in
    let behind = handed_further p new u.pinned shape u.parts u.publishes in
    record {
      further = t.0;
      own = t.1 ∙ ap (λ e. places (p.number ∷ []) p.seen ++ e) (sym still.0);
      gained = (
        n,
        calls,
        u.updates.gained.1,
        subst (λ g. TellsUpdate g n node file shape.pieces l calls)
            (sym (network_front u.pinned behind.0 new.seen behind.1)) u.updates.gained.2,
        omega (arith, still.1 (length p.seen), up.2),
        omega (arith, ap length behind.1, length-append u.pinned behind.0),
      );
      faults = u.updates.faults;
    }

-- an audit for which memory was wanting before the pass was pinned
pub audit_nothing : (node : List ℕ) (shape : Shape) (old new : PassKnown) → Looks old new
    → IsAudit node shape audits.Memory old new
audit_nothing node shape old new looks =
    record {
      pinned = new.seen;
      entries = [];
      parts = None;
      further = looks.further;
      kept = record { each = All-nil (IsTrueIn (network_of new.seen)) };
      at = tt;
      tells = tt;
      hands = tt;
      publishes = looks.same;
    }

-- an audit of the network of what the pass was pinned with, without a call
pub serves_audit : {P : Type 0} (m : port.Ghosts P) (p new : PassKnown) (node : List ℕ)
    (shape : Shape) (a : AuditAnswer) (q : P)
    → GoesFurther p new.seen → IsAudit node shape a p new
    → Serves m p.turn.mark p.number (audit node shape.pieces shape.workers) (audit_line_of a)
    p.seen new.seen q q
serves_audit m p new node shape a q on u =
    let n = length u.pinned in
    let l = audit_line_of a in
    let still = quiet_audit (network_of u.pinned) n node l u.tells in
    let t = looked p new.seen on in
    let up = looked p u.pinned u.further in
    let behind = handed_further p new u.pinned shape u.parts u.publishes in
    record {
      further = t.0;
      own = t.1 ∙ ap (λ e. places (p.number ∷ []) p.seen ++ e) (sym still.0);
      gained = (
        n,
        [],
        (λ tells. sym (append-nil (m.calls q))),
        (
          subst (λ g. TellsAudit g n node l)
              (sym (network_front u.pinned behind.0 new.seen behind.1)) u.tells,
          refl,
        ),
        omega (arith, still.1 (length p.seen), up.2),
        omega (arith, ap length behind.1, length-append u.pinned behind.0),
      );
      faults = subst (λ k. RoseBy k (m.faults q) (m.faults q)) (sym still.2)
          (rose_none (m.faults q));
    }

-- ---- commands of an actor among steps

pub commands-append : (actor : ℕ) (xs ys : List Step) → commands_of actor (xs ++ ys) ≡ commands_of actor xs ++ commands_of actor ys
commands-append actor [] ys = refl
commands-append actor (s ∷ xs) ys = by (s.actor == actor) (commands-append actor xs ys)
  where
    by : (b : Bool) → commands_of actor (xs ++ ys) ≡ commands_of actor xs ++ commands_of actor ys
        → cond b (seen s.order ∷ commands_of actor (xs ++ ys)) (commands_of actor (xs ++ ys)) ≡ cond b (seen s.order ∷ commands_of actor xs) (commands_of actor xs) ++ commands_of actor ys
    by true r = ap (λ l. seen s.order ∷ l) r
    by false r = r

pub commands_mine : (actor : ℕ) (s : Step) → s.actor ≡ actor → commands_of actor (s ∷ []) ≡ seen s.order ∷ []
commands_mine actor s e = ap (λ b. cond b (seen s.order ∷ []) []) (eq-eqb s.actor actor e)

pub commands_others : (actor : ℕ) (s : Step) → (s.actor ≡ actor → ⊥) → commands_of actor (s ∷ []) ≡ []
commands_others actor s e = ap (λ b. cond b (seen s.order ∷ []) []) (ne_eqb s.actor actor e)

-- commands up to a step and those behind it
pub commands_next : (actor : ℕ) (steps : List Step) (i : ℕ) (s : Step) → take (i + 1) steps ≡ take i steps ++ s ∷ [] → commands_of actor (take (i + 1) steps) ≡ commands_of actor (take i steps) ++ commands_of actor (s ∷ [])
commands_next actor steps i s e = ap (commands_of actor) e ∙ commands-append actor (take i steps) (s ∷ [])

-- of some steps there are no more commands than of all
pub commands_within : (actor : ℕ) (steps : List Step) (i : ℕ) → length (commands_of actor (take i steps)) ≤ length (commands_of actor steps)
commands_within actor steps i =
    omega (arith, ap length (ap (commands_of actor) (sym (take-append-drop i steps)) ∙ commands-append actor (take i steps) (drop i steps)), length-append (commands_of actor (take i steps)) (commands_of actor (drop i steps)))

-- a line for each command
told_length : (limit : ℕ) (h : List Entry) (ps : List ℕ) (low : ℕ) (os : List Asked) (ls : List Line) (calls : List Call) (last : ℕ) → AreTold limit h ps low os ls calls last → length ls ≡ length os
told_length limit h ps low [] [] calls last t = refl
told_length limit h ps low [] (l ∷ ls) calls last t = absurd t
told_length limit h ps low (o ∷ os) [] calls last t = absurd t
told_length limit h ps low (o ∷ os) (l ∷ ls) calls last t = ap suc (told_length limit h ps t.0 os ls t.2 last t.7)

module _ {P : Type 0} (m : port.Ghosts P) (limit pass : ℕ) where
  pub served_length : (os : List Asked) (ls : List Line) (old new : List Entry) (p q : P) → ServesAll m limit pass os ls old new p q → length ls ≡ length os
  served_length os ls old new p q s = told_length limit new (pass ∷ []) (length old) os ls s.gained.0 s.gained.1 s.gained.3

  -- nothing was served
  pub adds_none : (os : List Asked) (ls : List Line) (h : List Entry) (p : P) → os ≡ [] → AddsLines m limit pass os ls ls h h p p
  adds_none os ls h p e = record { lines = []; added = sym (append-nil ls); served = subst (λ o. ServesAll m limit pass o [] h h p p) (sym e) (served_none m limit pass h p) }

  -- one command was
  pub adds_one : (os : List Asked) (o : Asked) (l : Line) (ls ms : List Line) (old new : List Entry) (p q : P) → os ≡ o ∷ [] → ms ≡ ls ++ l ∷ [] → Serves m limit pass o l old new p q
      → AddsLines m limit pass os ls ms old new p q
  adds_one os o l ls ms old new p q e added s =
      record { lines = l ∷ []; added = added; served = subst (λ os. ServesAll m limit pass os (l ∷ []) old new p q) (sym e) (served_one m limit pass o l old new p q s) }

  -- commands behind others
  pub adds_more : (all os more : List Asked) (ls ms ns : List Line) (old mid new : List Entry) (p q r : P) → all ≡ os ++ more
      → AddsLines m limit pass os ls ms old mid p q → AddsLines m limit pass more ms ns mid new q r → AddsLines m limit pass all ls ns old new p r
  adds_more all os more ls ms ns old mid new p q r is s t =
      record {
        lines = s.lines ++ t.lines;
        added = t.added ∙ ap (λ l. l ++ t.lines) s.added ∙ append_assoc ls s.lines t.lines;
        served = subst (λ o. ServesAll m limit pass o (s.lines ++ t.lines) old new p r) (sym is) (served_append m limit pass os more s.lines t.lines old mid new p q r s.served t.served);
      }

  pub adds_length : (os : List Asked) (ls ms : List Line) (old new : List Entry) (p q : P) → AddsLines m limit pass os ls ms old new p q → length ms ≡ length ls + length os
  adds_length os ls ms old new p q s = ap length s.added ∙ length-append ls s.lines ∙ ap (λ n. length ls + n) (served_length os s.lines old new p q s.served)
