-- The promises of a run of a journal's prefix, from its account.
use Rattle.std.proofs.Common.{◌≡◌, ◌≢◌, ℕ, List, [], ◌∷◌, Option, None, Some, Result, Ok, Err, refl, sym, ap, ap₂, subst, ◌∙◌, inl, inr}
use Rattle.std.specs.Prelude.{◌⊎◌}
use Rattle.std.proofs.lemmas.List.{append_cancel_left}
use Rattle.viz_base.specs.Faults.{Rose}
use Rattle.viz_base.specs.declared.port.Port as port
use Rattle.viz_base.specs.declared.out.Out as out
use Rattle.viz_base.specs.declared.call.Call.TheVariants.{Read}
use Rattle.viz_base.specs.declared.call.ReadAnswer.{ReadAnswer}
use Rattle.viz_base.specs.declared.call.ReadAnswer.TheVariants as read
use Rattle.viz_base.specs.declared.refusal.WriteRefusal.TheVariants as writing
use Rattle.viz_journal.specs.declared.entry.JournalEntry.{JournalEntry}
use Rattle.viz_journal.specs.Reading.{journal_read}
use Rattle.viz_words.specs.declared.refusal.ScriptRefusal.{ScriptRefusal}
use Rattle.viz_report.specs.declared.line.Line.{Line}
use Rattle.viz_report.specs.declared.line.Line.TheVariants as line
use Rattle.viz_report.specs.declared.line.Reason.{Reason}
use Rattle.viz_account.proofs.AccountLemmas.{rose_by}
use Rattle.viz_told.specs.declared.status.Status.{Status}
use Rattle.viz_told.specs.declared.status.Status.TheVariants as status
use Rattle.viz_told.specs.Calls.{IsCalled}
use Rattle.viz_told.specs.Ports.{FirstRose, OthersStay}
use Rattle.viz_told.specs.Puts.{GainsLine, PutsOrBreaks, EndsInScript}
use Rattle.viz_told.specs.Told.{status_at_fault, status_at_memory, status_after, IsPut, IsTold}
use Rattle.viz_told.proofs.ToldLemmas.{Answer, is_no_done, is_no_usage, is_no_script, is_no_refused, is_no_fault, usage_is_no_script, usage_is_no_fault, gains, ends_in_memory, ends_in_script, told_at, puts_at}
use Rattle.viz_replay.specs.declared.came.Came.{Came}
use Rattle.viz_replay.specs.declared.came.Came.TheVariants as came
use Rattle.viz_replay.specs.Replay.{Replay, asked, IsRefusal, IsUpdated, IsEndOfReplay, IsReplayRun}
use Rattle.viz_replay.specs.Told.{line_of, update_status, status_of, telling_of}
use Rattle.viz_replay.specs.Promises.{IsUpdatedFrom, IsDone, IsRefused, IsScript, TellsRefusals, IsFault}

-- ---- what was found, and what the put answered, by the status

abbrev pub ToldBy : Came → Answer → Status → Type 0
ToldBy c a status.Done = (at : ℕ) × (cells : ℕ) × (points : ℕ) × (ran : ℕ) × (c ≡ came.Updated (line.File at cells points ran)) × (a ≡ Ok tt)
ToldBy c a status.Refused = (reason : Reason) × (at : ℕ) × (c ≡ came.Updated (line.Refused reason at)) × (a ≡ Ok tt)
ToldBy c a status.Script = (c ≡ came.NoPort) ⊎ ((n : ℕ) × (r : ScriptRefusal) × (c ≡ came.Refused n r))
ToldBy c a status.Fault =
    (c ≡ came.Unread) ⊎ ((l : Line) × (c ≡ came.Updated l) × (update_status l ≢ status.Memory) × ((l ≡ line.WriteFault) ⊎ (a ≡ Err writing.Failed)))
ToldBy c a status.Usage = ⊥
ToldBy c a status.Memory = Unit {0}

told_line : (l : Line) (a : Answer) → a ≡ Ok tt → ToldBy (came.Updated l) a (update_status l)
told_line (line.File at cells points ran) a ok = (at, cells, points, ran, refl, ok)
told_line (line.Refused reason at) a ok = (reason, at, refl, ok)
told_line line.WriteFault a ok = inr (line.WriteFault, refl, (λ e. let bad : status.Fault ≡ status.Memory = e in cc), inl refl)
told_line (line.Edit at) a ok = tt
told_line (line.Audit at sides two lone border) a ok = tt
told_line line.ReadFault a ok = tt
told_line line.Memory a ok = tt

failed_line : (l : Line) (a : Answer) → a ≡ Err writing.Failed → ToldBy (came.Updated l) a (status_at_fault (update_status l))
failed_line (line.File at cells points ran) a failed =
    inr (line.File at cells points ran, refl, (λ e. let bad : status.Done ≡ status.Memory = e in cc), inr failed)
failed_line (line.Refused reason at) a failed =
    inr (line.Refused reason at, refl, (λ e. let bad : status.Refused ≡ status.Memory = e in cc), inr failed)
failed_line line.WriteFault a failed =
    inr (line.WriteFault, refl, (λ e. let bad : status.Fault ≡ status.Memory = e in cc), inr failed)
failed_line (line.Edit at) a failed = tt
failed_line (line.Audit at sides two lone border) a failed = tt
failed_line line.ReadFault a failed = tt
failed_line line.Memory a failed = tt

no_room : (l : Line) (a : Answer) → ToldBy (came.Updated l) a (status_at_memory (update_status l))
no_room (line.File at cells points ran) a = tt
no_room (line.Refused reason at) a = tt
no_room line.WriteFault a = tt
no_room (line.Edit at) a = tt
no_room (line.Audit at sides two lone border) a = tt
no_room line.ReadFault a = tt
no_room line.Memory a = tt

told_by : (c : Came) (a : Answer) → ToldBy c a (status_after (status_of c) a)
told_by came.NoPort (Ok done) = inl refl
told_by came.NoPort (Err writing.Failed) = inl refl
told_by came.NoPort (Err writing.Memory) = tt
told_by came.Unread (Ok done) = inl refl
told_by came.Unread (Err writing.Failed) = inl refl
told_by came.Unread (Err writing.Memory) = tt
told_by (came.Refused n r) (Ok done) = inr (n, r, refl)
told_by (came.Refused n r) (Err writing.Failed) = inr (n, r, refl)
told_by (came.Refused n r) (Err writing.Memory) = tt
told_by (came.Updated l) (Ok done) = told_line l (Ok tt) refl
told_by (came.Updated l) (Err writing.Failed) = failed_line l (Err writing.Failed) refl
told_by (came.Updated l) (Err writing.Memory) = no_room l (Err writing.Memory)
told_by came.Memory (Ok done) = tt
told_by came.Memory (Err writing.Failed) = tt
told_by came.Memory (Err writing.Memory) = tt

-- ---- what was done, by how the run ended

module _ {P : Type 0} (m : port.Ghosts P) (c : Replay) (old new : List P) where
  updated : (answer : Option ReadAnswer) (l : Line) → IsEndOfReplay m c answer (came.Updated l) old new
      → (bytes : List ℕ) × (answer ≡ Some (read.Given bytes)) × ((entries : List JournalEntry) × (journal_read bytes ≡ Ok entries) × IsUpdated m c entries l old new)
  updated None l h = absurd h
  updated (Some read.Failed) l h = absurd h
  updated (Some (read.TooLong taken)) l h = absurd h
  updated (Some (read.Given bytes)) l h = (bytes, refl, h)

  unread : (answer : Option ReadAnswer) → IsEndOfReplay m c answer came.Unread old new → (answer ≡ Some read.Failed) × (new ≡ old)
  unread None h = absurd h
  unread (Some read.Failed) h = (refl, h)
  unread (Some (read.TooLong taken)) h = absurd h
  unread (Some (read.Given bytes)) h = absurd h

  no_port : (answer : Option ReadAnswer) → IsEndOfReplay m c answer came.NoPort old new → (answer ≡ None) × ((old ≡ []) × (new ≡ []))
  no_port None h = (refl, h)
  no_port (Some read.Failed) h = absurd h
  no_port (Some (read.TooLong taken)) h = absurd h
  no_port (Some (read.Given bytes)) h = absurd h

  refused_journal : (answer : Option ReadAnswer) (n : ℕ) (r : ScriptRefusal) → IsEndOfReplay m c answer (came.Refused n r) old new
      → (a : ReadAnswer) × (answer ≡ Some a) × IsRefusal a n r × (new ≡ old)
  refused_journal None n r h = absurd h
  refused_journal (Some read.Failed) n r h = (read.Failed, refl, h.0, h.1)
  refused_journal (Some (read.TooLong taken)) n r h = (read.TooLong taken, refl, h.0, h.1)
  refused_journal (Some (read.Given bytes)) n r h = (read.Given bytes, refl, h.0, h.1)

-- ---- where a journal is refused

-- a read of this answer is the only call
asked_is_one : (journal : List ℕ) (found : Option ReadAnswer) (answer : ReadAnswer) → asked journal found ≡ Read journal answer ∷ [] → found ≡ Some answer
asked_is_one journal None answer e = absurd cc
asked_is_one journal (Some other) answer e = cc

-- a refusal is one
same_refusal : {X : Type 0} (a b : ℕ × ScriptRefusal) (x : Result X (ℕ × ScriptRefusal)) → x ≡ Err a → x ≡ Err b → a ≡ b
same_refusal {X} a b x e f = (let both : (let o : Result X (ℕ × ScriptRefusal) = Err a in o) ≡ Err b = sym e ∙ f in cc)

module _ {P : Type 0} (m : port.Ghosts P) (c : Replay) (old new : List P) where
  -- a run whose journal is refused so, or that ran out of memory
  abbrev EndsRefused : ℕ → ScriptRefusal → Came → Type 0
  EndsRefused line why found = (new ≡ old) × ((found ≡ came.Memory) ⊎ (found ≡ came.Refused line why))

  refused_or_memory : (answer : ReadAnswer) (line : ℕ) (why : ScriptRefusal) (found : Came) → IsRefusal answer line why → IsEndOfReplay m c (Some answer) found old new → EndsRefused line why found
  refused_or_memory read.Failed line why found is h = absurd is
  refused_or_memory (read.TooLong taken) line why (came.Refused l r) is h = (h.1, inr (ap₂ came.Refused (h.0.0 ∙ sym is.0) (h.0.1 ∙ sym is.1)))
  refused_or_memory (read.TooLong taken) line why came.NoPort is h = absurd h
  refused_or_memory (read.TooLong taken) line why came.Unread is h = absurd h
  refused_or_memory (read.TooLong taken) line why (came.Updated l) is h = absurd h
  refused_or_memory (read.TooLong taken) line why came.Memory is h = absurd h
  refused_or_memory (read.Given bytes) line why (came.Refused l r) is h =
      (h.1, inr (ap (λ (x : ℕ × ScriptRefusal). came.Refused x.0 x.1) (same_refusal (l, r) (line, why) (journal_read bytes) h.0 is)))
  refused_or_memory (read.Given bytes) line why came.Memory is h = (h, inl refl)
  refused_or_memory (read.Given bytes) line why (came.Updated l) is h = absurd (let bad : Ok h.0 ≡ Err (line, why) = sym h.1 ∙ is in cc)
  refused_or_memory (read.Given bytes) line why came.NoPort is h = absurd h
  refused_or_memory (read.Given bytes) line why came.Unread is h = absurd h

module _ {O : Type 0} (o : out.Ghosts O) (old new : O) (ended : Status) where
  -- the status of a run that ended so, or that ran out of memory
  script_ends : (c found : Came) → status_of c ≡ status.Script → (found ≡ came.Memory) ⊎ (found ≡ c) → IsTold o (telling_of found) ended old new → EndsInScript o (line_of c) old new ended
  script_ends c found is (inl memory) told = inr (ends_in_memory o old new ended (telling_of found) (ap status_of memory) told)
  script_ends c found is (inr same) told =
      ends_in_script o old new ended (telling_of c) is (subst (λ (x : Came). IsTold o (telling_of x) ended old new) same told)

-- ---- the promises

module _ {P O : Type 0} (m : port.Ghosts P) (o : out.Ghosts O) (c : Replay) (desk new_desk : P) (old new : List P) (before after : O) (ended : Status)
    (found : Came) (ran : IsReplayRun m c found desk new_desk old new) (told : IsTold o (telling_of found) ended before after) where
  asked_is : (answer : Option ReadAnswer) → ran.0 ≡ answer → IsCalled m (asked c.journal answer) desk new_desk
  asked_is answer is = subst (λ (a : Option ReadAnswer). IsCalled m (asked c.journal a) desk new_desk) is ran.2

  ends_in : (r : Came) → found ≡ r → IsEndOfReplay m c ran.0 r old new
  ends_in r is = subst (λ (x : Came). IsEndOfReplay m c ran.0 x old new) is ran.1

  updated_from : (l : Line) → found ≡ came.Updated l → IsUpdatedFrom m c l desk new_desk old new
  updated_from l is =
      let u = updated m c old new ran.0 l (ends_in (came.Updated l) is) in
      (u.0, u.2.0, u.2.1, u.2.2, asked_is (Some (read.Given u.0)) u.1)

  -- what was found and put, by a status that is known
  at : (known : Status) → ended ≡ known → (status.Memory ≡ known → ⊥) → (a : Answer) × ToldBy found a known × IsPut o (line_of found) a before after
  at known is apart = told_at o before after ended (telling_of found) (ToldBy found) (told_by found) known told is apart

  line_put : (r : Came) (known : Status) → found ≡ r → ended ≡ known → (status.Memory ≡ known → ⊥) → (status.Usage ≡ known → ⊥) → PutsOrBreaks o (line_of r) before after
  line_put r known same is apart other =
      subst (λ (x : Came). PutsOrBreaks o (line_of x) before after) same (puts_at o before after ended (telling_of found) known told is apart other)

  line_gained : (r : Came) (a : Answer) → found ≡ r → a ≡ Ok tt → IsPut o (line_of found) a before after → GainsLine o (line_of r) before after
  line_gained r a same ok put = gains o (line_of r) before after a ok (subst (λ (x : Came). IsPut o (line_of x) a before after) same put)

  pub done : ended ≡ status.Done → IsDone m o c desk new_desk old new before after
  done is =
      let w = at status.Done is is_no_done in
      let t = w.1 in
      let l : Line = line.File t.0 t.1 t.2 t.3 in
      (t.0, t.1, t.2, t.3, updated_from l t.4, line_gained (came.Updated l) w.0 t.4 t.5 w.2)

  pub refused : ended ≡ status.Refused → IsRefused m o c desk new_desk old new before after
  refused is =
      let w = at status.Refused is is_no_refused in
      let t = w.1 in
      let l : Line = line.Refused t.0 t.1 in
      (t.0, t.1, updated_from l t.2, line_gained (came.Updated l) w.0 t.2 t.3 w.2)

  pub script : ended ≡ status.Script → IsScript m o c desk new_desk old new before after
  script is = elim (at status.Script is is_no_script).1 [
    | inl e ↦
        let d = no_port m c old new ran.0 (ends_in came.NoPort e) in
        inl (d.1.0, d.1.1, asked_is None d.0, line_put came.NoPort status.Script e is is_no_script usage_is_no_script)
    | inr t ↦
        let d = refused_journal m c old new ran.0 t.0 t.1 (ends_in (came.Refused t.0 t.1) t.2) in
        inr (d.0, t.0, t.1, d.2, d.3, asked_is (Some d.0) d.1, line_put (came.Refused t.0 t.1) status.Script t.2 is is_no_script usage_is_no_script)
  ]

  pub tells_refusals : (old ≡ [] → found ≡ came.NoPort) → TellsRefusals m o c desk new_desk old new before after ended
  tells_refusals none = record {
    no_port = λ e. script_ends o before after ended came.NoPort found refl (inr (none e)) told;
    journal = λ answer line why is tells one.
        let same = append_cancel_left (m.calls desk) (asked c.journal ran.0) (Read c.journal answer ∷ []) (sym (ran.2.calls tells) ∙ one) in
        let read_is = asked_is_one c.journal ran.0 answer same in
        let f = refused_or_memory m c old new answer line why found is (subst (λ (a : Option ReadAnswer). IsEndOfReplay m c a found old new) read_is ran.1) in
        (f.0, script_ends o before after ended (came.Refused line why) found refl f.1 told);
  }

  failure : (l : Line) (a : Answer) → IsPut o (line_of found) a before after → (l ≡ line.WriteFault) ⊎ (a ≡ Err writing.Failed)
      → (l ≡ line.WriteFault) ⊎ Rose (o.faults before) (o.faults after)
  failure l a put (inl is) = inl is
  failure l a put (inr failed) = inr (put.cause failed)

  pub fault : ended ≡ status.Fault → IsFault m o c desk new_desk old new before after
  fault is =
      let w = at status.Fault is is_no_fault in
      elim w.1 [
        | inl e ↦
            let d = unread m c old new ran.0 (ends_in came.Unread e) in
            inl (asked_is (Some read.Failed) d.0, d.1, line_put came.Unread status.Fault e is is_no_fault usage_is_no_fault)
        | inr t ↦ inr (
          t.0,
          updated_from t.0 t.1,
          t.2,
          failure t.0 w.0 w.2 t.3,
          line_put (came.Updated t.0) status.Fault t.1 is is_no_fault usage_is_no_fault,
        )
      ]

  first_rose : (entries : List JournalEntry) (before_ports after_ports : List P) → IsUpdated m c entries line.WriteFault before_ports after_ports → FirstRose m before_ports after_ports
  first_rose entries [] after_ports u = absurd u
  first_rose entries (p ∷ ps) [] u = absurd u
  first_rose entries (p ∷ ps) (q ∷ qs) u = (rose_by 0 (m.faults p) (m.faults q) u.0.faults, u.1)

  pub cause : ended ≡ status.Fault → Rose (m.faults desk) (m.faults new_desk) ⊎ (FirstRose m old new ⊎ Rose (o.faults before) (o.faults after))
  cause is = elim (fault is) [
    | inl read ↦ inl (read.0.cause tt)
    | inr t ↦ elim t.3 [
      | inl failed ↦
          let u = subst (λ (l : Line). IsUpdatedFrom m c l desk new_desk old new) failed t.1 in
          inr (inl (first_rose u.1 old new u.3))
      | inr put ↦ inr (inr put)
    ]
  ]

  first_only : (entries : List JournalEntry) (l : Line) (before_ports after_ports : List P) → IsUpdated m c entries l before_ports after_ports → OthersStay before_ports after_ports
  first_only entries l [] after_ports u = absurd u
  first_only entries l (p ∷ ps) [] u = absurd u
  first_only entries l (p ∷ ps) (q ∷ qs) u = u.1

  same_ports : (before_ports after_ports : List P) → after_ports ≡ before_ports → OthersStay before_ports after_ports
  same_ports before_ports after_ports is = subst (OthersStay before_ports) (sym is) (stay before_ports)
    where
      stay : (ports : List P) → OthersStay ports ports
      stay [] = refl
      stay (p ∷ ps) = refl

  others_in : (answer : Option ReadAnswer) (r : Came) → IsEndOfReplay m c answer r old new → OthersStay old new
  others_in None came.NoPort h = same_ports old new (h.1 ∙ sym h.0)
  others_in None came.Memory h = same_ports old new h
  others_in None came.Unread h = absurd h
  others_in None (came.Refused n r) h = absurd h
  others_in None (came.Updated l) h = absurd h
  others_in (Some read.Failed) came.Unread h = same_ports old new h
  others_in (Some read.Failed) (came.Refused n r) h = same_ports old new h.1
  others_in (Some read.Failed) came.NoPort h = absurd h
  others_in (Some read.Failed) came.Memory h = absurd h
  others_in (Some read.Failed) (came.Updated l) h = absurd h
  others_in (Some (read.TooLong taken)) (came.Refused n r) h = same_ports old new h.1
  others_in (Some (read.TooLong taken)) came.NoPort h = absurd h
  others_in (Some (read.TooLong taken)) came.Unread h = absurd h
  others_in (Some (read.TooLong taken)) came.Memory h = absurd h
  others_in (Some (read.TooLong taken)) (came.Updated l) h = absurd h
  others_in (Some (read.Given bytes)) (came.Refused n r) h = same_ports old new h.1
  others_in (Some (read.Given bytes)) came.Memory h = same_ports old new h
  others_in (Some (read.Given bytes)) (came.Updated l) h = first_only h.0 l old new h.2
  others_in (Some (read.Given bytes)) came.NoPort h = absurd h
  others_in (Some (read.Given bytes)) came.Unread h = absurd h

  pub others : OthersStay old new
  others = others_in ran.0 found ran.1

  pub no_usage : ended ≢ status.Usage
  no_usage is = (at status.Usage is is_no_usage).1
