-- The promises of a run that writes a journal anew, from its account.
use Rattle.std.proofs.Common.{◌≡◌, ◌≢◌, ℕ, List, [], ◌∷◌, length, ◌++◌, Option, None, Some, Result, Ok, Err, refl, sym, ap, ap₂, subst, ◌∙◌, inl, inr}
use Rattle.std.specs.Prelude.{◌⊎◌, IsTrue}
use Rattle.std.proofs.lemmas.List.{append_cancel_left, append-nil}
use Rattle.viz_base.specs.Faults.{Rose}
use Rattle.viz_base.specs.declared.port.Port as port
use Rattle.viz_base.specs.declared.out.Out as out
use Rattle.viz_base.specs.declared.call.Call.TheVariants.{Read}
use Rattle.viz_base.specs.declared.call.ReadAnswer.{ReadAnswer}
use Rattle.viz_base.specs.declared.call.ReadAnswer.TheVariants as read
use Rattle.viz_base.specs.declared.call.WriteAnswer.{WriteAnswer}
use Rattle.viz_base.specs.declared.call.WriteAnswer.TheVariants as write
use Rattle.viz_base.specs.declared.refusal.WriteRefusal.TheVariants as writing
use Rattle.viz_journal.specs.declared.entry.JournalEntry.{JournalEntry}
use Rattle.viz_journal.specs.Journal.{journal}
use Rattle.viz_journal.specs.Reading.{journal_read}
use Rattle.viz_replay.specs.Replay.{asked, IsRefusal}
use Rattle.viz_words.specs.declared.refusal.ScriptRefusal.{ScriptRefusal}
use Rattle.viz_told.specs.declared.status.Status.{Status}
use Rattle.viz_told.specs.declared.status.Status.TheVariants as status
use Rattle.viz_told.specs.Calls.{IsCalled}
use Rattle.viz_told.specs.Ports.{FirstOnly, FirstRose, OthersStay}
use Rattle.viz_told.specs.Puts.{GainsLine, PutsOrBreaks, EndsInScript}
use Rattle.viz_told.specs.Told.{status_after, IsPut, IsTold}
use Rattle.viz_told.proofs.ToldLemmas.{Answer, is_no_done, is_no_usage, is_no_script, is_no_refused, is_no_fault, usage_is_no_script, usage_is_no_fault, gains, ends_in_memory, ends_in_script, told_at, puts_at}
use Rattle.viz_migrate.specs.declared.came.Came.{Came}
use Rattle.viz_migrate.specs.declared.came.Came.TheVariants as came
use Rattle.viz_migrate.specs.Migrate.{Migrate, WritesJournal, IsEndAtPort, IsMigrateRun}
use Rattle.viz_migrate.specs.Told.{migrated_line, line_of, status_of, telling_of}
use Rattle.viz_migrate.specs.Promises.{IsMigrated, IsDone, IsScript, TellsRefusals, IsFault}

-- ---- what was found, and what the put answered, by the status

abbrev pub ToldBy : Came → Answer → Status → Type 0
ToldBy c a status.Done = (count : ℕ) × (c ≡ came.Migrated count) × (a ≡ Ok tt)
ToldBy c a status.Refused = ⊥
ToldBy c a status.Script = (c ≡ came.NoPort) ⊎ ((n : ℕ) × (r : ScriptRefusal) × (c ≡ came.Refused n r))
ToldBy c a status.Fault = (c ≡ came.Unread) ⊎ ((c ≡ came.Unwritten) ⊎ ((count : ℕ) × (c ≡ came.Migrated count) × (a ≡ Err writing.Failed)))
ToldBy c a status.Usage = ⊥
ToldBy c a status.Memory = Unit {0}

told_by : (c : Came) (a : Answer) → ToldBy c a (status_after (status_of c) a)
told_by came.NoPort (Ok done) = inl refl
told_by came.NoPort (Err writing.Failed) = inl refl
told_by came.NoPort (Err writing.Memory) = tt
told_by came.Unread (Ok done) = inl refl
told_by came.Unread (Err writing.Failed) = inl refl
told_by came.Unread (Err writing.Memory) = tt
told_by (came.Refused n r) (Ok done) = inr (n, r, refl)
told_by (came.Refused n r) (Err writing.Failed) = inr (n, r, refl)
told_by (came.Refused n r) (Err writing.Memory) = tt
told_by (came.Migrated count) (Ok done) = (count, refl, refl)
told_by (came.Migrated count) (Err writing.Failed) = inr (inr (count, refl, refl))
told_by (came.Migrated count) (Err writing.Memory) = tt
told_by came.Unwritten (Ok done) = inr (inl refl)
told_by came.Unwritten (Err writing.Failed) = inr (inl refl)
told_by came.Unwritten (Err writing.Memory) = tt
told_by came.Memory (Ok done) = tt
told_by came.Memory (Err writing.Failed) = tt
told_by came.Memory (Err writing.Memory) = tt

-- ---- where a journal is refused

-- a read of this answer is the only call
asked_is_one : (name : List ℕ) (found : Option ReadAnswer) (answer : ReadAnswer) → asked name found ≡ Read name answer ∷ [] → found ≡ Some answer
asked_is_one name None answer e = absurd cc
asked_is_one name (Some other) answer e = cc

-- a refusal is one
same_refusal : {X : Type 0} (a b : ℕ × ScriptRefusal) (x : Result X (ℕ × ScriptRefusal)) → x ≡ Err a → x ≡ Err b → a ≡ b
same_refusal {X} a b x e f = (let both : (let o : Result X (ℕ × ScriptRefusal) = Err a in o) ≡ Err b = sym e ∙ f in cc)

-- a journal that is read isn't refused
no_entries : {X S : Type 0} (x : Result X S) (entries : X) (stop : S) → x ≡ Ok entries → x ≡ Err stop → ⊥
no_entries x entries stop reads refuses = let bad : Ok entries ≡ Err stop = sym reads ∙ refuses in cc

-- ---- what was done by a port

module _ {P : Type 0} (m : port.Ghosts P) (c : Migrate) (old new : P) where
  -- a journal of these entries was read, and written by the port, which answered so
  abbrev pub ReadAndWritten : Option ReadAnswer → List JournalEntry → WriteAnswer → Type 0
  ReadAndWritten answer entries written = (bytes : List ℕ) × (answer ≡ Some (read.Given bytes)) × (journal_read bytes ≡ Ok entries) × WritesJournal m c entries written old new

  migrated_at : (answer : Option ReadAnswer) (count : ℕ) → IsEndAtPort m c answer (came.Migrated count) old new
      → (entries : List JournalEntry) × (count ≡ length entries) × ReadAndWritten answer entries write.Written
  migrated_at None count h = absurd h
  migrated_at (Some read.Failed) count h = absurd h
  migrated_at (Some (read.TooLong taken)) count h = absurd h
  migrated_at (Some (read.Given bytes)) count h = (h.0, h.2, (bytes, refl, h.1, h.3))

  unwritten_at : (answer : Option ReadAnswer) → IsEndAtPort m c answer came.Unwritten old new → (entries : List JournalEntry) × ReadAndWritten answer entries write.Failed
  unwritten_at None h = absurd h
  unwritten_at (Some read.Failed) h = absurd h
  unwritten_at (Some (read.TooLong taken)) h = absurd h
  unwritten_at (Some (read.Given bytes)) h = (h.0, (bytes, refl, h.1, h.2))

  unread_at : (answer : Option ReadAnswer) → IsEndAtPort m c answer came.Unread old new → (answer ≡ Some read.Failed) × (new ≡ old)
  unread_at None h = absurd h
  unread_at (Some read.Failed) h = (refl, h)
  unread_at (Some (read.TooLong taken)) h = absurd h
  unread_at (Some (read.Given bytes)) h = absurd h

  refused_at : (answer : Option ReadAnswer) (n : ℕ) (r : ScriptRefusal) → IsEndAtPort m c answer (came.Refused n r) old new
      → (a : ReadAnswer) × (answer ≡ Some a) × IsRefusal a n r × (new ≡ old)
  refused_at None n r h = absurd h
  refused_at (Some read.Failed) n r h = absurd h.0
  refused_at (Some (read.TooLong taken)) n r h = (read.TooLong taken, refl, h.0, h.1)
  refused_at (Some (read.Given bytes)) n r h = (read.Given bytes, refl, h.0, h.1)

  no_port_at : (answer : Option ReadAnswer) → IsEndAtPort m c answer came.NoPort old new → ⊥
  no_port_at None h = h
  no_port_at (Some read.Failed) h = h
  no_port_at (Some (read.TooLong taken)) h = h
  no_port_at (Some (read.Given bytes)) h = h

  -- the port is as before, and the journal is told to be refused so, unless memory ran out
  abbrev pub EndsRefused : ℕ → ScriptRefusal → Came → Type 0
  EndsRefused line why found = (new ≡ old) × ((found ≡ came.Memory) ⊎ (found ≡ came.Refused line why))

  refused_or_memory : (answer : ReadAnswer) (line : ℕ) (why : ScriptRefusal) (found : Came) → IsRefusal answer line why → IsEndAtPort m c (Some answer) found old new → EndsRefused line why found
  refused_or_memory read.Failed line why found is h = absurd is
  refused_or_memory (read.TooLong taken) line why (came.Refused l r) is h = (h.1, inr (ap₂ came.Refused (h.0.0 ∙ sym is.0) (h.0.1 ∙ sym is.1)))
  refused_or_memory (read.TooLong taken) line why came.NoPort is h = absurd h
  refused_or_memory (read.TooLong taken) line why came.Unread is h = absurd h
  refused_or_memory (read.TooLong taken) line why (came.Migrated count) is h = absurd h
  refused_or_memory (read.TooLong taken) line why came.Unwritten is h = absurd h
  refused_or_memory (read.TooLong taken) line why came.Memory is h = absurd h
  refused_or_memory (read.Given bytes) line why (came.Refused l r) is h =
      (h.1, inr (ap (λ (x : ℕ × ScriptRefusal). came.Refused x.0 x.1) (same_refusal (l, r) (line, why) (journal_read bytes) h.0 is)))
  refused_or_memory (read.Given bytes) line why came.Memory is (inl same) = (same, inl refl)
  refused_or_memory (read.Given bytes) line why came.Memory is (inr h) = absurd (no_entries (journal_read bytes) h.0 (line, why) h.1 is)
  refused_or_memory (read.Given bytes) line why (came.Migrated count) is h = absurd (no_entries (journal_read bytes) h.0 (line, why) h.1 is)
  refused_or_memory (read.Given bytes) line why came.Unwritten is h = absurd (no_entries (journal_read bytes) h.0 (line, why) h.1 is)
  refused_or_memory (read.Given bytes) line why came.NoPort is h = absurd h
  refused_or_memory (read.Given bytes) line why came.Unread is h = absurd h

-- ---- what was done by the first of all ports

same_list : {P : Type 0} (p q : P) (ps qs : List P) → q ≡ p → qs ≡ ps → q ∷ qs ≡ p ∷ ps
same_list p q ps qs first others = ap₂ (λ x xs. x ∷ xs) first others

module _ {P : Type 0} (m : port.Ghosts P) (c : Migrate) (desk new_desk : P) where
  asked_as : (answer known : Option ReadAnswer) → answer ≡ known → IsCalled m (asked c.journal answer) desk new_desk → IsCalled m (asked c.journal known) desk new_desk
  asked_as answer known is h = subst (λ (a : Option ReadAnswer). IsCalled m (asked c.journal a) desk new_desk) is h

  migrated : (old new : List P) (count : ℕ) → IsMigrateRun m c (came.Migrated count) desk new_desk old new
      → (entries : List JournalEntry) × (count ≡ length entries) × IsMigrated m c entries write.Written desk new_desk old new
  migrated [] new count h = absurd (let bad : came.Migrated count ≡ came.NoPort = h.0 in cc)
  migrated (p ∷ ps) [] count h = absurd h
  migrated (p ∷ ps) (q ∷ qs) count h =
      let w = migrated_at m c p q h.0.0 count h.0.1 in
      (w.0, w.1, (w.2.0, w.2.2, asked_as h.0.0 (Some (read.Given w.2.0)) w.2.1 h.0.2, (w.2.3, h.1)))

  unwritten : (old new : List P) → IsMigrateRun m c came.Unwritten desk new_desk old new → (entries : List JournalEntry) × IsMigrated m c entries write.Failed desk new_desk old new
  unwritten [] new h = absurd (let bad : (let x : Came = came.Unwritten in x) ≡ came.NoPort = h.0 in cc)
  unwritten (p ∷ ps) [] h = absurd h
  unwritten (p ∷ ps) (q ∷ qs) h =
      let w = unwritten_at m c p q h.0.0 h.0.1 in
      (w.0, (w.1.0, w.1.2, asked_as h.0.0 (Some (read.Given w.1.0)) w.1.1 h.0.2, (w.1.3, h.1)))

  unread : (old new : List P) → IsMigrateRun m c came.Unread desk new_desk old new → IsCalled m (asked c.journal (Some read.Failed)) desk new_desk × (new ≡ old)
  unread [] new h = absurd (let bad : (let x : Came = came.Unread in x) ≡ came.NoPort = h.0 in cc)
  unread (p ∷ ps) [] h = absurd h
  unread (p ∷ ps) (q ∷ qs) h =
      let w = unread_at m c p q h.0.0 h.0.1 in
      (asked_as h.0.0 (Some read.Failed) w.0 h.0.2, same_list p q ps qs w.1 h.1)

  refused_journal : (old new : List P) (n : ℕ) (r : ScriptRefusal) → IsMigrateRun m c (came.Refused n r) desk new_desk old new
      → (a : ReadAnswer) × IsRefusal a n r × (new ≡ old) × IsCalled m (asked c.journal (Some a)) desk new_desk
  refused_journal [] new n r h = absurd (let bad : came.Refused n r ≡ came.NoPort = h.0 in cc)
  refused_journal (p ∷ ps) [] n r h = absurd h
  refused_journal (p ∷ ps) (q ∷ qs) n r h =
      let w = refused_at m c p q h.0.0 n r h.0.1 in
      (w.0, w.2, same_list p q ps qs w.3 h.1, asked_as h.0.0 (Some w.0) w.1 h.0.2)

  no_port : (old new : List P) → IsMigrateRun m c came.NoPort desk new_desk old new → (old ≡ []) × (new ≡ []) × (new_desk ≡ desk)
  no_port [] new h = (refl, h.1, h.2)
  no_port (p ∷ ps) [] h = absurd h
  no_port (p ∷ ps) (q ∷ qs) h = absurd (no_port_at m c p q h.0.0 h.0.1)

  pub without_port : (old new : List P) (found : Came) → old ≡ [] → IsMigrateRun m c found desk new_desk old new → found ≡ came.NoPort
  without_port [] new found e h = h.0
  without_port (p ∷ ps) new found e h = absurd (let bad : p ∷ ps ≡ [] = e in cc)

  pub others : (old new : List P) (found : Came) → IsMigrateRun m c found desk new_desk old new → OthersStay old new
  others [] new found h = h.1
  others (p ∷ ps) [] found h = h
  others (p ∷ ps) (q ∷ qs) found h = h.1

  -- where the desk was asked for the journal alone, which is refused so
  told_refused : (old new : List P) (answer : ReadAnswer) (line : ℕ) (why : ScriptRefusal) (found : Came) → IsRefusal answer line why → IsTrue m.tells_calls
      → m.calls new_desk ≡ m.calls desk ++ Read c.journal answer ∷ [] → IsMigrateRun m c found desk new_desk old new
      → (new ≡ old) × ((found ≡ came.Memory) ⊎ (found ≡ came.Refused line why))
  told_refused [] new answer line why found is tells one h =
      let none : m.calls desk ++ [] ≡ m.calls desk ++ Read c.journal answer ∷ [] = append-nil (m.calls desk) ∙ sym (ap (λ (d : P). m.calls d) h.2) ∙ one in
      absurd (let bad : [] ≡ Read c.journal answer ∷ [] = append_cancel_left (m.calls desk) [] (Read c.journal answer ∷ []) none in cc)
  told_refused (p ∷ ps) [] answer line why found is tells one h = absurd h
  told_refused (p ∷ ps) (q ∷ qs) answer line why found is tells one h =
      let same = append_cancel_left (m.calls desk) (asked c.journal h.0.0) (Read c.journal answer ∷ []) (sym (h.0.2.calls tells) ∙ one) in
      let read_is = asked_is_one c.journal h.0.0 answer same in
      let f = refused_or_memory m c p q answer line why found is (subst (λ (a : Option ReadAnswer). IsEndAtPort m c a found p q) read_is h.0.1) in
      (same_list p q ps qs f.0 h.1, f.1)

first_rose : {P : Type 0} (m : port.Ghosts P) (c : Migrate) (entries : List JournalEntry) (old new : List P) → FirstOnly (WritesJournal m c entries write.Failed) old new → FirstRose m old new
first_rose m c entries [] new h = h
first_rose m c entries (p ∷ ps) [] h = h
first_rose m c entries (p ∷ ps) (q ∷ qs) h = (h.0.cause tt, h.1)

-- ---- the promises

module _ {O : Type 0} (o : out.Ghosts O) (old new : O) (ended : Status) where
  -- the status of a run that ended so, or that ran out of memory
  script_ends : (c found : Came) → status_of c ≡ status.Script → (found ≡ came.Memory) ⊎ (found ≡ c) → IsTold o (telling_of found) ended old new → EndsInScript o (line_of c) old new ended
  script_ends c found is (inl memory) told = inr (ends_in_memory o old new ended (telling_of found) (ap status_of memory) told)
  script_ends c found is (inr same) told =
      ends_in_script o old new ended (telling_of c) is (subst (λ (x : Came). IsTold o (telling_of x) ended old new) same told)

module _ {P O : Type 0} (m : port.Ghosts P) (o : out.Ghosts O) (c : Migrate) (desk new_desk : P) (old new : List P) (before after : O) (ended : Status)
    (found : Came) (ran : IsMigrateRun m c found desk new_desk old new) (told : IsTold o (telling_of found) ended before after) where
  ran_as : (r : Came) → found ≡ r → IsMigrateRun m c r desk new_desk old new
  ran_as r is = subst (λ (x : Came). IsMigrateRun m c x desk new_desk old new) is ran

  -- what was found and put, by a status that is known
  at : (known : Status) → ended ≡ known → (status.Memory ≡ known → ⊥) → (a : Answer) × ToldBy found a known × IsPut o (line_of found) a before after
  at known is apart = told_at o before after ended (telling_of found) (ToldBy found) (told_by found) known told is apart

  line_put : (r : Came) (known : Status) → found ≡ r → ended ≡ known → (status.Memory ≡ known → ⊥) → (status.Usage ≡ known → ⊥) → PutsOrBreaks o (line_of r) before after
  line_put r known same is apart other =
      subst (λ (x : Came). PutsOrBreaks o (line_of x) before after) same (puts_at o before after ended (telling_of found) known told is apart other)

  line_gained : (r : Came) (a : Answer) → found ≡ r → a ≡ Ok tt → IsPut o (line_of found) a before after → GainsLine o (line_of r) before after
  line_gained r a same ok put = gains o (line_of r) before after a ok (subst (λ (x : Came). IsPut o (line_of x) a before after) same put)

  pub done : ((bytes : List ℕ) (entries : List JournalEntry) → journal_read bytes ≡ Ok entries → journal_read (journal entries) ≡ Ok entries) → ended ≡ status.Done
      → IsDone m o c desk new_desk old new before after
  done again is =
      let t = at status.Done is is_no_done in
      let w = migrated m c desk new_desk old new t.1.0 (ran_as (came.Migrated t.1.0) t.1.1) in (
        w.0,
        w.2,
        again w.2.0 w.0 w.2.1,
        subst (λ (count : ℕ). GainsLine o (migrated_line count) before after) w.1 (line_gained (came.Migrated t.1.0) t.0 t.1.1 t.1.2 t.2),
      )

  pub script : ended ≡ status.Script → IsScript m o c desk new_desk old new before after
  script is = elim (at status.Script is is_no_script).1 [
    | inl e ↦
        let w = no_port m c desk new_desk old new (ran_as came.NoPort e) in
        inl (w.0, w.1, w.2, line_put came.NoPort status.Script e is is_no_script usage_is_no_script)
    | inr t ↦
        let w = refused_journal m c desk new_desk old new t.0 t.1 (ran_as (came.Refused t.0 t.1) t.2) in
        inr (w.0, t.0, t.1, w.1, w.2, w.3, line_put (came.Refused t.0 t.1) status.Script t.2 is is_no_script usage_is_no_script)
  ]

  pub tells_refusals : TellsRefusals m o c desk new_desk old new before after ended
  tells_refusals = record {
    no_port = λ e. script_ends o before after ended came.NoPort found refl (inr (without_port m c desk new_desk old new found e ran)) told;
    journal = λ answer line why is tells one.
        let f = told_refused m c desk new_desk old new answer line why found is tells one ran in
        (f.0, script_ends o before after ended (came.Refused line why) found refl f.1 told);
  }

  pub fault : ended ≡ status.Fault → IsFault m o c desk new_desk old new before after
  fault is =
      let t = at status.Fault is is_no_fault in
      elim t.1 [
        | inl e ↦
            let w = unread m c desk new_desk old new (ran_as came.Unread e) in
            inl (w.0, w.1, line_put came.Unread status.Fault e is is_no_fault usage_is_no_fault)
        | inr later ↦ elim later [
          | inl e ↦
              let w = unwritten m c desk new_desk old new (ran_as came.Unwritten e) in
              inr (inl (w.0, w.1, line_put came.Unwritten status.Fault e is is_no_fault usage_is_no_fault))
          | inr f ↦
              let w = migrated m c desk new_desk old new f.0 (ran_as (came.Migrated f.0) f.1) in
              inr (inr (
                w.0,
                w.2,
                t.2.cause f.2,
                subst (λ (count : ℕ). PutsOrBreaks o (migrated_line count) before after) w.1
                    (line_put (came.Migrated f.0) status.Fault f.1 is is_no_fault usage_is_no_fault),
              ))
        ]
      ]

  pub cause : ended ≡ status.Fault → Rose (m.faults desk) (m.faults new_desk) ⊎ (FirstRose m old new ⊎ Rose (o.faults before) (o.faults after))
  cause is = elim (fault is) [
    | inl read ↦ inl (read.0.cause tt)
    | inr later ↦ elim later [
      | inl failed ↦ inr (inl (first_rose m c failed.0 old new failed.1.3))
      | inr put ↦ inr (inr put.2)
    ]
  ]

  pub no_usage : ended ≢ status.Usage
  no_usage is = (at status.Usage is is_no_usage).1

  pub no_refused : ended ≢ status.Refused
  no_refused is = (at status.Refused is is_no_refused).1
