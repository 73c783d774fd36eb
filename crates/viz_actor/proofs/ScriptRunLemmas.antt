-- The promises of a run of a script, from its account.
use Rattle.std.proofs.Common.{◌≡◌, ◌≢◌, ℕ, ◌+◌, Bool, true, false, not, cond, ◌||◌, List, [], ◌∷◌, ◌++◌, map, Result, Ok, Err, refl, sym, ap, ap₂, subst, ◌∙◌, inl, inr, true≢false, ⊎_elim}
use Rattle.std.specs.Prelude.{◌⊎◌, flat_map}
use Rattle.std.specs.List.{list_any}
use Rattle.std.proofs.lemmas.Bool.{or_cases}
use Rattle.std.proofs.lemmas.List.{append_cancel_left}
use Rattle.std.proofs.lemmas.List.Folds.{list_any-append}
use Rattle.viz_base.specs.Faults.{Rose}
use Rattle.viz_base.specs.declared.port.Port as port
use Rattle.viz_base.specs.declared.out.Out as out
use Rattle.viz_base.specs.declared.call.Call.{Call}
use Rattle.viz_base.specs.declared.call.Call.TheVariants.{Read}
use Rattle.viz_base.specs.declared.call.ReadAnswer.{ReadAnswer}
use Rattle.viz_base.specs.declared.call.ReadAnswer.TheVariants as read
use Rattle.viz_base.specs.declared.call.WriteAnswer.{WriteAnswer}
use Rattle.viz_base.specs.declared.call.WriteAnswer.TheVariants as write
use Rattle.viz_base.specs.declared.refusal.WriteRefusal.TheVariants as writing
use Rattle.viz_entries.specs.declared.entry.Entry.{Entry}
use Rattle.viz_script.specs.Orders.{Asked as Command}
use Rattle.viz_script.specs.Script.{script_of, phase_limit}
use Rattle.viz_words.specs.declared.refusal.ScriptRefusal.{ScriptRefusal}
use Rattle.viz_words.specs.Refusals.{refused_script}
use Rattle.viz_report.specs.declared.line.Line.{Line}
use Rattle.viz_report.specs.declared.line.Line.TheVariants as line
use Rattle.viz_report.specs.declared.line.Row.{Row}
use Rattle.viz_report.specs.Report.{rows_text}
use Rattle.viz_account.specs.Account.{faults_told, RoseBy, AreActors}
use Rattle.viz_account.proofs.AccountLemmas.{rose_by}
use Rattle.viz_actor.specs.declared.ran.Ran.{Ran}
use Rattle.viz_actor.specs.declared.ran.Ran.TheVariants as ran
use Rattle.viz_actor.specs.Groups.{actors_over}
use Rattle.viz_actor.specs.Deeds.{Deed, Nothing, Asked, Kept, IsAccounted, IsServed, IsEndOfScript, IsScriptRun, calls_of, is_written}
use Rattle.viz_actor.specs.Told.{ran_text, is_fault, has_memory, has_fault, has_refused, served_status, status_of, telling_of}
use Rattle.viz_told.specs.declared.status.Status.{Status}
use Rattle.viz_told.specs.declared.status.Status.TheVariants as status
use Rattle.viz_told.specs.Calls.{IsCalled}
use Rattle.viz_told.specs.Puts.{PutsOrBreaks, EndsInScript}
use Rattle.viz_told.specs.Told.{status_at_fault, status_at_memory, status_after, IsPut, IsTold}
use Rattle.viz_told.proofs.ToldLemmas.{Answer, is_no_done, is_no_usage, is_no_script, is_no_refused, is_no_fault, usage_is_no_script, usage_is_no_fault, gains, ends_in_memory, ends_in_script, told_at, puts_at}
use Rattle.viz_actor.specs.Complete.{IsRefusedBy, IsScriptExactly}
use Rattle.viz_actor.specs.Promises.{IsRefusal, IsScriptRefused, TellsRefusals, IsServedBy, IsReported, IsServedWithFault, IsUnread, IsCutOff, IdleStay, SomeRose}
use Rattle.viz_actor.proofs.ReportRowLemmas.{rows_pass}
use Rattle.viz_actor.proofs.IdleLemmas.{served_or_same, idle_ports}

-- ---- what was found, and what the put answered, by the status

-- statuses of rows, by what they have
abbrev pub by_rows : Bool → Bool → Bool → Status
by_rows memory fault refused = cond memory status.Memory (cond fault status.Fault (cond refused status.Refused status.Done))

abbrev pub ToldBy : Ran → Answer → Status → Type 0
ToldBy r a status.Done = (rows : List Row) × (r ≡ ran.Served rows true) × (served_status rows true ≡ status.Done) × (a ≡ Ok tt)
ToldBy r a status.Refused = (rows : List Row) × (r ≡ ran.Served rows true) × (served_status rows true ≡ status.Refused) × (a ≡ Ok tt)
ToldBy r a status.Script = (line : ℕ) × (why : ScriptRefusal) × (r ≡ ran.Refused line why)
ToldBy r a status.Fault =
    (r ≡ ran.Unread)
    ⊎ ((rows : List Row) × (kept : Bool) × (r ≡ ran.Served rows kept) × (has_memory rows ≡ false)
    × ((((has_fault rows || not kept) ≡ true) × (a ≡ Ok tt)) ⊎ (a ≡ Err writing.Failed)))
ToldBy r a status.Usage = ⊥
ToldBy r a status.Memory = Unit {0}

kept_all : (fault kept : Bool) → (fault || not kept) ≡ false → kept ≡ true
kept_all fault true e = refl
kept_all true false e = absurd (true≢false e)
kept_all false false e = absurd (true≢false e)

module _ (rows : List Row) (kept : Bool) where
  pub status_is : (m f r : Bool) → has_memory rows ≡ m → (has_fault rows || not kept) ≡ f → has_refused rows ≡ r
      → served_status rows kept ≡ by_rows m f r
  status_is m f r em ef er =
      ap (λ (x : Bool). by_rows x (has_fault rows || not kept) (has_refused rows)) em
      ∙ ap (λ (x : Bool). by_rows m x (has_refused rows)) ef
      ∙ ap (λ (x : Bool). by_rows m f x) er

  whole : (ended : Status) → kept ≡ true → served_status rows kept ≡ ended → (r : Ran) → r ≡ ran.Served rows kept
      → (all : List Row) × (r ≡ ran.Served all true) × (served_status all true ≡ ended) × ((let a : Answer = Ok tt in a) ≡ Ok tt)
  whole ended kept_is is r e = (rows, e ∙ ap (λ (k : Bool). ran.Served rows k) kept_is, subst (λ (k : Bool). served_status rows k ≡ ended) kept_is is, refl)

  served_told : (m f r : Bool) → has_memory rows ≡ m → (has_fault rows || not kept) ≡ f → has_refused rows ≡ r
      → ToldBy (ran.Served rows kept) (Ok tt) (by_rows m f r)
  served_told true f r em ef er = tt
  served_told false true r em ef er = inr (rows, kept, refl, em, inl (ef, refl))
  served_told false false true em ef er =
      whole status.Refused (kept_all (has_fault rows) kept ef) (status_is false false true em ef er) (ran.Served rows kept) refl
  served_told false false false em ef er =
      whole status.Done (kept_all (has_fault rows) kept ef) (status_is false false false em ef er) (ran.Served rows kept) refl

  failed_told : (m f r : Bool) → has_memory rows ≡ m → ToldBy (ran.Served rows kept) (Err writing.Failed) (status_at_fault (by_rows m f r))
  failed_told true f r em = tt
  failed_told false true r em = inr (rows, kept, refl, em, inr refl)
  failed_told false false true em = inr (rows, kept, refl, em, inr refl)
  failed_told false false false em = inr (rows, kept, refl, em, inr refl)

  no_room : (m f r : Bool) → ToldBy (ran.Served rows kept) (Err writing.Memory) (status_at_memory (by_rows m f r))
  no_room true f r = tt
  no_room false true r = tt
  no_room false false true = tt
  no_room false false false = tt

pub told_by : (r : Ran) (a : Answer) → ToldBy r a (status_after (status_of r) a)
told_by ran.Unread (Ok done) = inl refl
told_by ran.Unread (Err writing.Failed) = inl refl
told_by ran.Unread (Err writing.Memory) = tt
told_by (ran.Refused line why) (Ok done) = (line, why, refl)
told_by (ran.Refused line why) (Err writing.Failed) = (line, why, refl)
told_by (ran.Refused line why) (Err writing.Memory) = tt
told_by (ran.Served rows kept) (Ok done) = served_told rows kept (has_memory rows) (has_fault rows || not kept) (has_refused rows) refl refl refl
told_by (ran.Served rows kept) (Err writing.Failed) = failed_told rows kept (has_memory rows) (has_fault rows || not kept) (has_refused rows) refl
told_by (ran.Served rows kept) (Err writing.Memory) = no_room rows kept (has_memory rows) (has_fault rows || not kept) (has_refused rows)
told_by ran.Memory (Ok done) = tt
told_by ran.Memory (Err writing.Failed) = tt
told_by ran.Memory (Err writing.Memory) = tt

-- ---- what was done, by how the run ended

module _ {P : Type 0} (m : port.Ghosts P) (old new : List P) where
  served_deed : (deed : Deed) (rows : List Row) (kept : Bool) → IsEndOfScript m deed (ran.Served rows kept) old new
      → (bytes : List ℕ) × (text : List ℕ) × (answer : WriteAnswer) × (deed ≡ Kept bytes text answer) × IsAccounted m bytes rows text old new × (kept ≡ is_written answer)
  served_deed Nothing rows kept h = absurd h
  served_deed (Asked read.Failed) rows kept h = absurd h
  served_deed (Asked (read.TooLong taken)) rows kept h = absurd h
  served_deed (Asked (read.Given bytes)) rows kept h = absurd h
  served_deed (Kept bytes text answer) rows kept h = (bytes, text, answer, refl, h.0, h.1)

  refused_deed : (deed : Deed) (line : ℕ) (why : ScriptRefusal) → IsEndOfScript m deed (ran.Refused line why) old new
      → (answer : ReadAnswer) × (deed ≡ Asked answer) × IsRefusal (actors_over old) answer line why × (new ≡ old)
  refused_deed Nothing line why h = absurd h
  refused_deed (Asked read.Failed) line why h = absurd h
  refused_deed (Asked (read.TooLong taken)) line why h = (read.TooLong taken, refl, (h.0, h.1), h.2)
  refused_deed (Asked (read.Given bytes)) line why h = (read.Given bytes, refl, h.0, h.1)
  refused_deed (Kept bytes text answer) line why h = absurd h

  unread_deed : (deed : Deed) → IsEndOfScript m deed ran.Unread old new → (deed ≡ Asked read.Failed) × (new ≡ old)
  unread_deed Nothing h = absurd h
  unread_deed (Asked read.Failed) h = (refl, h)
  unread_deed (Asked (read.TooLong taken)) h = absurd h
  unread_deed (Asked (read.Given bytes)) h = absurd h
  unread_deed (Kept bytes text answer) h = absurd h

written_is : (answer : WriteAnswer) → true ≡ is_written answer → answer ≡ write.Written
written_is write.Written e = refl
written_is write.Failed e = absurd (true≢false e)

failed_is : (answer : WriteAnswer) → not (is_written answer) ≡ true → answer ≡ write.Failed
failed_is write.Written e = absurd (true≢false (sym e))
failed_is write.Failed e = refl

-- ---- where a script is refused

-- a deed of one read is that read
asked_deed : (script journal : List ℕ) (deed : Deed) (answer : ReadAnswer) → calls_of script journal deed ≡ Read script answer ∷ [] → deed ≡ Asked answer
asked_deed script journal Nothing answer e = absurd cc
asked_deed script journal (Asked other) answer e = cc
asked_deed script journal (Kept bytes text other) answer e = absurd cc

-- a deed whose first call is that read
first_deed : (script journal : List ℕ) (deed : Deed) (answer : ReadAnswer) (more : List Call) → calls_of script journal deed ≡ Read script answer ∷ more
    → (deed ≡ Asked answer) ⊎ ((bytes : List ℕ) × (text : List ℕ) × (wrote : WriteAnswer) × (deed ≡ Kept bytes text wrote) × (answer ≡ read.Given bytes))
first_deed script journal Nothing answer more e = absurd cc
first_deed script journal (Asked other) answer more e = (let same : other ≡ answer = cc in inl (ap Asked same))
first_deed script journal (Kept bytes text wrote) answer more e = (let same : read.Given bytes ≡ answer = cc in inr (bytes, text, wrote, refl, sym same))

-- a refusal is one
same_refusal : {X : Type 0} (a b : ℕ × ScriptRefusal) (x : Result X (ℕ × ScriptRefusal)) → x ≡ Err a → x ≡ Err b → a ≡ b
same_refusal {X} a b x e f = (let both : (let o : Result X (ℕ × ScriptRefusal) = Err a in o) ≡ Err b = sym e ∙ f in cc)

module _ {P : Type 0} (m : port.Ghosts P) (old new : List P) where
  -- a run whose script is refused so, or that ran out of memory
  abbrev EndsRefused : ℕ → ScriptRefusal → Ran → Type 0
  EndsRefused line why found = (new ≡ old) × ((found ≡ ran.Memory) ⊎ (found ≡ ran.Refused line why))

  refused_or_memory : (answer : ReadAnswer) (line : ℕ) (why : ScriptRefusal) (found : Ran) → IsRefusal (actors_over old) answer line why → IsEndOfScript m (Asked answer) found old new
      → EndsRefused line why found
  refused_or_memory read.Failed line why found is h = absurd is
  refused_or_memory (read.TooLong taken) line why (ran.Refused l r) is h = (h.2, inr (ap₂ ran.Refused (h.0 ∙ sym is.0) (h.1 ∙ sym is.1)))
  refused_or_memory (read.TooLong taken) line why ran.Unread is h = absurd h
  refused_or_memory (read.TooLong taken) line why (ran.Served rows kept) is h = absurd h
  refused_or_memory (read.TooLong taken) line why ran.Memory is h = absurd h
  refused_or_memory (read.Given bytes) line why (ran.Refused l r) is h =
      (h.1, inr (ap (λ (x : ℕ × ScriptRefusal). ran.Refused x.0 x.1) (same_refusal (l, r) (line, why) (script_of (actors_over old) bytes) h.0 is)))
  refused_or_memory (read.Given bytes) line why ran.Memory is h = (unserved h, inl refl)
    where
      unserved : (new ≡ old) ⊎ IsServed m bytes old new → new ≡ old
      unserved (inl same) = same
      unserved (inr s) = absurd (let bad : Ok s.2.steps ≡ Err (line, why) = sym s.2.reads ∙ is in cc)
  refused_or_memory (read.Given bytes) line why ran.Unread is h = absurd h
  refused_or_memory (read.Given bytes) line why (ran.Served rows kept) is h = absurd h

  -- a served script isn't refused
  kept_reads : (bytes text : List ℕ) (wrote : WriteAnswer) (found : Ran) → IsEndOfScript m (Kept bytes text wrote) found old new → IsRefusedBy (actors_over old) (read.Given bytes) → ⊥
  kept_reads bytes text wrote (ran.Served rows kept) h is = (let bad : Ok h.0.steps ≡ Err (is.0, is.1) = sym h.0.reads ∙ is.2 in cc)
  kept_reads bytes text wrote ran.Memory h is = h
  kept_reads bytes text wrote ran.Unread h is = h
  kept_reads bytes text wrote (ran.Refused line r) h is = h

module _ {O : Type 0} (o : out.Ghosts O) (old new : O) (ended : Status) where
  -- the status of a script that is refused so, or that ran out of memory
  script_ends : (line : ℕ) (why : ScriptRefusal) (found : Ran) → (found ≡ ran.Memory) ⊎ (found ≡ ran.Refused line why) → IsTold o (telling_of found) ended old new
      → EndsInScript o (refused_script line why) old new ended
  script_ends line why found (inl memory) told = inr (ends_in_memory o old new ended (telling_of found) (ap status_of memory) told)
  script_ends line why found (inr same) told =
      ends_in_script o old new ended (telling_of (ran.Refused line why)) refl (subst (λ (x : Ran). IsTold o (telling_of x) ended old new) same told)

-- ---- counts of faults

one_fault : (ls : List Line) → list_any is_fault ls ≡ true → (n : ℕ) × (faults_told ls ≡ n + 1)
one_fault [] e = absurd (true≢false (sym e))
one_fault (line.ReadFault ∷ ls) e = (faults_told ls, refl)
one_fault (line.WriteFault ∷ ls) e = (faults_told ls, refl)
one_fault (line.Edit at ∷ ls) e = one_fault ls e
one_fault (line.File at cells points ran ∷ ls) e = one_fault ls e
one_fault (line.Audit at sides two lone border ∷ ls) e = one_fault ls e
one_fault (line.Refused reason at ∷ ls) e = one_fault ls e
one_fault (line.Memory ∷ ls) e = one_fault ls e

any_flat : (xs ys : List Line) → list_any is_fault (xs ++ ys) ≡ true → (list_any is_fault xs ≡ true) ⊎ (list_any is_fault ys ≡ true)
any_flat xs ys e = or_cases (list_any is_fault xs) (list_any is_fault ys) (sym (list_any-append is_fault xs ys) ∙ e)

module _ {P : Type 0} (m : port.Ghosts P) (limit : ℕ) (h : List Entry) (ends : List ℕ) where
  pub some_rose : (passes : List (List ℕ)) (script : List (List (List Command))) (told : List (List (List Line))) (before after : List P)
      → AreActors m limit h passes script told ends before after → list_any is_fault (flat_map (λ (phases : List (List Line)). flat_map (λ (ls : List Line). ls) phases) told) ≡ true → SomeRose m before after
  some_rose [] [] [] before after a e = absurd (true≢false (sym e))
  some_rose [] [] (l ∷ told) before after a e = absurd a
  some_rose [] (s ∷ script) told before after a e = absurd a
  some_rose (p ∷ passes) [] told before after a e = absurd a
  some_rose (p ∷ passes) (s ∷ script) [] before after a e = absurd a
  some_rose (p ∷ passes) (s ∷ script) (l ∷ told) [] after a e = absurd a
  some_rose (p ∷ passes) (s ∷ script) (l ∷ told) (b ∷ before) [] a e = absurd a
  some_rose (p ∷ passes) (s ∷ script) (l ∷ told) (b ∷ before) (c ∷ after) a e =
      ⊎_elim (λ mine.
      let f = one_fault (flat_map (λ (ls : List Line). ls) l) mine in
      inl (rose_by f.0 (m.faults b) (m.faults c) (subst (λ (n : ℕ). RoseBy n (m.faults b) (m.faults c)) f.1 a.0.faults)))
      (λ others. inr (some_rose passes script told before after a.1 others))
      (any_flat (flat_map (λ (ls : List Line). ls) l) (flat_map (λ (phases : List (List Line)). flat_map (λ (ls : List Line). ls) phases) told) e)

-- ---- the promises

module _ {P O : Type 0} (m : port.Ghosts P) (o : out.Ghosts O) (script journal : List ℕ) (desk new_desk : P) (old new : List P) (before after : O) (ended : Status)
    (found : Ran) (came : IsScriptRun m script journal found desk new_desk old new) (told : IsTold o (telling_of found) ended before after) where
  deed_is : (deed : Deed) → came.0 ≡ deed → IsCalled m (calls_of script journal deed) desk new_desk
  deed_is deed is = subst (λ (d : Deed). IsCalled m (calls_of script journal d) desk new_desk) is came.2

  ends_in : (r : Ran) → found ≡ r → IsEndOfScript m came.0 r old new
  ends_in r is = subst (λ (x : Ran). IsEndOfScript m came.0 x old new) is came.1

  served_rows : (rows : List Row) (kept : Bool) → found ≡ ran.Served rows kept
      → (answer : WriteAnswer) × IsServedBy m script journal rows answer desk new_desk old new × (kept ≡ is_written answer)
  served_rows rows kept is =
      let d = served_deed m old new came.0 rows kept (ends_in (ran.Served rows kept) is) in
      (d.2, (d.0, d.1, d.4, deed_is (Kept d.0 d.1 d.2) d.3), d.5)

  -- what was found and put, by a status that is known
  at : (known : Status) → ended ≡ known → (status.Memory ≡ known → ⊥) → (a : Answer) × ToldBy found a known × IsPut o (ran_text found) a before after
  at known is apart = told_at o before after ended (telling_of found) (ToldBy found) (told_by found) known told is apart

  text_put : (r : Ran) (known : Status) → found ≡ r → ended ≡ known → (status.Memory ≡ known → ⊥) → (status.Usage ≡ known → ⊥) → PutsOrBreaks o (ran_text r) before after
  text_put r known same is apart other =
      subst (λ (x : Ran). PutsOrBreaks o (ran_text x) before after) same (puts_at o before after ended (telling_of found) known told is apart other)

  reported : (known : Status) → ended ≡ known → (status.Memory ≡ known → ⊥)
      → ((a : Answer) → ToldBy found a known → (rows : List Row) × (found ≡ ran.Served rows true) × (served_status rows true ≡ known) × (a ≡ Ok tt))
      → IsReported m o script journal known desk new_desk old new before after
  reported known is apart tells =
      let w = at known is apart in
      let t = tells w.0 w.1 in
      let s = served_rows t.0 true t.1 in (
        t.0,
        subst (λ (answer : WriteAnswer). IsServedBy m script journal t.0 answer desk new_desk old new) (written_is s.0 s.2) s.1,
        t.2,
        gains o (rows_text t.0) before after w.0 t.3 (subst (λ (x : Ran). IsPut o (ran_text x) w.0 before after) t.1 w.2),
      )

  pub done : ended ≡ status.Done → IsReported m o script journal status.Done desk new_desk old new before after
  done is = reported status.Done is is_no_done (λ a t. t)

  pub refused : ended ≡ status.Refused → IsReported m o script journal status.Refused desk new_desk old new before after
  refused is = reported status.Refused is is_no_refused (λ a t. t)

  pub script_refused : ended ≡ status.Script → IsScriptRefused m o script journal desk new_desk old new before after
  script_refused is =
      let t = (at status.Script is is_no_script).1 in
      let d = refused_deed m old new came.0 t.0 t.1 (ends_in (ran.Refused t.0 t.1) t.2) in
      (d.0, t.0, t.1, d.2, deed_is (Asked d.0) d.1, d.3, text_put (ran.Refused t.0 t.1) status.Script t.2 is is_no_script usage_is_no_script)

  pub tells_refusals : TellsRefusals m o script desk new_desk old new before after ended
  tells_refusals = λ answer line why is tells asked.
      let same = append_cancel_left (m.calls desk) (calls_of script journal came.0) (Read script answer ∷ []) (sym (came.2.calls tells) ∙ asked) in
      let deed = asked_deed script journal came.0 answer same in
      let f = refused_or_memory m old new answer line why found is (subst (λ (d : Deed). IsEndOfScript m d found old new) deed came.1) in
      (f.0, script_ends o before after ended line why found f.1 told)

  -- by the first call, which was the script's read
  refused_at : (answer : ReadAnswer) (more : List Call) → calls_of script journal came.0 ≡ Read script answer ∷ more → ended ≡ status.Script → IsRefusedBy (actors_over old) answer
  refused_at answer more same is =
      let t = (at status.Script is is_no_script).1 in
      let d = refused_deed m old new came.0 t.0 t.1 (ends_in (ran.Refused t.0 t.1) t.2) in
      let calls : Read script d.0 ∷ [] ≡ Read script answer ∷ more = sym (ap (calls_of script journal) d.1) ∙ same in
      let one : d.0 ≡ answer = cc in
      (t.0, t.1, subst (λ (a : ReadAnswer). IsRefusal (actors_over old) a t.0 t.1) one d.2)

  script_or_memory : (answer : ReadAnswer) (more : List Call) → calls_of script journal came.0 ≡ Read script answer ∷ more → IsRefusedBy (actors_over old) answer → (ended ≡ status.Script) ⊎ (ended ≡ status.Memory)
  script_or_memory answer more same is = elim (first_deed script journal came.0 answer more same) [
    | inl deed ↦
        let f = refused_or_memory m old new answer is.0 is.1 found is.2 (subst (λ (d : Deed). IsEndOfScript m d found old new) deed came.1) in
        elim (script_ends o before after ended is.0 is.1 found f.1 told) [ inl t ↦ inl t.0 | inr memory ↦ inr memory ]
    | inr k ↦
        absurd (kept_reads m old new k.0 k.1 k.2 found (subst (λ (d : Deed). IsEndOfScript m d found old new) {y = Kept k.0 k.1 k.2} k.3 came.1) (subst (IsRefusedBy (actors_over old)) k.4 is))
  ]

  pub script_exactly : IsScriptExactly m script desk new_desk old ended
  script_exactly = λ answer more tells first.
      let same = append_cancel_left (m.calls desk) (calls_of script journal came.0) (Read script answer ∷ more) (sym (came.2.calls tells) ∙ first) in
      (refused_at answer more same, script_or_memory answer more same)

  unread : found ≡ ran.Unread → ended ≡ status.Fault → IsUnread m o script journal desk new_desk old new before after
  unread same is =
      let d = unread_deed m old new came.0 (ends_in ran.Unread same) in
      (deed_is (Asked read.Failed) d.0, d.1, text_put ran.Unread status.Fault same is is_no_fault usage_is_no_fault)

  why : (rows : List Row) (kept : Bool) (answer : WriteAnswer) (a : Answer) → kept ≡ is_written answer → IsPut o (ran_text found) a before after
      → (((has_fault rows || not kept) ≡ true) × (a ≡ Ok tt)) ⊎ (a ≡ Err writing.Failed)
      → (has_fault rows ≡ true) ⊎ ((answer ≡ write.Failed) ⊎ Rose (o.faults before) (o.faults after))
  why rows kept answer a is put (inl t) =
      ⊎_elim (λ (line : has_fault rows ≡ true). inl line) (λ (lost : not kept ≡ true). inr (inl (failed_is answer (sym (ap not is) ∙ lost)))) (or_cases (has_fault rows) (not kept) t.0)
  why rows kept answer a is put (inr failed) = inr (inr (put.cause failed))

  pub fault : ended ≡ status.Fault → IsServedWithFault m o script journal desk new_desk old new before after ⊎ IsUnread m o script journal desk new_desk old new before after
  fault is =
      let w = at status.Fault is is_no_fault in
      elim w.1 [
        | inl same ↦ inr (unread same is)
        | inr t ↦
            let s = served_rows t.0 t.1 t.2 in
            inl (t.0, s.0, s.1, t.3, why t.0 t.1 s.0 w.0 s.2 w.2 t.4, text_put (ran.Served t.0 t.1) status.Fault t.2 is is_no_fault usage_is_no_fault)
      ]

  rose_in : (rows : List Row) (answer : WriteAnswer) → IsServedBy m script journal rows answer desk new_desk old new
      → (has_fault rows ≡ true) ⊎ ((answer ≡ write.Failed) ⊎ Rose (o.faults before) (o.faults after))
      → Rose (m.faults desk) (m.faults new_desk) ⊎ (SomeRose m old new ⊎ Rose (o.faults before) (o.faults after))
  rose_in rows answer s (inl line) =
      inr (inl (some_rose m _ s.2.history s.2.account.ends s.2.account.passes _ s.2.told old new s.2.account.actors (rows_pass is_fault phase_limit (map (λ (actor : List (List Line)). 1) s.2.told) s.2.told (sym (ap has_fault s.2.rows_are) ∙ line))))
  rose_in rows answer s (inr (inl lost)) = inl ((subst (λ (a : WriteAnswer). IsCalled m (calls_of script journal (Kept s.0 s.1 a)) desk new_desk) lost s.3).cause tt)
  rose_in rows answer s (inr (inr text)) = inr (inr text)

  pub cause : ended ≡ status.Fault → Rose (m.faults desk) (m.faults new_desk) ⊎ (SomeRose m old new ⊎ Rose (o.faults before) (o.faults after))
  cause is = elim (fault is) [
    | inl s ↦ rose_in s.0 s.1 s.2 s.4
    | inr u ↦ inl (u.0.cause tt)
  ]

  cut_off_in : (deed : Deed) (r : Ran) → IsEndOfScript m deed r old new → IsCalled m (calls_of script journal deed) desk new_desk → IsCutOff m script journal desk new_desk old new
  cut_off_in Nothing ran.Memory h d = inl (inl d, h)
  cut_off_in Nothing ran.Unread h d = absurd h
  cut_off_in Nothing (ran.Refused line r) h d = absurd h
  cut_off_in Nothing (ran.Served rows kept) h d = absurd h
  cut_off_in (Asked read.Failed) ran.Unread h d = inl (inr (read.Failed, d), h)
  cut_off_in (Asked read.Failed) ran.Memory h d = absurd h
  cut_off_in (Asked read.Failed) (ran.Refused line r) h d = absurd h
  cut_off_in (Asked read.Failed) (ran.Served rows kept) h d = absurd h
  cut_off_in (Asked (read.TooLong taken)) (ran.Refused line r) h d = inl (inr (read.TooLong taken, d), h.2)
  cut_off_in (Asked (read.TooLong taken)) ran.Memory h d = absurd h
  cut_off_in (Asked (read.TooLong taken)) ran.Unread h d = absurd h
  cut_off_in (Asked (read.TooLong taken)) (ran.Served rows kept) h d = absurd h
  cut_off_in (Asked (read.Given bytes)) (ran.Refused line r) h d = inl (inr (read.Given bytes, d), h.1)
  cut_off_in (Asked (read.Given bytes)) ran.Memory h d = elim h [ inl same ↦ inl (inr (read.Given bytes, d), same) | inr served ↦ inr (inl (bytes, served, d)) ]
  cut_off_in (Asked (read.Given bytes)) ran.Unread h d = absurd h
  cut_off_in (Asked (read.Given bytes)) (ran.Served rows kept) h d = absurd h
  cut_off_in (Kept bytes text answer) (ran.Served rows kept) h d = inr (inr (rows, answer, (bytes, text, h.0, d)))
  cut_off_in (Kept bytes text answer) ran.Memory h d = absurd h
  cut_off_in (Kept bytes text answer) ran.Unread h d = absurd h
  cut_off_in (Kept bytes text answer) (ran.Refused line r) h d = absurd h

  pub cut_off : IsCutOff m script journal desk new_desk old new
  cut_off = cut_off_in came.0 found came.1 came.2

  pub idle_stay : IdleStay m script journal desk new_desk old new
  idle_stay = (came.0, came.2, λ i none. idle_ports m old new came.0 (served_or_same m old new came.0 found came.1) i none)

  pub no_usage : ended ≢ status.Usage
  no_usage is = (at status.Usage is is_no_usage).1
