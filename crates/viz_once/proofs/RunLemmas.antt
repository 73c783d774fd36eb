-- The promises of a run, from its account.
use Rattle.std.proofs.Common.{◌≡◌, ℕ, List, [], ◌∷◌, ◌++◌, refl, sym, ap, subst, ◌∙◌, inl, inr}
use Rattle.std.specs.Prelude.{IsTrue, ◌⊎◌}
use Rattle.std.proofs.lemmas.List.{append_cancel_left}
use Rattle.viz_base.specs.Faults.{Rose}
use Rattle.viz_base.specs.declared.port.Port as port
use Rattle.viz_base.specs.declared.out.Out as out
use Rattle.viz_base.specs.declared.call.Call.TheVariants.{Read}
use Rattle.viz_base.specs.declared.call.ReadAnswer.{ReadAnswer}
use Rattle.viz_base.specs.declared.call.ReadAnswer.TheVariants as read
use Rattle.viz_base.specs.declared.call.WriteAnswer.TheVariants as write
use Rattle.viz_report.specs.declared.line.Reason.{Reason}
use Rattle.viz_reshape.specs.declared.reshape.FileCounts.{FileCounts}
use Rattle.viz_told.specs.declared.status.Status.{Status}
use Rattle.viz_told.specs.declared.status.Status.TheVariants as status
use Rattle.viz_told.specs.Calls.{HasFailed}
use Rattle.viz_told.specs.Ports.{FirstRose, OthersStay}
use Rattle.viz_told.specs.Puts.{PutsOrBreaks, EndsInScript}
use Rattle.viz_told.specs.Lines.{no_port_line}
use Rattle.viz_told.specs.Told.{IsPut, IsTold}
use Rattle.viz_told.proofs.ToldLemmas.{Answer, is_no_done, is_no_usage, is_no_script, is_no_refused, is_no_fault, usage_is_no_script, gains, ends_in_script, told_at, puts_at}
use Rattle.viz_once.specs.declared.outcome.Failed.{Failed}
use Rattle.viz_once.specs.declared.outcome.Failed.TheVariants as call
use Rattle.viz_once.specs.declared.outcome.Outcome.{Outcome}
use Rattle.viz_once.specs.declared.outcome.Outcome.TheVariants as outcome
use Rattle.viz_once.specs.Account.{Deed, Nothing, Asked, Answered, calls_of, EndsUnwritten, IsOutcomeOf, Serves}
use Rattle.viz_once.specs.Command.{Command}
use Rattle.viz_once.specs.Files.{IsMadeFor}
use Rattle.viz_once.specs.Promises.{IsScript, IsDone, IsRefused, TellsRefusals, IsFault, FirstDid, FirstAnswered, fault_line, WritesFile}
use Rattle.viz_once.specs.Reasons.{IsReason}
use Rattle.viz_once.specs.Report.{line_of, telling_of}
use Rattle.viz_once.proofs.EndLemmas.{ToldBy, told_by, refused_ends}
use Rattle.viz_once.proofs.ReasonLemmas.{FiltersAreOne, failed_none, one_reason}

-- ---- what a served command did, by its outcome

-- the deed of a written file
abbrev Wrote : Command → Deed → FileCounts → Type 0
Wrote c deed counts = (bytes text : List ℕ) × (deed ≡ Answered bytes text write.Written) × IsMadeFor c.filter bytes text counts

told_counts : (c : Command) (bytes text : List ℕ) (counts others : FileCounts) → outcome.Written counts ≡ outcome.Written others → IsMadeFor c.filter bytes text others
    → IsMadeFor c.filter bytes text counts
told_counts c bytes text counts others e made =
    let same : counts ≡ others = cc in
    subst (IsMadeFor c.filter bytes text) (sym same) made

written_deed : (c : Command) (deed : Deed) (counts : FileCounts) → IsOutcomeOf c deed (outcome.Written counts) → Wrote c deed counts
written_deed c Nothing counts h = absurd (let e : outcome.Written counts ≡ outcome.Memory = h in cc)
written_deed c (Asked (read.Given bytes)) counts h = absurd (elim h [
  | inl e ↦ let bad : outcome.Written counts ≡ outcome.Memory = e in cc
  | inr r ↦ let bad : outcome.Written counts ≡ outcome.Refused r.0 = r.2 in cc
])
written_deed c (Asked (read.TooLong taken)) counts h = absurd (let e : outcome.Written counts ≡ outcome.Refused h.0 = h.2 in cc)
written_deed c (Asked read.Failed) counts h = absurd (let e : outcome.Written counts ≡ outcome.Fault call.Read = h in cc)
written_deed c (Answered bytes text write.Written) counts h = (bytes, text, refl, told_counts c bytes text counts h.0 h.2 h.1)
written_deed c (Answered bytes text write.Failed) counts h = absurd (let e : outcome.Written counts ≡ outcome.Fault call.Write = h.1 in cc)

-- the deed of a refusal
refused_deed : (c : Command) (deed : Deed) (why : Reason) → IsOutcomeOf c deed (outcome.Refused why)
    → (answer : ReadAnswer) × (deed ≡ Asked answer) × IsReason c.filter answer why
refused_deed c Nothing why h = absurd (let e : outcome.Refused why ≡ outcome.Memory = h in cc)
refused_deed c (Asked (read.Given bytes)) why h = (
  read.Given bytes,
  refl,
  elim h [
    | inl e ↦ absurd (let bad : outcome.Refused why ≡ outcome.Memory = e in cc)
    | inr r ↦ let same : why ≡ r.0 = (let e : outcome.Refused why ≡ outcome.Refused r.0 = r.2 in cc) in subst (IsReason c.filter (read.Given bytes)) (sym same) r.1
  ],
)
refused_deed c (Asked (read.TooLong taken)) why h =
    let same : why ≡ h.0 = (let e : outcome.Refused why ≡ outcome.Refused h.0 = h.2 in cc) in
    (read.TooLong taken, refl, subst (IsReason c.filter (read.TooLong taken)) (sym same) h.1)
refused_deed c (Asked read.Failed) why h = absurd (let e : outcome.Refused why ≡ outcome.Fault call.Read = h in cc)
refused_deed c (Answered bytes text write.Written) why h = absurd (let e : outcome.Refused why ≡ outcome.Written h.0 = h.2 in cc)
refused_deed c (Answered bytes text write.Failed) why h = absurd (let e : outcome.Refused why ≡ outcome.Fault call.Write = h.1 in cc)

-- the deed of a failed call
failed_deed : (c : Command) (deed : Deed) (failed : Failed) → IsOutcomeOf c deed (outcome.Fault failed)
    → HasFailed (calls_of c deed) × WritesFile c deed × (line_of (outcome.Fault failed) ≡ fault_line deed)
failed_deed c Nothing failed h = absurd (let e : outcome.Fault failed ≡ outcome.Memory = h in cc)
failed_deed c (Asked (read.Given bytes)) failed h = absurd (elim h [
  | inl e ↦ let bad : outcome.Fault failed ≡ outcome.Memory = e in cc
  | inr r ↦ let bad : outcome.Fault failed ≡ outcome.Refused r.0 = r.2 in cc
])
failed_deed c (Asked (read.TooLong taken)) failed h = absurd (let e : outcome.Fault failed ≡ outcome.Refused h.0 = h.2 in cc)
failed_deed c (Asked read.Failed) failed h = (tt, tt, ap line_of h)
failed_deed c (Answered bytes text write.Written) failed h = absurd (let e : outcome.Fault failed ≡ outcome.Written h.0 = h.2 in cc)
failed_deed c (Answered bytes text write.Failed) failed h = (tt, h.0, ap line_of h.1)

-- a served command has a port
never_no_port : (c : Command) (deed : Deed) → IsOutcomeOf c deed outcome.NoPort → ⊥
never_no_port c Nothing h = let e : (let o : Outcome = outcome.NoPort in o) ≡ outcome.Memory = h in cc
never_no_port c (Asked (read.Given bytes)) h = elim h [
  | inl e ↦ let bad : (let o : Outcome = outcome.NoPort in o) ≡ outcome.Memory = e in cc
  | inr r ↦ let bad : (let o : Outcome = outcome.NoPort in o) ≡ outcome.Refused r.0 = r.2 in cc
]
never_no_port c (Asked (read.TooLong taken)) h = let e : (let o : Outcome = outcome.NoPort in o) ≡ outcome.Refused h.0 = h.2 in cc
never_no_port c (Asked read.Failed) h = let e : (let o : Outcome = outcome.NoPort in o) ≡ outcome.Fault call.Read = h in cc
never_no_port c (Answered bytes text write.Written) h = let e : (let o : Outcome = outcome.NoPort in o) ≡ outcome.Written h.0 = h.2 in cc
never_no_port c (Answered bytes text write.Failed) h = let e : (let o : Outcome = outcome.NoPort in o) ≡ outcome.Fault call.Write = h.1 in cc

-- ---- what a run did

module _ {P : Type 0} (m : port.Ghosts P) (c : Command) where
  -- a command without a port is just one that has that outcome
  lacks : (old new : List P) → Serves m c outcome.NoPort old new → (old ≡ []) × (new ≡ [])
  lacks [] new h = (refl, h.1)
  lacks (p ∷ ps) [] h = absurd h
  lacks (p ∷ ps) (q ∷ qs) h = absurd (never_no_port c h.0.0 h.0.1)

  found_portless : (o : Outcome) (old new : List P) → old ≡ [] → Serves m c o old new → o ≡ outcome.NoPort
  found_portless o old new none h = (subst (λ (ps : List P). Serves m c o ps new) none h).0

  -- the first port served a command
  served : (o : Outcome) (old new : List P) → Serves m c o old new → (o ≡ outcome.NoPort → ⊥) → (deed : Deed) × IsOutcomeOf c deed o × FirstDid m c deed old new
  served o [] new h no_lack = absurd (no_lack h.0)
  served o (p ∷ ps) [] h no_lack = absurd h
  served o (p ∷ ps) (q ∷ qs) h no_lack = (h.0.0, h.0.1, (h.0.2, h.1))

  -- all other ports are as before
  pub others-Run : (o : Outcome) (old new : List P) → Serves m c o old new → OthersStay old new
  others-Run o [] new h = h.1
  others-Run o (p ∷ ps) [] h = absurd h
  others-Run o (p ∷ ps) (q ∷ qs) h = h.1

  -- a failed call is counted
  first_rose : (deed : Deed) (old new : List P) → HasFailed (calls_of c deed) → FirstDid m c deed old new → FirstRose m old new
  first_rose deed [] new failed did = absurd did
  first_rose deed (p ∷ ps) [] failed did = absurd did
  first_rose deed (p ∷ ps) (q ∷ qs) failed did = (did.0.cause failed, did.1)

  module _ {O : Type 0} (l : out.Ghosts O) (old new : List P) (before after : O) (found : Outcome) (ended : Status)
      (serves : Serves m c found old new) (told : IsTold l (telling_of found) ended before after) where
    serves_as : (o : Outcome) → found ≡ o → Serves m c o old new
    serves_as o is = subst (λ (x : Outcome). Serves m c x old new) is serves

    put_as : (o : Outcome) (a : Answer) → found ≡ o → IsPut l (line_of found) a before after → IsPut l (line_of o) a before after
    put_as o a is put = subst (λ (x : Outcome). IsPut l (line_of x) a before after) is put

    -- what was found and put, by a status that is known
    at : (known : Status) → ended ≡ known → (status.Memory ≡ known → ⊥) → (a : Answer) × ToldBy found a known × IsPut l (line_of found) a before after
    at known is apart = told_at l before after ended (telling_of found) (ToldBy found) (told_by found) known told is apart

    pub usage-Run : ended ≡ status.Usage → ⊥
    usage-Run is = (at status.Usage is is_no_usage).1

    pub script-Run : ended ≡ status.Script → IsScript m l old new before after
    script-Run is =
        let o : Outcome = outcome.NoPort in
        let same : found ≡ o = (at status.Script is is_no_script).1 in
        let none = lacks old new (serves_as o same) in (
          none.0,
          none.1,
          subst (λ (x : Outcome). PutsOrBreaks l (line_of x) before after) same
              (puts_at l before after ended (telling_of found) status.Script told is is_no_script usage_is_no_script),
        )

    pub no_port-Run : old ≡ [] → EndsInScript l no_port_line before after ended
    no_port-Run none =
        ends_in_script l before after ended (telling_of outcome.NoPort) refl
        (subst (λ (x : Outcome). IsTold l (telling_of x) ended before after) (found_portless found old new none serves) told)

    pub done-Run : ended ≡ status.Done → IsDone m l c old new before after
    done-Run is =
        let w = at status.Done is is_no_done in
        let t = w.1 in
        let o = outcome.Written t.0 in
        let s = served o old new (serves_as o t.1) (λ e. cc) in
        let d = written_deed c s.0 t.0 s.1 in
        let lines = gains l (line_of o) before after w.0 t.2 (put_as o w.0 t.1 w.2) in
        (d.0, d.1, t.0, d.3, subst (λ (x : Deed). FirstDid m c x old new) {y = Answered d.0 d.1 write.Written} d.2 s.2, lines)

    pub refused-Run : ended ≡ status.Refused → IsRefused m l c old new before after
    refused-Run is =
        let w = at status.Refused is is_no_refused in
        let t = w.1 in
        let o = outcome.Refused t.0 in
        let s = served o old new (serves_as o t.1) (λ e. cc) in
        let d = refused_deed c s.0 t.0 s.1 in
        (d.0, t.0, d.2, subst (λ (x : Deed). FirstDid m c x old new) d.1 s.2, gains l (line_of o) before after w.0 t.2 (put_as o w.0 t.1 w.2))

    pub fault-Run : ended ≡ status.Fault → IsFault m l c old new before after
    fault-Run is =
        let w = at status.Fault is is_no_fault in
        elim w.1 [
          | inl t ↦
              let o = outcome.Fault t.0 in
              let s = served o old new (serves_as o t.1) (λ e. cc) in
              let d = failed_deed c s.0 t.0 s.1 in
              let lines = gains l (line_of o) before after w.0 t.2 (put_as o w.0 t.1 w.2) in
              inl (s.0, d.0, d.1, s.2, λ told. lines told ∙ ap (λ (x : List ℕ). l.text before ++ x) d.2)
          | inr failed ↦ inr (w.2.cause failed)
        ]

    pub cause-Run : ended ≡ status.Fault → FirstRose m old new ⊎ Rose (l.faults before) (l.faults after)
    cause-Run is = elim (fault-Run is) [
      | inl f ↦ inl (first_rose f.0 old new f.1 f.3)
      | inr put ↦ inr put
    ]

-- ---- where a reason holds

-- a deed of one read is that read
asked_deed : (c : Command) (deed : Deed) (answer : ReadAnswer) → calls_of c deed ≡ Read c.input answer ∷ [] → deed ≡ Asked answer
asked_deed c Nothing answer e = absurd cc
asked_deed c (Asked other) answer e = cc
asked_deed c (Answered bytes text other) answer e = absurd cc

module _ (files : FiltersAreOne) where
  -- the outcome of a command that is refused for a reason
  refused_or_memory : (c : Command) (answer : ReadAnswer) (why : Reason) (o : Outcome) → IsReason c.filter answer why → EndsUnwritten c answer o
      → (o ≡ outcome.Memory) ⊎ (o ≡ outcome.Refused why)
  refused_or_memory c (read.Given bytes) why o is (inl memory) = inl memory
  refused_or_memory c (read.Given bytes) why o is (inr r) = inr (r.2 ∙ ap outcome.Refused (one_reason files c.filter (read.Given bytes) r.0 why r.1 is))
  refused_or_memory c (read.TooLong taken) why o is r = inr (r.2 ∙ ap outcome.Refused (one_reason files c.filter (read.TooLong taken) r.0 why r.1 is))
  refused_or_memory c read.Failed why o is r = absurd (failed_none c.filter why is)

  module _ {P : Type 0} (m : port.Ghosts P) where
    refused_at : (c : Command) (answer : ReadAnswer) (why : Reason) (o : Outcome) (old new : List P) → IsReason c.filter answer why → IsTrue m.tells_calls
        → FirstAnswered m c answer old new → Serves m c o old new → (o ≡ outcome.Memory) ⊎ (o ≡ outcome.Refused why)
    refused_at c answer why o [] new is tells asked h = absurd asked
    refused_at c answer why o (p ∷ ps) [] is tells asked h = absurd asked
    refused_at c answer why o (p ∷ ps) (q ∷ qs) is tells asked h =
        let deed = h.0.0 in
        let same : calls_of c deed ≡ Read c.input answer ∷ [] = append_cancel_left (m.calls p) (calls_of c deed) (Read c.input answer ∷ []) (sym (h.0.2.calls tells) ∙ asked.0) in
        refused_or_memory c answer why o is (subst (λ (d : Deed). IsOutcomeOf c d o) (asked_deed c deed answer same) h.0.1)

    pub refuses-Run : {O : Type 0} (l : out.Ghosts O) (c : Command) (old new : List P) (before after : O) (found : Outcome) (ended : Status)
        → Serves m c found old new → IsTold l (telling_of found) ended before after → TellsRefusals m l c old new before after ended
    refuses-Run l c old new before after found ended serves told = record {
      no_port = no_port-Run m c l old new before after found ended serves told;
      reasons = λ answer why is tells asked. refused_ends l why before after ended found (refused_at c answer why found old new is tells asked serves) told;
    }
